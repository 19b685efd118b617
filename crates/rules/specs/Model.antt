-- The book as lists and numbers. Assumes nothing.
use Rattle.std.specs.Prelude.{ℕ, List, [], ◌∷◌, Some, None, Option}
use Rattle.ranked.specs.Ranked.{ahead, inserted}
use Rattle.rules.specs.declared.terms.Entry.{Entry}
use Rattle.rules.specs.declared.terms.Routed.{Routed}
use Rattle.rules.specs.declared.terms.Side.{Side}
use Rattle.rules.specs.declared.terms.Side.TheVariants.{Buy, Sell}
use Rattle.rules.specs.Prices.{national}
use Rattle.rules.specs.Ranks.{rank_of, rank_before}

-- what a book is opened with: the places of each side, the tick and the series
pub record Opening : Type 0 where
  pub bid_places : ℕ
  pub offer_places : ℕ
  pub tick : ℕ
  pub series : ℕ

-- the highest id and the last working time
pub record Counters : Type 0 where
  pub last_id : ℕ
  pub last_time : ℕ

-- the entries of each side in rank order, the orders out, the away prices, the counters and the opening
pub record Model : Type 0 where
  pub bids : List Entry
  pub offers : List Entry
  pub out : List Routed
  pub away_bid : Option ℕ
  pub away_offer : Option ℕ
  pub counters : Counters
  pub opening : Opening

abbrev pub entries : Side → Model → List Entry
entries Buy m = m.bids
entries Sell m = m.offers

abbrev pub away : Side → Model → Option ℕ
away Buy m = m.away_bid
away Sell m = m.away_offer

abbrev pub places : Side → Model → ℕ
places Buy m = m.opening.bid_places
places Sell m = m.opening.offer_places

-- the same book with other entries on a side
abbrev pub with_entries : Side → List Entry → Model → Model
with_entries Buy es m = record m { bids = es }
with_entries Sell es m = record m { offers = es }

-- with another away price on a side
abbrev pub with_away : Side → Option ℕ → Model → Model
with_away Buy p m = record m { away_bid = p }
with_away Sell p m = record m { away_offer = p }

-- with other orders out
abbrev pub with_out : List Routed → Model → Model
with_out rs m = record m { out = rs }

-- with other counters
abbrev pub with_counters : Counters → Model → Model
with_counters n m = record m { counters = n }

-- this id is now the highest
abbrev pub with_last_id : ℕ → Model → Model
with_last_id i m = with_counters (record m.counters { last_id = i }) m

-- this working time is now the last
abbrev pub with_last_time : ℕ → Model → Model
with_last_time t m = with_counters (record m.counters { last_time = t }) m

-- the price of the first entry
abbrev pub best : List Entry → Option ℕ
best [] = None
best (e ∷ es) = Some e.price

-- the national best price on a side
abbrev pub national_best : Side → Model → Option ℕ
national_best s m = national s (best (entries s m)) (away s m)

-- an entry put in its place among those of a side
abbrev pub ranked_in : Side → Entry → List Entry → List Entry
ranked_in s e es = inserted (ahead rank_before (λ _. rank_of) s) e es
