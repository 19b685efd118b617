-- What every call keeps of the book. Assumes nothing.
use Rattle.std.specs.Prelude.{◌≡◌, ℕ, ◌+◌, ◌<◌, ◌≤◌, true, false, List, [], ◌∷◌, length, nat_eq}
use Rattle.std.specs.List.{AllByRecursion}
use Rattle.sharing.specs.Sharing.{Sharing}
use Rattle.sharing.specs.Totals.{count}
use Rattle.rules.specs.declared.terms.Entry.{Entry}
use Rattle.rules.specs.declared.terms.Routed.{Routed}
use Rattle.rules.specs.declared.terms.Side.{Side}
use Rattle.rules.specs.declared.terms.Side.TheVariants.{Buy, Sell}
use Rattle.rules.specs.Calls.{Entering, entry_of, Returning, return_of, Resizing, resize_of, Cancelling, cancel_of, Updating, market_of, opening_of}
use Rattle.rules.specs.Laws.{Tradable}
use Rattle.rules.specs.Model.{Model, Opening, Counters, entries}
use Rattle.rules.specs.Outcome.{Outcome, bad_price}
use Rattle.rules.specs.Outcome.Outcome.{refused, done}
use Rattle.rules.specs.Prices.{is_tick, is_price}
use Rattle.rules.specs.Ranks.{rank_of, rank_before}
use Rattle.rules.specs.Walk.{runs}

-- each entry ranks before all behind it
abbrev pub InRank : Side → List Entry → Type 0
InRank s [] = Unit {0}
InRank s (e ∷ es) = AllByRecursion (λ f. rank_before s (rank_of e) (rank_of f) ≡ true) es × InRank s es

-- sizes and prices in range, an id and a working time that were given out
pub record GoodEntry (tick : ℕ) (n : Counters) (e : Entry) : Type 0 where
  pub some : 1 ≤ e.size
  pub size : e.size ≤ 99999
  pub price : is_price tick e.price ≡ true
  pub id : e.id ≤ n.last_id
  pub time : e.time ≤ n.last_time

pub record GoodRow (tick : ℕ) (n : Counters) (r : Routed) : Type 0 where
  pub some : 1 ≤ r.size
  pub size : r.size ≤ 99999
  pub price : is_price tick r.cap ≡ true
  pub id : r.id ≤ n.last_id

pub record GoodSide (tick : ℕ) (n : Counters) (most : ℕ) (s : Side) (es : List Entry) : Type 0 where
  pub ranked : InRank s es
  pub good : AllByRecursion (GoodEntry tick n) es
  pub few : length es ≤ most

-- how often an id stands in the book
abbrev pub standing_with : ℕ → Model → ℕ
standing_with i m = (count (λ e. nat_eq e.id i) m.bids + count (λ e. nat_eq e.id i) m.offers) + count (λ r. nat_eq r.id i) m.out

pub record Sound (m : Model) : Type 0 where
  pub tick : is_tick m.opening.tick ≡ true
  pub bid_places : m.opening.bid_places ≤ 256
  pub offer_places : m.opening.offer_places ≤ 256
  pub bids : GoodSide m.opening.tick m.counters m.opening.bid_places Buy m.bids
  pub offers : GoodSide m.opening.tick m.counters m.opening.offer_places Sell m.offers
  pub away_bid : bad_price m.opening.tick m.away_bid ≡ false
  pub away_offer : bad_price m.opening.tick m.away_offer ≡ false
  pub out : AllByRecursion (GoodRow m.opening.tick m.counters) m.out
  pub few_out : length m.out ≤ 16
  -- an id stands once at most
  pub unique : (i : ℕ) → standing_with i m ≤ 1
  -- the last working time and the orders out, each of which may still rest
  pub bounded : m.counters.last_time + length m.out ≤ 4000000017

-- an accepted call leaves the book sound
abbrev pub Keeps : Outcome → Type 0
Keeps (refused r) = Unit {0}
Keeps (done d) = Sound d.after

pub record Kept : Type 0 where
  pub opening : (c : Opening) → Keeps (opening_of c)
  pub market : (c : Updating) (m : Model) → Sound m → Keeps (market_of c m)
  pub cancel : (c : Cancelling) (m : Model) → Sound m → Keeps (cancel_of c m)
  pub resize : (c : Resizing) (m : Model) → Sound m → Keeps (resize_of c m)
  pub entry : (rule : Sharing) (c : Entering) (m : Model) → Sound m → Keeps (entry_of rule c m)
  pub return : (rule : Sharing) (c : Returning) (m : Model) → Sound m → Keeps (return_of rule c m)

-- in a sound book what stands at each price meets what the laws of a price ask
abbrev pub AlwaysTradable : Type 0
AlwaysTradable = (m : Model) → Sound m → (s : Side) (balance : ℕ) → balance < 100000 → AllByRecursion (Tradable balance) (runs (entries s m))
