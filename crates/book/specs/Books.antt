-- The book as lists and numbers, read off its fields. Assumes nothing.
use Rattle.std.specs.Prelude.{◌≡◌, ℕ, List, length}
use Rattle.rules.specs.declared.terms.Side.TheVariants.{Buy, Sell}
use Rattle.rules.specs.declared.terms.Entry.{Entry}
use Rattle.rules.specs.Model.{Model, Opening}
use Rattle.book.specs.declared.state.State.TheInside.{Inside}

-- an opening as it is called: the places that the host lends for each side, the tick and the series
abbrev pub opening_call : List Entry → List Entry → ℕ → ℕ → Opening
opening_call bids offers tick series = record { bid_places = length bids; offer_places = length offers; tick = tick; series = series }

abbrev pub model : Inside → Model
model s = record {
  bids = s.bids.entries;
  offers = s.offers.entries;
  out = s.out.items;
  away_bid = s.bids.away;
  away_offer = s.offers.away;
  counters = record { last_id = s.last_id; last_time = s.last_time };
  opening = record { bid_places = s.bids.places; offer_places = s.offers.places; tick = s.tick; series = s.series };
}

-- the bids are ranked as bids, the offers as offers
pub record TwoSides (s : Inside) : Type 0 where
  pub bids : s.bids.side ≡ Buy
  pub offers : s.offers.side ≡ Sell
