-- Worked examples, which the definitions are proved to give. Assumes nothing.
use Rattle.std.specs.Prelude.{◌≡◌, ℕ, true, false, [], ◌∷◌, Some, None, Option}
use Rattle.sharing.specs.Examples as shares
use Rattle.sharing.specs.Sharing.{Sharing}
use Rattle.rules.specs.declared.numbers.Cause.TheVariants.{LeastSize}
use Rattle.rules.specs.declared.tape.Line.TheVariants.{Cancel}
use Rattle.rules.specs.declared.terms.Entry.{Entry}
use Rattle.rules.specs.declared.terms.Kind.TheVariants.{Other, MakerQuote}
use Rattle.rules.specs.declared.terms.Side.TheVariants.{Buy, Sell}
use Rattle.rules.specs.declared.terms.Term.TheVariants.{ImmediateOrCancel}
use Rattle.rules.specs.Calls.{Entering, entry_of}
use Rattle.rules.specs.Caps.{collar_of}
use Rattle.rules.specs.Guarantee.{group_amount}
use Rattle.rules.specs.Model.{Model}
use Rattle.rules.specs.Outcome.Outcome.{done}

-- a quote to sell at 105, with the own-firm mark
abbrev pub offer_at_105 : ℕ → ℕ → ℕ → Entry
offer_at_105 id firm size = record { id = id; firm = firm; kind = MakerQuote; market = false; price = 105; size = size; time = id; own_firm_mark = true }

-- offers of 10 of firm 11 and of 5 of firm 21
abbrev pub two_offers : Model
two_offers = record {
  bids = [];
  offers = offer_at_105 1 11 10 ∷ offer_at_105 2 21 5 ∷ [];
  out = [];
  away_bid = None;
  away_offer = None;
  counters = record { last_id = 2; last_time = 2 };
  opening = record { bid_places = 4; offer_places = 4; tick = 5; series = 1 };
}

-- firm 21, with its mark, would buy 15 at 105 at once, and no fewer
abbrev pub fifteen_or_none : Entering
fifteen_or_none = record {
  order = record { id = 3; firm = 21; kind = Other; side = Buy; term = ImmediateOrCancel; price = Some 105; size = 15; least = 15; directed = None; own_firm_mark = true; may_route = false };
  tape = 5;
  sheet = 4;
}

-- by every sharing rule: the entry is barred, 10 contracts are not 15, and the book keeps both offers
abbrev pub LeastSizeMissed : Type 0
LeastSizeMissed =
    (rule : Sharing) →
    entry_of rule fifteen_or_none two_offers
    ≡ done (record {
      answer = 1;
      lines = Cancel 3 21 15 LeastSize ∷ [];
      after = record { bids = []; offers = two_offers.offers; out = []; away_bid = None; away_offer = None; counters = record { last_id = 3; last_time = 2 }; opening = two_offers.opening };
      ticket = None;
    })

pub record Examples : Type 0 where
  pub buyer_at_100 : (tick : ℕ) (limit : Option ℕ) → collar_of Buy tick limit 100 ≡ 120
  pub buyer_at_201 : (tick : ℕ) (limit : Option ℕ) → collar_of Buy tick limit 201 ≡ 231
  pub selling_market_order_at_20 : collar_of Sell 1 None 20 ≡ 1
  pub guarantee_of_100 : group_amount 100 50 200 ≡ 40
  -- 40% of the balance, and not of the 10 entered
  pub guarantee_of_2 : group_amount 2 10 100 ≡ 1
  pub least_size_missed : LeastSizeMissed
  pub sharing : shares.Examples
