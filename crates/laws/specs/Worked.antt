-- A worked history: a dozen accepted calls and a refused one, which the definitions are proved to give. Assumes nothing.
use Rattle.std.specs.Prelude.{◌≡◌, ℕ, Bool, true, false, List, [], ◌∷◌, map, Some, None}
use Rattle.sharing.specs.Rules.{size_pro_rata}
use Rattle.sharing.specs.Sharing.{Lawful}
use Rattle.rules.specs.declared.numbers.Cause.TheVariants.{OwnFirm, Immediate}
use Rattle.rules.specs.declared.tape.Line.{Line}
use Rattle.rules.specs.declared.tape.Line.TheVariants.{Fill, Cancel, Filled, Rest, Route}
use Rattle.rules.specs.declared.tape.Step.TheVariants.{GuaranteedQuotes, OtherInterest}
use Rattle.rules.specs.declared.terms.Kind.{Kind}
use Rattle.rules.specs.declared.terms.Kind.TheVariants.{Customer, Other, MakerQuote, SpecialistQuote}
use Rattle.rules.specs.declared.terms.Order.{Order}
use Rattle.rules.specs.declared.terms.Side.{Side}
use Rattle.rules.specs.declared.terms.Side.TheVariants.{Buy, Sell}
use Rattle.rules.specs.declared.terms.Term.{Term}
use Rattle.rules.specs.declared.terms.Term.TheVariants.{Day, ImmediateOrCancel}
use Rattle.rules.specs.Model.{Opening}
use Rattle.laws.specs.Accounts.{Account, account}
use Rattle.laws.specs.Balanced.{resting, traded_on}
use Rattle.laws.specs.Histories.{Call, Told, book_after, told_after}
use Rattle.laws.specs.Histories.Call.{enters, returns, resizes, cancels, updates}
use Rattle.laws.specs.Histories.Told.{turned_down, carried_out}

-- eight places a side, a tick of 5 cents, series 1
abbrev pub worked_opening : Opening
worked_opening = record { bid_places = 8; offer_places = 8; tick = 5; series = 1 }

-- an order without a least size that is directed to nobody
abbrev pub plain_order : ℕ → ℕ → Kind → Side → Term → ℕ → ℕ → Bool → Bool → Order
plain_order id firm kind side term price size mark route = record { id = id; firm = firm; kind = kind; side = side; term = term; price = Some price; size = size; least = 0; directed = None; own_firm_mark = mark; may_route = route }

-- each call brings a tape of 9 lines and a claim sheet of 8, and size pro rata
module _ (lawful : Lawful size_pro_rata) where
  abbrev pub enter : Order → Call
  enter o = enters (record { shares = size_pro_rata; keeps = lawful }) (record { order = o; tape = 9; sheet = 8 })

  abbrev pub give_back : ℕ → ℕ → Call
  give_back id executed = returns (record { shares = size_pro_rata; keeps = lawful }) (record { series = 1; id = id; executed = executed; tape = 9; sheet = 8 })

  -- the newest first, as in every history
  abbrev pub worked_calls : List Call
  worked_calls =
      enter (plain_order 6 11 Other Buy ImmediateOrCancel 105 5 false false)
      ∷ enter (plain_order 6 11 Other Buy ImmediateOrCancel 105 5 true false)
      ∷ cancels (record { id = 2; firm = 12 })
      ∷ give_back 5 15
      ∷ updates (record { side = Sell; price = None })
      ∷ enter (plain_order 5 23 Customer Buy Day 105 40 false true)
      ∷ updates (record { side = Sell; price = Some 100 })
      ∷ resizes (record { id = 2; firm = 12; size = 50 })
      ∷ resizes (record { id = 1; firm = 11; size = 25 })
      ∷ enter (plain_order 4 22 Other Buy ImmediateOrCancel 105 100 false false)
      ∷ enter (plain_order 3 21 Customer Sell Day 110 30 false false)
      ∷ enter (plain_order 2 12 SpecialistQuote Sell Day 105 60 false false)
      ∷ enter (plain_order 1 11 MakerQuote Sell Day 105 100 true false)
      ∷ []

-- the tape of a call; a refused one has none
abbrev pub tape_in : Told → List Line
tape_in (turned_down k r) = []
tape_in (carried_out k answer tape) = tape

-- entered and added; traded here and away, cancelled, taken off and out
abbrev pub account_of : ℕ → ℕ → ℕ → ℕ → ℕ → ℕ → ℕ → Account
account_of entered added here away cancelled taken out = record { entered = entered; added = added; traded_here = here; traded_away = away; cancelled = cancelled; taken_off = taken; out = out }

pub record Worked (lawful : Lawful size_pro_rata) : Type 0 where
  -- the tapes, the newest first
  pub tapes : map tape_in (told_after worked_opening (worked_calls lawful)) ≡
      []
      ∷ (Cancel 1 11 16 OwnFirm ∷ Cancel 6 11 5 Immediate ∷ [])
      ∷ []
      ∷ (Fill 2 12 16 105 GuaranteedQuotes ∷ Fill 1 11 9 105 OtherInterest ∷ Filled 5 23 ∷ [])
      ∷ []
      ∷ (Route 5 23 40 ∷ [])
      ∷ []
      ∷ []
      ∷ []
      ∷ (Fill 2 12 40 105 GuaranteedQuotes ∷ Fill 1 11 60 105 OtherInterest ∷ Filled 4 22 ∷ [])
      ∷ (Rest 3 21 30 110 ∷ [])
      ∷ (Rest 2 12 60 105 ∷ [])
      ∷ (Rest 1 11 100 105 ∷ [])
      ∷ []
  -- the accounts of the orders 1 to 6
  pub accounts : map (λ i. account i (told_after worked_opening (worked_calls lawful))) (1 ∷ 2 ∷ 3 ∷ 4 ∷ 5 ∷ 6 ∷ []) ≡
      account_of 100 0 69 0 16 15 0
      ∷ account_of 60 30 56 0 34 0 0
      ∷ account_of 30 0 0 0 0 0 0
      ∷ account_of 100 0 100 0 0 0 0
      ∷ account_of 40 0 25 15 0 0 0
      ∷ account_of 5 0 0 0 5 0 0
      ∷ []
  -- only order 3 rests
  pub rests : map (λ i. resting i (book_after worked_opening (worked_calls lawful))) (1 ∷ 2 ∷ 3 ∷ 4 ∷ 5 ∷ 6 ∷ []) ≡ 0 ∷ 0 ∷ 30 ∷ 0 ∷ 0 ∷ 0 ∷ []
  -- 125 contracts were bought, and 125 sold
  pub bought : traded_on Buy (told_after worked_opening (worked_calls lawful)) ≡ 125
  pub sold : traded_on Sell (told_after worked_opening (worked_calls lawful)) ≡ 125

abbrev pub WorkedHistory : Type 0
WorkedHistory = (lawful : Lawful size_pro_rata) → Worked lawful
