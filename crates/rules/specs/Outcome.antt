-- What a call can come to, and the checks before it. Assumes nothing.
use Rattle.std.specs.Prelude.{ℕ, ◌+◌, max, Bool, false, cond, not, List, [], ◌∷◌, Some, None, Option, ◌==◌, nat_lt}
use Rattle.rules.specs.declared.numbers.Refusal.{Refusal}
use Rattle.rules.specs.declared.numbers.Refusal.TheVariants.{TapeTooShort, ClaimSheetTooShort}
use Rattle.rules.specs.declared.tape.Line.{Line}
use Rattle.rules.specs.declared.terms.Entry.{Entry}
use Rattle.rules.specs.declared.terms.Routed.{Routed}
use Rattle.rules.specs.declared.terms.Side.{Side}
use Rattle.rules.specs.declared.terms.Side.TheVariants.{Buy, Sell}
use Rattle.rules.specs.Model.{Model}
use Rattle.rules.specs.Prices.{is_price}

-- an accepted call: its answer, the tape, the book after it, and the id of the order whose ticket is given
pub record Done : Type 0 where
  pub answer : ℕ
  pub lines : List Line
  pub after : Model
  pub ticket : Option ℕ

-- a refusal alters nothing and answers its number alone
pub data Outcome : Type 0 where
  refused : Refusal → Outcome
  done : Done → Outcome

-- a condition, and the refusal where it is met
abbrev pub Check : Type 0
Check = Bool × Refusal

-- the first check that fits refuses the call
abbrev pub checked : List Check → Outcome → Outcome
checked [] o = o
checked (c ∷ cs) o = cond c.0 (refused c.1) (checked cs o)

-- the places of the longer side
abbrev pub longer_side : Model → ℕ
longer_side m = max m.opening.bid_places m.opening.offer_places

-- the host lends a tape and a claim sheet that are long enough
abbrev pub lent_checks : ℕ → ℕ → Model → List Check → List Check
lent_checks tape sheet m cs = (nat_lt tape (longer_side m + 1), TapeTooShort) ∷ (nat_lt sheet (longer_side m), ClaimSheetTooShort) ∷ cs

-- a price that is given is none
abbrev pub bad_price : ℕ → Option ℕ → Bool
bad_price tick None = false
bad_price tick (Some p) = not (is_price tick p)

-- a firm that is given has the number 0
abbrev pub firm_zero : Option ℕ → Bool
firm_zero None = false
firm_zero (Some f) = f == 0

-- where an order is
pub data Standing : Type 0 where
  resting : Side → Entry → Standing
  out_on_route : Routed → Standing
  nowhere : Standing

-- the first with an id
abbrev pub found_in : {X : Type 0} → (X → ℕ) → ℕ → List X → Option X
found_in id i [] = None
found_in id i (x ∷ xs) = cond (id x == i) (Some x) (found_in id i xs)

abbrev pub entry_with : ℕ → List Entry → Option Entry
entry_with i es = found_in (λ e. e.id) i es

abbrev pub row_with : ℕ → List Routed → Option Routed
row_with i rs = found_in (λ r. r.id) i rs

abbrev pub standing_by : Option Entry → Option Entry → Option Routed → Standing
standing_by (Some e) o r = resting Buy e
standing_by None (Some e) r = resting Sell e
standing_by None None (Some r) = out_on_route r
standing_by None None None = nowhere

abbrev pub standing : ℕ → Model → Standing
standing i m = standing_by (entry_with i m.bids) (entry_with i m.offers) (row_with i m.out)
