-- Priority and price. Assumes nothing.
use Rattle.std.specs.Prelude.{◌≡◌, ℕ, ◌≤◌, Bool, true, ◌&&◌, ◌||◌, ◌⊎◌, List, [], ◌∷◌, ◌++◌, ◌==◌, nat_lt}
use Rattle.std.specs.List.{AllByRecursion}
use Rattle.sharing.specs.Totals.{total}
use Rattle.rules.specs.declared.tape.Line.{Line}
use Rattle.rules.specs.declared.tape.Line.TheVariants.{Fill, Cancel, Filled, Rest, Route}
use Rattle.rules.specs.declared.tape.Step.{Step}
use Rattle.rules.specs.declared.terms.Entry.{Entry}
use Rattle.rules.specs.declared.terms.Side.{Side}
use Rattle.rules.specs.Prices.{in_cap, not_better_away}
use Rattle.rules.specs.Ranks.{class_of}
use Rattle.rules.specs.Sides.{other_side, is_better}
use Rattle.laws.specs.Accounts.{got}
use Rattle.laws.specs.Scenes.{Scene, is_eligible, step_of}

-- an entry is one of these
abbrev pub Among : Entry → List Entry → Type 0
Among e [] = ⊥
Among e (f ∷ fs) = (e ≡ f) ⊎ Among e fs

-- steps 1 and 3, of customers, go by time
abbrev pub goes_by_time : ℕ → Bool
goes_by_time k = k == 1 || k == 3

-- an entry is ahead of another by a better price, then by an earlier step (4 and 5 are one, the fourth class), then in steps 1
-- and 3 by an earlier time
abbrev pub is_ahead : Side → Entry → Entry → Bool
is_ahead s e f =
    is_better s e.price f.price
    || (e.price == f.price
    && (nat_lt (class_of e) (class_of f)
    || (class_of e == class_of f && (goes_by_time (class_of e) && nat_lt e.time f.time))))

-- nothing is left of an entry, after these lines, of what it held before the call
abbrev pub NothingLeft : List Line → Entry → Type 0
NothingLeft lines e = e.size ≤ total (got e.id) lines

-- a fill after these lines is fair
pub record FairFill (sc : Scene) (lines : List Line) (id firm size price : ℕ) (step : Step) : Type 0 where
  -- it names an entry, at its price and in its step
  pub entry : Entry
  pub stands : Among entry sc.standing
  pub named : entry.id ≡ id
  pub firms : entry.firm ≡ firm
  pub priced : entry.price ≡ price
  pub stepped : step_of sc entry ≡ step
  -- the price is not worse than the order's cap or the best away price
  pub capped : in_cap sc.side sc.cap price ≡ true
  pub nearest : not_better_away sc.side sc.away price ≡ true
  -- no entry ahead of that one has an eligible contract left
  pub turn : AllByRecursion (λ e. is_ahead (other_side sc.side) e entry ≡ true → is_eligible sc e ≡ true → NothingLeft lines e) sc.standing

abbrev pub FairLine : Scene → List Line → Line → Type 0
FairLine sc lines (Fill id firm size price step) = FairFill sc lines id firm size price step
FairLine sc lines (Cancel id firm size cause) = Unit {0}
FairLine sc lines (Filled id firm) = Unit {0}
FairLine sc lines (Rest id firm size price) = Unit {0}
FairLine sc lines (Route id firm size) = Unit {0}

-- each line of a tape, after those in front of it
abbrev pub EachAfter : (List Line → Line → Type 0) → List Line → List Line → Type 0
EachAfter P lines [] = Unit {0}
EachAfter P lines (l ∷ ls) = P lines l × EachAfter P (lines ++ l ∷ []) ls

-- in a call each fill is fair
abbrev pub PriorityAndPrice : Scene → Type 0
PriorityAndPrice sc = EachAfter (FairLine sc) [] sc.tape
