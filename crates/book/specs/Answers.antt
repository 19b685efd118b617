-- What a call answers, and what it leaves. Assumes nothing.
use Rattle.std.specs.Prelude.{◌≡◌, Ok, Err, Result}
use Rattle.rules.specs.declared.numbers.Refusal.{Refusal}
use Rattle.rules.specs.Model.{Model}
use Rattle.rules.specs.Outcome.{Done, Outcome}
use Rattle.rules.specs.Outcome.Outcome.{refused, done}

-- a call is refused exactly where its outcome is, with that refusal, and leaves the book as it was; else it leaves the book of
-- its outcome, and the answer fits
abbrev pub Settles : {A : Type 0} → Outcome → Model → Result A Refusal → Model → (Done → A → Type 0) → Type 0
Settles (refused why) before (Err e) after Fits = (e ≡ why) × (after ≡ before)
Settles (refused why) before (Ok a) after Fits = ⊥
Settles (done d) before (Err e) after Fits = ⊥
Settles (done d) before (Ok a) after Fits = (after ≡ d.after) × Fits d a

-- a check answers the refusal of what it checks, or that there is none
abbrev pub Checks : Outcome → Result (Unit {0}) Refusal → Type 0
Checks (refused why) (Err e) = e ≡ why
Checks (refused why) (Ok a) = ⊥
Checks (done d) (Err e) = ⊥
Checks (done d) (Ok a) = Unit {0}
