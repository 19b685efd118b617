-- What a list of checks lets pass. Assumes nothing.
use Rattle.std.specs.Prelude.{◌≡◌, false, cond, List, [], ◌∷◌, Some, None, Ok, Err, Option, Result}
use Rattle.std.specs.List.{AllByRecursion}
use Rattle.rules.specs.declared.numbers.Refusal.{Refusal}
use Rattle.rules.specs.Outcome.{Check}

-- the refusal of the first that fits
abbrev pub first_refusal : List Check → Option Refusal
first_refusal [] = None
first_refusal (c ∷ cs) = cond c.0 (Some c.1) (first_refusal cs)

-- none fits, or the first that does is told
abbrev pub Passes : List Check → Result (Unit {0}) Refusal → Type 0
Passes cs (Ok a) = AllByRecursion (λ c. c.0 ≡ false) cs
Passes cs (Err why) = first_refusal cs ≡ Some why
