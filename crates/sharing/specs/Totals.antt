-- Sums over a list. Assumes nothing.
use Rattle.std.specs.Prelude.{ℕ, ◌+◌, Bool, true, false, List, [], ◌∷◌}

-- 1 where it is so, else 0
abbrev pub one_if : Bool → ℕ
one_if true = 1
one_if false = 0

module _ {X : Type 0} where
  -- the sum of a number of each element
  abbrev pub total : (X → ℕ) → List X → ℕ
  total f [] = 0
  total f (x ∷ xs) = f x + total f xs

  -- how many elements pass the test
  abbrev pub count : (X → Bool) → List X → ℕ
  count p xs = total (λ x. one_if (p x)) xs
