-- Worked examples of size pro rata, which the definitions are proved to give. Assumes nothing.
use Rattle.std.specs.Prelude.{◌≡◌, ℕ, ◌+◌, List, [], ◌∷◌}
use Rattle.sharing.specs.declared.claims.Claim.{Claim}
use Rattle.sharing.specs.Rules.{size_pro_rata}

-- claims of these sizes with nothing allotted, at the times from t on
abbrev pub claims_from : ℕ → List ℕ → List Claim
claims_from t [] = []
claims_from t (n ∷ ns) = record { size = n; time = t; allotment = 0 } ∷ claims_from (t + 1) ns

pub record Examples : Type 0 where
  -- the one contract left over goes to the earliest of equals
  pub tens : size_pro_rata.allotments 7 (claims_from 1 (10 ∷ 10 ∷ 10 ∷ [])) ≡ 3 ∷ 2 ∷ 2 ∷ []
  -- the larger has more left, though the smaller lost the larger fraction: by largest fraction it would be 1 and 4
  pub one_and_nine : size_pro_rata.allotments 5 (claims_from 1 (1 ∷ 9 ∷ [])) ≡ 0 ∷ 5 ∷ []
