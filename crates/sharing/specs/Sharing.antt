-- What a sharing rule means, and the laws that its meaning keeps. Assumes nothing.
use Rattle.std.specs.Prelude.{◌≡◌, ℕ, ◌≤◌, min, List, map}
use Rattle.std.specs.List.{AllZip}
use Rattle.sharing.specs.declared.claims.Claim.{Claim}
use Rattle.sharing.specs.Claims.{size_of, allotted, Shareable}
use Rattle.sharing.specs.Totals.{total}

-- for an amount and claims, one list of allotments and one of floors: a number for each claim, in the claims' order
pub record Sharing : Type 0 where
  pub allotments : ℕ → List Claim → List ℕ
  pub floors : ℕ → List Claim → List ℕ

-- the laws of a sharing, for all that a rule may be asked
pub record Lawful (s : Sharing) : Type 0 where
  -- the allotments add up to the lesser of the amount and all sizes
  pub adds_up : (amount : ℕ) (cs : List Claim) → Shareable amount cs → total (λ n. n) (s.allotments amount cs) ≡ min amount (total size_of cs)
  -- each claim has its allotment, and none exceeds its claim's size
  pub within : (amount : ℕ) (cs : List Claim) → Shareable amount cs → AllZip ◌≤◌ (s.allotments amount cs) (map size_of cs)
  -- each allotment has its floor, and none is below it
  pub above : (amount : ℕ) (cs : List Claim) → Shareable amount cs → AllZip ◌≤◌ (s.floors amount cs) (s.allotments amount cs)
  -- what was allotted before alters neither
  pub fixed : (amount : ℕ) (cs : List Claim) (old : List ℕ) → Shareable amount cs → (s.allotments amount (allotted old cs) ≡ s.allotments amount cs) × (s.floors amount (allotted old cs) ≡ s.floors amount cs)
