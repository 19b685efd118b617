-- By time: its laws, and its loops. Assumes nothing.
use Rattle.std.specs.Prelude.{◌≡◌, ℕ, zero, suc, ◌-◌, ◌<◌, ◌≤◌, min, List, [], ◌∷◌, map, length, take, slice_index, slice_index_or, refl}
use Rattle.std.proofs.Common.{ap, ◌∙◌, arith}
use Rattle.std.specs.List.{AllZip}
use Rattle.sharing.specs.declared.claims.Claim.{Claim}
use Rattle.sharing.specs.Claims.{size_of, allotted}
use Rattle.sharing.specs.Rules.{in_turn, by_time}
use Rattle.sharing.specs.Sharing.{Lawful}
use Rattle.sharing.specs.Totals.{total}
use Rattle.sharing.specs.Allotted.{each_refl, no_claim}

turn_sum : (amount : ℕ) (cs : List Claim) → total (λ n. n) (in_turn amount cs) ≡ min amount (total size_of cs)
turn_sum amount [] = omega arith
turn_sum amount (c ∷ cs) = omega (arith, turn_sum (amount - c.size) cs)

turn_within : (amount : ℕ) (cs : List Claim) → AllZip ◌≤◌ (in_turn amount cs) (map size_of cs)
turn_within amount [] = tt
turn_within amount (c ∷ cs) = (omega arith, turn_within (amount - c.size) cs)

turn_fixed : (amount : ℕ) (cs : List Claim) (old : List ℕ) → in_turn amount (allotted old cs) ≡ in_turn amount cs
turn_fixed amount cs [] = refl
turn_fixed amount [] (n ∷ old) = refl
turn_fixed amount (c ∷ cs) (n ∷ old) = ap (λ l. min c.size amount ∷ l) (turn_fixed (amount - c.size) cs old)

pub by_time_lawful : Lawful by_time
by_time_lawful = record {
  adds_up = λ amount cs _. turn_sum amount cs;
  within = λ amount cs _. turn_within amount cs;
  above = λ amount cs _. each_refl (in_turn amount cs);
  fixed = λ amount cs old _. (turn_fixed amount cs old, turn_fixed amount cs old);
}

pub length_turn : (amount : ℕ) (cs : List Claim) → length (in_turn amount cs) ≡ length cs
length_turn amount [] = refl
length_turn amount (c ∷ cs) = ap suc (length_turn (amount - c.size) cs)

-- what the earlier claims leave is what their sizes leave
pub turn_at : (amount : ℕ) (cs : List Claim) (i : ℕ) → i < length cs → slice_index (in_turn amount cs) i ≡ min (size_of (slice_index_or cs i no_claim)) (amount - total size_of (take i cs))
turn_at amount [] i in' = absurd (omega arith)
turn_at amount (c ∷ cs) zero in' = omega arith
turn_at amount (c ∷ cs) (suc i) in' = turn_at (amount - c.size) cs i (omega arith) ∙ omega arith
