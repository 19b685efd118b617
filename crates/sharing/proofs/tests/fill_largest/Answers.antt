use Rattle.std.proofs.Common.{◌≡◌, ℕ, suc, ◌+◌, ◌<◌, ◌≤◌, List, [], ◌∷◌, length, get_or, set, ap, ◌∙◌, arith}
use Rattle.std.proofs.lemmas.List.Edits.{fill_by_more}
use Rattle.std.proofs.ByRecursion.{All-from_get_or}
use Rattle.sharing.specs.declared.claims.Claim.{Claim}
use Rattle.sharing.specs.Claims.{Ascending}
use Rattle.sharing.specs.Allotted.{no_claim}
use Rattle.sharing.proofs.tests.fill_largest.Goals as goal

-- the claim that is written at a place
written : ℕ → Claim
written k = record { size = 99999; time = k + 1; allotment = 7 }

ascending_from : (t : ℕ) (cs : List Claim) → ((k : ℕ) → k < length cs → (get_or cs k no_claim).time ≡ t + k) → Ascending cs
ascending_from t [] at = tt
ascending_from t (c ∷ cs) at = (
  All-from_get_or (λ d. c.time < d.time) cs no_claim (λ k lt. omega (arith, at 0 (omega arith), at (suc k) (omega arith))),
  ascending_from (t + 1) cs (λ k lt. at (suc k) (omega arith) ∙ omega arith),
)

pub loop-i-preserved : goal.loop-i-preserved
unfolding written
loop-i-preserved c = λ k lt. ap (λ d. get_or (set c.loop-i.claims c.loop-i.i d) k no_claim) c.of.ensures ∙ fill_by_more written c.loop-i.claims c.loop-i.i no_claim (omega arith) c.loop-i.invariant k lt

pub returns : goal.returns
returns c =
    let cs = c.loop-i.claims in
    let at : (k : ℕ) → k < length cs → get_or cs k no_claim ≡ record { size = 99999; time = k + 1; allotment = 7 } = λ k lt. c.loop-i.invariant k (omega arith) in
    record {
      few = omega (arith, c.requires);
      small = omega arith;
      sized = All-from_get_or (λ d. (1 ≤ d.size) × (d.size ≤ 99999)) cs no_claim (λ k lt. let e = ap (λ d. d.size) (at k lt) in (omega arith, omega arith));
      timed = ascending_from 1 cs (λ k lt. ap (λ d. d.time) (at k lt) ∙ omega arith);
    }
