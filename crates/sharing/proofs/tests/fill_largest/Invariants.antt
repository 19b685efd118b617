use Rattle.std.proofs.Common.{◌≡◌, ℕ, ◌+◌, ◌<◌, get_or}
use Rattle.sharing.specs.Allotted.{no_claim}
use Rattle.sharing.proofs.tests.fill_largest.Given as goal

abbrev pub invariant-loop-i : goal.invariant-loop-i
invariant-loop-i l = (k : ℕ) → k < l.i → get_or l.claims k no_claim ≡ record { size = 99999; time = k + 1; allotment = 7 }
