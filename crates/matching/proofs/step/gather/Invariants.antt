use Rattle.matching.specs.Parts.{part_test, takes_part}
use Rattle.matching.proofs.Gathered.{Gathered}
use Rattle.matching.proofs.step.gather.Given as goal

abbrev pub invariant-loop-e : goal.invariant-loop-e
invariant-loop-e l = Gathered (takes_part (part_test l.part)) l.run l.sheet l.e-index l.n
