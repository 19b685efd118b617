use Rattle.matching.specs.Parts.{part_test, step_for, takes_part}
use Rattle.matching.proofs.Paid.{Paid}
use Rattle.matching.proofs.step.pay.Given as goal

abbrev pub invariant-loop-i : goal.invariant-loop-i
invariant-loop-i l = Paid (step_for l.part) (takes_part (part_test l.part)) l.initial.run l.initial.lent l.run l.lent l.i l.j
