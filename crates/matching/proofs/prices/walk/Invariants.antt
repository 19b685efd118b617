use Rattle.std.proofs.Common.{◌-◌, length}
use Rattle.matching.proofs.Walks.{Walking}
use Rattle.matching.proofs.prices.walk.Given as goal

abbrev pub invariant-loop-from : goal.invariant-loop-from
invariant-loop-from g l = Walking (g.R.Rule.meaning l.rule) l.order l.national l.away l.initial.entries l.initial.lent l.entries l.lent l.balance l.from

abbrev pub decreases-loop-from : goal.decreases-loop-from
decreases-loop-from g l = length l.initial.entries - l.from
