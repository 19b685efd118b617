use Rattle.rules.specs.Checks.{is_barred}
use Rattle.matching.proofs.Barred.{Barring}
use Rattle.matching.proofs.price.bar.Given as goal

abbrev pub invariant-loop-e : goal.invariant-loop-e
invariant-loop-e l = Barring (is_barred l.order.firm l.order.own_firm_mark) l.initial.run l.initial.lent l.e-index l.run l.lent
