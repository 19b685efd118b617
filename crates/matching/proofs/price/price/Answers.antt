use Rattle.rules.specs.Level.{unbarred, level}
use Rattle.matching.proofs.Deals.{Stands, asks, next}
use Rattle.matching.proofs.Levels.{steps, begins}
use Rattle.matching.proofs.price.price.Given as given
use Rattle.matching.proofs.price.price.Goals as goal
use Rattle.matching.proofs.price.price.Goals.{After-bar}

-- the order stands at the price, without barred entries
start : (g : given.Over) (c : After-bar g) → Stands (steps (g.R.Rule.meaning c.args.rule.now) c.args.order.now c.args.at_best) c.args.run.now c.args.lent.now (unbarred c.args.order.now c.args.balance c.args.run.now) c.bar.new.run c.bar.new.lent c.args.balance
start g c = begins _ _ _ (g.met.R.Rule.lawful c.args.rule.now) c.requires.tradable c.requires.room c.bar.ensures.run c.bar.auto.run c.bar.ensures.writes

pub class_step-balance-requires : goal.class_step-balance-requires
class_step-balance-requires g c = asks (start g (goal.at.class_step-balance-requires g c).After-bar)

pub class_step-balance-requires-2 : goal.class_step-balance-requires-2
class_step-balance-requires-2 g c = asks (next (start g (goal.at.class_step-balance-requires-2 g c).After-bar) c.class_step-balance.ensures)

pub class_step-balance-requires-3 : goal.class_step-balance-requires-3
class_step-balance-requires-3 g c =
    asks (next (next (start g (goal.at.class_step-balance-requires-3 g c).After-bar) c.class_step-balance.ensures) c.class_step-balance-2.ensures)

pub makers-requires : goal.makers-requires
makers-requires g c =
    asks (next (next (next (start g (goal.at.makers-requires g c).After-bar) c.class_step-balance.ensures) c.class_step-balance-2.ensures) c.class_step-balance-3.ensures)

pub returns : goal.returns
unfolding level
returns g c =
    (next (next (next (next (start g (goal.at.returns g c).After-bar) c.class_step-balance.ensures) c.class_step-balance-2.ensures) c.class_step-balance-3.ensures) c.makers.ensures).dealt
