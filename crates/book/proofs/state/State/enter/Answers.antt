use Rattle.std.proofs.Common.{rules}
use Rattle.book.specs.Entries.{entering}
use Rattle.book.proofs.Entered.{done_settles}
use Rattle.book.proofs.state.State.enter.Goals as goal

pub returns-clause-outcome : goal.returns-clause-outcome
returns-clause-outcome g c = done_settles (g.R.Rule.meaning c.args.rule.now) (entering c.args.order.now c.args.lent.now) c.args.self.now c.set_out.new.self c.set_out.result (search rules) c.set_out.ensures.book c.set_out.ensures.ticket
