use Rattle.std.proofs.Common.{◌-◌, length, Ok, refl, subst}
use Rattle.rules.specs.Calls.{Returning, return_of}
use Rattle.book.specs.Answers.{Settles}
use Rattle.book.specs.Tickets.{ReturnsAs}
use Rattle.book.proofs.Tickets.{less_none, returns_done, return_lines}
use Rattle.book.proofs.Settled.{stays_lawful}
use Rattle.book.proofs.keeping.Book.give_back.Goals as goal

pub returns-clause-outcome : goal.returns-clause-outcome
returns-clause-outcome g c =
    let u : Returning = record { series = c.args.ticket.series; id = c.args.ticket.id; executed = c.args.executed; tape = length c.args.tape.now - 0; sheet = length c.args.sheet.now } in
    let rule = g.R.Rule.meaning c.args.rule.now in
    subst (λ n. ReturnsAs (return_of rule (record u { tape = n }) c.args.self.now) c.args.self.now c.args.ticket (Ok c.give_back.new.lent.lines) c.give_back.new.self) (less_none (length c.args.tape.now))
    (subst (λ x. ReturnsAs (return_of rule u x) x c.args.ticket (Ok c.give_back.new.lent.lines) c.give_back.new.self) c.self.view_is
    (returns_done (return_of rule u c.self.inside.state) c.self.inside.state c.give_back.new.self c.args.ticket c.give_back.new.lent.lines (subst (λ r. Settles {A = Unit {0}} (return_of rule u c.self.inside.state) c.self.inside.state r c.give_back.new.self (λ d a. Unit {0})) c.in_default.is (rw c.new-lent.ensures at c.give_back.ensures.outcome)) (λ d is. return_lines rule u c.self.inside.state _ _ (rw c.new-lent.ensures at c.give_back.ensures.tapes) refl d is)))

pub returns-in-Err-clause-lawful : goal.returns-in-Err-clause-lawful
returns-in-Err-clause-lawful g c = λ keeps. stays_lawful _ _

pub returns-clause-lawful : goal.returns-clause-lawful
returns-clause-lawful g c = λ keeps. stays_lawful _ _
