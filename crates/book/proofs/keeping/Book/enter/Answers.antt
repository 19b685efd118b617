use Rattle.std.proofs.Common.{◌≡◌, ◌-◌, length, Ok, refl, ap, subst}
use Rattle.rules.specs.Calls.{Entering, entry_of}
use Rattle.book.specs.Answers.{Settles}
use Rattle.book.specs.Tickets.{Gives}
use Rattle.book.specs.declared.keeping.Accepted.{Accepted}
use Rattle.book.proofs.Settled.{stays_lawful}
use Rattle.book.proofs.Tickets.{less_none, settles_other, entry_lines}
use Rattle.book.proofs.keeping.Book.enter.Goals as goal

pub returns-clause-outcome : goal.returns-clause-outcome
returns-clause-outcome g c =
    let m = c.args.self.now in
    let u : Entering = record { order = c.args.order.now; tape = length c.args.tape.now - 0; sheet = length c.args.sheet.now } in
    let rule = g.R.Rule.meaning c.args.rule.now in
    let accepted = c.in_ok-out.ensures in
    subst (λ n. Settles {A = Accepted} (entry_of rule (record u { tape = n }) m) m (Ok (record { lines = c.enter.new.lent.lines; ticket = c.ticket_for-ticket.result })) c.enter.new.self (λ d a. (a.lines ≡ d.answer) × Gives m.opening.series d.ticket a.ticket)) (less_none (length c.args.tape.now))
    (subst (λ x. Settles {A = Accepted} (entry_of rule u x) x (Ok (record { lines = c.enter.new.lent.lines; ticket = c.ticket_for-ticket.result })) c.enter.new.self (λ d a. (a.lines ≡ d.answer) × Gives x.opening.series d.ticket a.ticket)) c.self.view_is
    (settles_other (entry_of rule u c.self.inside.state) c.self.inside.state c.enter.new.self c.in_ok-out.out _ (λ d out. out ≡ d.ticket) (λ d a. (a.lines ≡ d.answer) × Gives c.self.inside.state.opening.series d.ticket a.ticket)
    (λ d is went. (
      entry_lines rule u c.self.inside.state _ _ (rw c.new-lent.ensures at c.enter.ensures.tapes) refl d is,
      subst (λ o. Gives c.self.inside.state.opening.series o c.ticket_for-ticket.result) went
          (subst (λ n. Gives n c.in_ok-out.out c.ticket_for-ticket.result) (ap (λ x. x.state.opening.series) c.self-inside.view_is) c.ticket_for-ticket.ensures),
    ))
    (rw c.new-lent.ensures at accepted.outcome)))

pub returns-in_err-out-clause-lawful : goal.returns-in_err-out-clause-lawful
returns-in_err-out-clause-lawful g c = λ keeps. stays_lawful _ _

pub returns-clause-lawful : goal.returns-clause-lawful
returns-clause-lawful g c = λ keeps. stays_lawful _ _
