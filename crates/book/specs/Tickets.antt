-- The ticket that a call gives. Assumes nothing.
use Rattle.std.specs.Prelude.{◌≡◌, ℕ, Some, None, Ok, Err, Option, Result}
use Rattle.rules.specs.Model.{Model}
use Rattle.rules.specs.Outcome.{Outcome}
use Rattle.rules.specs.Outcome.Outcome.{refused, done}
use Rattle.book.specs.declared.ticket.NotReturned.{NotReturned}
use Rattle.book.specs.declared.ticket.Ticket.{Ticket}

-- a ticket of this series for the order that is told, or none
abbrev pub Gives : ℕ → Option ℕ → Option Ticket → Type 0
Gives series None None = Unit {0}
Gives series None (Some t) = ⊥
Gives series (Some i) None = ⊥
Gives series (Some i) (Some t) = (t.id ≡ i) × (t.series ≡ series)

-- a return is refused exactly where its outcome is, with that refusal and the ticket, and leaves the book as it was; else it
-- leaves the book of its outcome and answers the lines of the tape
abbrev pub ReturnsAs : Outcome → Model → Ticket → Result ℕ NotReturned → Model → Type 0
ReturnsAs (refused why) before t (Err e) after = (e.refusal ≡ why) × (e.ticket ≡ t) × (after ≡ before)
ReturnsAs (refused why) before t (Ok n) after = ⊥
ReturnsAs (done d) before t (Err e) after = ⊥
ReturnsAs (done d) before t (Ok n) after = (after ≡ d.after) × (n ≡ d.answer)
