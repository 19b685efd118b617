-- Which row comes back, by its place. Assumes nothing.
use Rattle.std.specs.Prelude.{◌≡◌, ℕ, ◌-◌, ◌<◌, false, List, length, Some, Ok, Err, Result, slice_index_or}
use Rattle.std.specs.List.{AllByRecursion}
use Rattle.sharing.specs.Sharing.{Sharing}
use Rattle.sharing.specs.declared.claims.Claim.{Claim}
use Rattle.rules.specs.declared.numbers.Refusal.{Refusal}
use Rattle.rules.specs.declared.tape.Line.{Line}
use Rattle.rules.specs.declared.terms.Routed.{Routed}
use Rattle.rules.specs.Calls.{Returning, return_checks, return_of}
use Rattle.rules.specs.Model.{Model}
use Rattle.rules.specs.Outcome.{row_with}
use Rattle.rules.specs.Outcome.Outcome.{refused}
use Rattle.matching.specs.declared.lent.Lent.{Lent}
use Rattle.book.specs.declared.ticket.Ticket.{Ticket}

-- a return as it is called: a ticket, what was executed away, and the tape and the claim sheet that the host lends
abbrev pub return_call : Ticket → ℕ → List Line → List Claim → Returning
return_call t executed tape sheet = record { series = t.series; id = t.id; executed = executed; tape = length tape; sheet = length sheet }

-- the same with the places that are left on a tape with lines
abbrev pub returning : Ticket → ℕ → Lent → Returning
returning t executed l = record { series = t.series; id = t.id; executed = executed; tape = length l.tape.now - l.lines; sheet = length l.sheet.now }

-- a return's row is at a place, and no check refuses the return; or the return is refused
abbrev pub Comes : Returning → Model → Result ℕ Refusal → Type 0
Comes c m (Err why) = (rule : Sharing) → return_of rule c m ≡ refused why
Comes c m (Ok k) = (k < length m.out) × ((d : Routed) → (row_with c.id m.out ≡ Some (slice_index_or m.out k d)) × AllByRecursion (λ x. x.0 ≡ false) (return_checks c m (slice_index_or m.out k d)))
