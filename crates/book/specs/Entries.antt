-- What an entry does that no check refuses, and what a call writes. Assumes nothing.
use Rattle.std.specs.Prelude.{◌≡◌, ℕ, ◌-◌, false, cond, List, length, Some, Ok, Err, Option, Result}
use Rattle.std.specs.List.{AllByRecursion}
use Rattle.sharing.specs.Sharing.{Sharing}
use Rattle.sharing.specs.declared.claims.Claim.{Claim}
use Rattle.rules.specs.declared.tape.Line.{Line}
use Rattle.rules.specs.declared.terms.Order.{Order}
use Rattle.rules.specs.declared.numbers.Refusal.{Refusal}
use Rattle.rules.specs.Calls.{Entering, reference, entry_checks, capped, least_missed, missed}
use Rattle.rules.specs.Caps.{cap_of}
use Rattle.rules.specs.Model.{Model, with_last_id}
use Rattle.rules.specs.Outcome.{Done, Outcome}
use Rattle.rules.specs.Outcome.Outcome.{refused, done}
use Rattle.rules.specs.Trade.{trade}
use Rattle.matching.specs.Tapes.{written, Writes}
use Rattle.matching.specs.declared.lent.Lent.{Lent}
use Rattle.book.specs.Refusals.{first_refusal}

-- an entry as it is called: an order, and the tape and the claim sheet that the host lends
abbrev pub entry_call : Order → List Line → List Claim → Entering
entry_call o tape sheet = record { order = o; tape = length tape; sheet = length sheet }

-- the same with the places that are left on a tape with lines
abbrev pub entering : Order → Lent → Entering
entering o l = record { order = o; tape = length l.tape.now - l.lines; sheet = length l.sheet.now }

-- no check refuses an entry, and the order has this cap; or the first that fits is told
abbrev pub Admits : Entering → Model → Result ℕ Refusal → Type 0
Admits c m (Ok cap) = AllByRecursion (λ k. k.0 ≡ false) (entry_checks c m) × (cap_of c.order m.opening.tick (reference c.order m) ≡ Some cap)
Admits c m (Err why) = first_refusal (entry_checks c m) ≡ Some why

-- it is cancelled whole where its least size is not available, and else trades
abbrev pub carried : Sharing → Order → Model → Done
carried rule o m = cond (least_missed o m) (missed o (with_last_id o.id m)) (trade rule (capped o m) o.may_route (with_last_id o.id m))

-- the book after it, the id of an order that went out, and the lines written are those of what is done
pub record Does (d : Done) (after : Model) (out : Option ℕ) (old new : Lent) : Type 0 where
  pub book : after ≡ d.after
  pub ticket : out ≡ d.ticket
  pub writes : Writes d.lines old new

-- the tape after a call: a refusal writes nothing
abbrev pub taped : Outcome → List Line → List Line
taped (refused why) tape = tape
taped (done d) tape = written 0 d.lines tape

-- the same of what the host lends: a refusal leaves it as it was
abbrev pub Tapes : Outcome → Lent → Lent → Type 0
Tapes (refused why) old new = new ≡ old
Tapes (done d) old new = Writes d.lines old new
