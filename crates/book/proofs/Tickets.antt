-- Answers put in other words, and the ticket of an entry. Assumes nothing.
use Rattle.std.proofs.Common.{◌≡◌, ℕ, ◌-◌, Bool, false, length, Ok, refl, subst, arith}
use Rattle.sharing.specs.Sharing.{Sharing}
use Rattle.rules.specs.declared.terms.Routed.{Routed}
use Rattle.rules.specs.Calls.{Entering, capped, entry_of, Returning, without_row, return_of}
use Rattle.rules.specs.Model.{Model, with_out, with_last_id}
use Rattle.rules.specs.Outcome.{Done, Outcome}
use Rattle.rules.specs.Outcome.Outcome.{refused, done}
use Rattle.rules.specs.Trade.{sized, finished, trade}
use Rattle.rules.proofs.CallsKeep.{entry_by, return_by}
use Rattle.book.specs.Answers.{Settles}
use Rattle.matching.specs.declared.lent.Lent.{Lent}
use Rattle.book.specs.Entries.{Tapes}
use Rattle.book.specs.Tickets.{ReturnsAs}
use Rattle.book.specs.declared.ticket.Ticket.{Ticket}

-- a tape to which nothing is written has all its places left
pub less_none : (n : ℕ) → n - 0 ≡ n
less_none n = omega arith

-- an answer in other words
pub settles_other : {A B : Type 0} (out : Outcome) (m after : Model) (a : A) (b : B) (P : Done → A → Type 0) (Q : Done → B → Type 0) → ((d : Done) → out ≡ done d → P d a → Q d b) → Settles {A = A} out m (Ok a) after P → Settles {A = B} out m (Ok b) after Q
settles_other (refused why) m after a b P Q f s = absurd s
settles_other (done d) m after a b P Q f s = (s.0, f d refl s.1)

-- a return in the words of its ticket
pub returns_done : (out : Outcome) (m after : Model) (t : Ticket) (n : ℕ) → Settles {A = Unit {0}} out m (Ok tt) after (λ d a. Unit {0}) → ((d : Done) → out ≡ done d → n ≡ d.answer) → ReturnsAs out m t (Ok n) after
returns_done (refused why) m after t n s told = absurd s
returns_done (done d) m after t n s told = (s.0, told d refl)

-- an accepted entry or return answers how many lines it wrote
abbrev Told : Outcome → Type 0
Told (refused why) = Unit {0}
Told (done d) = length d.lines ≡ d.answer

trade_told : (rule : Sharing) (o : Routed) (may : Bool) (m : Model) → length (trade rule o may m).lines ≡ (trade rule o may m).answer
unfolding trade finished
trade_told rule o may m = refl

entry_told : (rule : Sharing) (c : Entering) (m : Model) → Told (entry_of rule c m)
entry_told rule c m = entry_by Told (λ why. tt) rule c m (λ _ _. refl) (λ _ _. trade_told rule (capped c.order m) c.order.may_route (with_last_id c.order.id m))

return_told : (rule : Sharing) (c : Returning) (m : Model) → Told (return_of rule c m)
return_told rule c m = return_by Told (λ why. tt) rule c m (λ r found _. trade_told rule (sized (r.size - c.executed) r) false (with_out (without_row c.id m.out) m))

module _ (out : Outcome) (told : Told out) (old new : Lent) (tapes : Tapes out old new) (fresh : old.lines ≡ 0) (d : Done) (is : out ≡ done d) where
  lines_told : new.lines ≡ d.answer
  lines_told = omega (arith, (subst (λ o. Tapes o old new) is tapes).lines, fresh, subst Told is told)

pub entry_lines : (rule : Sharing) (c : Entering) (m : Model) (old new : Lent) → Tapes (entry_of rule c m) old new → old.lines ≡ 0 → (d : Done) → entry_of rule c m ≡ done d → new.lines ≡ d.answer
entry_lines rule c m old new tapes fresh d is = lines_told (entry_of rule c m) (entry_told rule c m) old new tapes fresh d is

pub return_lines : (rule : Sharing) (c : Returning) (m : Model) (old new : Lent) → Tapes (return_of rule c m) old new → old.lines ≡ 0 → (d : Done) → return_of rule c m ≡ done d → new.lines ≡ d.answer
return_lines rule c m old new tapes fresh d is = lines_told (return_of rule c m) (return_told rule c m) old new tapes fresh d is
