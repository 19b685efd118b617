-- Histories: the calls on one book since its opening, and what is told of them. Assumes nothing.
use Rattle.std.specs.Prelude.{◌≡◌, ℕ, Bool, true, false, List, [], ◌∷◌}
use Rattle.sharing.specs.Sharing.{Sharing, Lawful}
use Rattle.rules.specs.declared.numbers.Refusal.{Refusal}
use Rattle.rules.specs.declared.tape.Line.{Line}
use Rattle.rules.specs.Calls.{Entering, entry_of, Returning, return_of, Resizing, resize_of, Cancelling, cancel_of, Updating, market_of, opened, opening_of}
use Rattle.rules.specs.Model.{Model, Opening}
use Rattle.rules.specs.Outcome.{Outcome}
use Rattle.rules.specs.Outcome.Outcome.{refused, done}

-- a sharing rule and the laws that it keeps
pub record LawfulRule : Type 0 where
  pub shares : Sharing
  pub keeps : Lawful shares

-- a call with everything that it brings; an entry and a return bring a sharing rule too, any lawful one
pub data Call : Type 0 where
  enters : LawfulRule → Entering → Call
  returns : LawfulRule → Returning → Call
  resizes : Resizing → Call
  cancels : Cancelling → Call
  updates : Updating → Call

-- what a call comes to on a book
abbrev pub outcome : Call → Model → Outcome
outcome (enters rule c) m = entry_of rule.shares c m
outcome (returns rule c) m = return_of rule.shares c m
outcome (resizes c) m = resize_of c m
outcome (cancels c) m = cancel_of c m
outcome (updates c) m = market_of c m

-- the book after it: a refusal alters nothing
abbrev pub left_by : Outcome → Model → Model
left_by (refused r) m = m
left_by (done d) m = d.after

-- what is told of a call: its refusal, or its answer and its tape
pub data Told : Type 0 where
  turned_down : Call → Refusal → Told
  carried_out : Call → ℕ → List Line → Told

abbrev pub tell : Call → Outcome → Told
tell k (refused r) = turned_down k r
tell k (done d) = carried_out k d.answer d.lines

-- the book after calls, the newest first
abbrev pub book_after : Opening → List Call → Model
book_after c [] = opened c
book_after c (k ∷ ks) = left_by (outcome k (book_after c ks)) (book_after c ks)

-- what is told of them, the newest first
abbrev pub told_after : Opening → List Call → List Told
told_after c [] = []
told_after c (k ∷ ks) = tell k (outcome k (book_after c ks)) ∷ told_after c ks

abbrev pub is_accepted : Outcome → Bool
is_accepted (refused r) = false
is_accepted (done d) = true

-- an accepted opening, and any calls since, the newest first
pub record History : Type 0 where
  pub opening : Opening
  pub accepted : is_accepted (opening_of opening) ≡ true
  pub calls : List Call

abbrev pub book_of : History → Model
book_of h = book_after h.opening h.calls

abbrev pub told_of : History → List Told
told_of h = told_after h.opening h.calls

-- the history with one call more
abbrev pub longer : Call → History → History
longer k h = record { opening = h.opening; accepted = h.accepted; calls = k ∷ h.calls }
