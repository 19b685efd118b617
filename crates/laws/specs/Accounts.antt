-- The account of an order, told by the accepted calls with their answers and tapes. Assumes nothing.
use Rattle.std.specs.Prelude.{ℕ, ◌+◌, ◌-◌, cond, ◌||◌, List, [], ◌∷◌, ◌==◌}
use Rattle.sharing.specs.Totals.{total}
use Rattle.rules.specs.declared.terms.Order.{Order}
use Rattle.rules.specs.declared.tape.Line.{Line}
use Rattle.rules.specs.declared.tape.Line.TheVariants.{Fill, Cancel, Filled, Rest, Route}
use Rattle.rules.specs.Calls.{Returning, Resizing, Cancelling}
use Rattle.laws.specs.Histories.{Call, Told}
use Rattle.laws.specs.Histories.Call.{enters, returns, resizes, cancels, updates}
use Rattle.laws.specs.Histories.Told.{turned_down, carried_out}

-- the contracts of a fill that names an order
abbrev pub got : ℕ → Line → ℕ
got i (Fill id firm size price step) = cond (id == i) size 0
got i (Cancel id firm size cause) = 0
got i (Filled id firm) = 0
got i (Rest id firm size price) = 0
got i (Route id firm size) = 0

-- the contracts of a fill that names an order, or stands in the tape of its own entry or return
abbrev pub traded_by : ℕ → ℕ → Line → ℕ
traded_by i own (Fill id firm size price step) = cond (id == i || own == i) size 0
traded_by i own (Cancel id firm size cause) = 0
traded_by i own (Filled id firm) = 0
traded_by i own (Rest id firm size price) = 0
traded_by i own (Route id firm size) = 0

-- the contracts of a cancel line that names an order
abbrev pub lost_by : ℕ → Line → ℕ
lost_by i (Fill id firm size price step) = 0
lost_by i (Cancel id firm size cause) = cond (id == i) size 0
lost_by i (Filled id firm) = 0
lost_by i (Rest id firm size price) = 0
lost_by i (Route id firm size) = 0

-- the contracts of a route line that names an order
abbrev pub sent_by : ℕ → Line → ℕ
sent_by i (Fill id firm size price step) = 0
sent_by i (Cancel id firm size cause) = 0
sent_by i (Filled id firm) = 0
sent_by i (Rest id firm size price) = 0
sent_by i (Route id firm size) = cond (id == i) size 0

-- what became of an order's contracts
pub record Account : Type 0 where
  pub entered : ℕ
  pub added : ℕ
  pub traded_here : ℕ
  pub traded_away : ℕ
  pub cancelled : ℕ
  pub taken_off : ℕ
  pub out : ℕ

abbrev pub no_account : Account
no_account = record { entered = 0; added = 0; traded_here = 0; traded_away = 0; cancelled = 0; taken_off = 0; out = 0 }

-- an order holds what was entered and added, less what traded, was cancelled, was taken off or is out
abbrev pub holds : Account → ℕ
holds a = (a.entered + a.added) - ((((a.traded_here + a.traded_away) + a.cancelled) + a.taken_off) + a.out)

-- an accepted entry, booked to the account of order i
abbrev pub by_entry : ℕ → Order → List Line → Account → Account
by_entry i o tape a = record {
  entered = a.entered + cond (o.id == i) o.size 0;
  added = a.added;
  traded_here = a.traded_here + total (traded_by i o.id) tape;
  traded_away = a.traded_away;
  cancelled = a.cancelled + total (lost_by i) tape;
  taken_off = a.taken_off;
  out = a.out + total (sent_by i) tape;
}

-- a return reports what traded away, and the order is no longer out
abbrev pub by_return : ℕ → Returning → List Line → Account → Account
by_return i c tape a = record {
  entered = a.entered;
  added = a.added;
  traded_here = a.traded_here + total (traded_by i c.id) tape;
  traded_away = a.traded_away + cond (c.id == i) c.executed 0;
  cancelled = a.cancelled + total (lost_by i) tape;
  taken_off = a.taken_off;
  out = cond (c.id == i) 0 a.out + total (sent_by i) tape;
}

-- a size change answers the new size, which lies above or below what the order held
abbrev pub by_resize : ℕ → Resizing → ℕ → Account → Account
by_resize i c size a = record {
  entered = a.entered;
  added = a.added + cond (c.id == i) (size - holds a) 0;
  traded_here = a.traded_here;
  traded_away = a.traded_away;
  cancelled = a.cancelled;
  taken_off = a.taken_off + cond (c.id == i) (holds a - size) 0;
  out = a.out;
}

-- a cancel answers the contracts that it took off the book
abbrev pub by_cancel : ℕ → Cancelling → ℕ → Account → Account
by_cancel i c size a = record {
  entered = a.entered;
  added = a.added;
  traded_here = a.traded_here;
  traded_away = a.traded_away;
  cancelled = a.cancelled + cond (c.id == i) size 0;
  taken_off = a.taken_off;
  out = a.out;
}

abbrev pub by_call : ℕ → Call → ℕ → List Line → Account → Account
by_call i (enters rule c) answer tape a = by_entry i c.order tape a
by_call i (returns rule c) answer tape a = by_return i c tape a
by_call i (resizes c) answer tape a = by_resize i c answer a
by_call i (cancels c) answer tape a = by_cancel i c answer a
by_call i (updates c) answer tape a = a

-- a refusal books nothing
abbrev pub booked : ℕ → Told → Account → Account
booked i (turned_down k r) a = a
booked i (carried_out k answer tape) a = by_call i k answer tape a

abbrev pub account : ℕ → List Told → Account
account i [] = no_account
account i (r ∷ rs) = booked i r (account i rs)
