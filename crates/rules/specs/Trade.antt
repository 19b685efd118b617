-- What an order does at its entry and at its return: it trades from price to price, and what is left comes to an end.
-- Assumes nothing.
use Rattle.std.specs.Prelude.{ℕ, ◌+◌, Bool, false, cond, ◌&&◌, [], ◌∷◌, ◌++◌, length, Some, None, Option, ◌==◌, nat_le}
use Rattle.sharing.specs.Sharing.{Sharing}
use Rattle.rules.specs.declared.numbers.Cause.{Cause}
use Rattle.rules.specs.declared.numbers.Cause.TheVariants.{Immediate, AwayPrice, NoPlaceOnReturn}
use Rattle.rules.specs.declared.tape.Line.{Line}
use Rattle.rules.specs.declared.tape.Line.TheVariants.{Cancel, Filled, Rest, Route}
use Rattle.rules.specs.declared.terms.Entry.{Entry}
use Rattle.rules.specs.declared.terms.Routed.{Routed}
use Rattle.rules.specs.declared.terms.Side.{Side}
use Rattle.rules.specs.Caps.{is_ioc}
use Rattle.rules.specs.Level.{Deal}
use Rattle.rules.specs.Model.{Model, entries, away, places, with_entries, with_out, with_last_time, national_best, ranked_in}
use Rattle.rules.specs.Outcome.{Done}
use Rattle.rules.specs.Prices.{in_cap}
use Rattle.rules.specs.Sides.{other_side}
use Rattle.rules.specs.Walk.{runs, walk}

-- an away price on the other side is within the cap
abbrev pub away_in_cap : Side → ℕ → Option ℕ → Bool
away_in_cap s cap None = false
away_in_cap s cap (Some q) = in_cap s cap q

-- how an order ends
pub data Ending : Type 0 where
  is_filled : Ending
  is_routed : Ending
  is_cancelled : Cause → Ending
  rests : Ending

-- what is left meets the first of these that fits
unfoldable pub ending : Routed → Bool → ℕ → Model → Ending
ending o may_route balance m =
    let near = away_in_cap o.side o.cap (away (other_side o.side) m) in
    cond (balance == 0) is_filled
    (cond (near && may_route) is_routed
    (cond (is_ioc o.term) (is_cancelled Immediate)
    (cond near (is_cancelled AwayPrice)
    (cond (nat_le (places o.side m) (length (entries o.side m))) (is_cancelled NoPlaceOnReturn)
    rests))))

-- the one line at the end of the tape
abbrev pub end_line : Routed → ℕ → Ending → Line
end_line o balance is_filled = Filled o.id o.firm
end_line o balance is_routed = Route o.id o.firm balance
end_line o balance (is_cancelled why) = Cancel o.id o.firm balance why
end_line o balance rests = Rest o.id o.firm balance o.cap

-- the order with another size
abbrev pub sized : ℕ → Routed → Routed
sized n o = record o { size = n }

-- the entry that rests: at the cap, with a new working time
abbrev pub resting_entry : Routed → ℕ → ℕ → Entry
resting_entry o balance time = record { id = o.id; firm = o.firm; kind = o.kind; market = o.market; price = o.cap; size = balance; time = time; own_firm_mark = o.own_firm_mark }

-- the book after the end
abbrev pub ended : Routed → ℕ → Ending → Model → Model
ended o balance is_filled m = m
ended o balance is_routed m = with_out (m.out ++ sized balance o ∷ []) m
ended o balance (is_cancelled why) m = m
ended o balance rests m = with_last_time (m.counters.last_time + 1) (with_entries o.side (ranked_in o.side (resting_entry o balance (m.counters.last_time + 1)) (entries o.side m)) m)

-- only a routed order gives a ticket
abbrev pub ticket_of : Routed → Ending → Option ℕ
ticket_of o is_filled = None
ticket_of o is_routed = Some o.id
ticket_of o (is_cancelled why) = None
ticket_of o rests = None

-- what an order trades on the other side
unfoldable pub traded : Sharing → Routed → Model → Deal
traded rule o m =
    let contra = other_side o.side in
    walk rule o (national_best contra m) (away contra m) o.size (runs (entries contra m))

-- the tape: the lines of the prices, then the end
unfoldable pub finished : Routed → Bool → Deal → Model → Done
finished o may_route d m =
    let end = ending o may_route d.balance m in
    let lines = d.lines ++ end_line o d.balance end ∷ [] in
    record { answer = length lines; lines = lines; after = ended o d.balance end m; ticket = ticket_of o end }

unfoldable pub trade : Sharing → Routed → Bool → Model → Done
trade rule o may_route m =
    let d = traded rule o m in
    finished o may_route d (with_entries (other_side o.side) d.run m)
