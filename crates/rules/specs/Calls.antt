-- The outcome of each call, from what it brings and the book. Assumes nothing.
use Rattle.std.specs.Prelude.{ℕ, ◌+◌, ◌-◌, Bool, false, cond, not, ◌&&◌, ◌||◌, List, [], ◌∷◌, map, length, is_some, Some, None, filter, Option, ◌==◌, nat_le, nat_lt}
use Rattle.std.specs.Option.{unwrap_or}
use Rattle.sharing.specs.Sharing.{Sharing}
use Rattle.rules.specs.declared.numbers.Cause.TheVariants.{LeastSize}
use Rattle.rules.specs.declared.numbers.Refusal.TheVariants.{BadPlaces, BadTickOrSeries, IdNotAboveAllBefore, FirmZero, BadPrice, BadSize, TermsClash, NoReference, NeitherRestingNorOut, AnotherFirms, OutOnRoute, SideFull, SixteenOut, LastTimeReached, NotOutHere, MoreThanRouted}
use Rattle.rules.specs.declared.tape.Line.TheVariants.{Cancel}
use Rattle.rules.specs.declared.terms.Entry.{Entry}
use Rattle.rules.specs.declared.terms.Order.{Order}
use Rattle.rules.specs.declared.terms.Routed.{Routed}
use Rattle.rules.specs.declared.terms.Side.{Side}
use Rattle.rules.specs.Caps.{cap_of, is_ioc}
use Rattle.rules.specs.Checks.{terms_clash, unpriced}
use Rattle.rules.specs.Level.{resized}
use Rattle.rules.specs.Model.{Model, Opening, entries, away, places, with_entries, with_away, with_out, with_last_id, with_last_time, national_best, ranked_in}
use Rattle.rules.specs.Outcome.{Done, Outcome, Check, checked, lent_checks, bad_price, firm_zero, Standing, row_with, standing}
use Rattle.rules.specs.Outcome.Outcome.{refused, done}
use Rattle.rules.specs.Outcome.Standing.{resting, out_on_route, nowhere}
use Rattle.rules.specs.Prices.{is_tick, is_size}
use Rattle.rules.specs.Sides.{other_side}
use Rattle.rules.specs.Trade.{sized, trade}
use Rattle.rules.specs.Walk.{available}

-- an entry of an order brings it, and a tape and a claim sheet by their lengths
pub record Entering : Type 0 where
  pub order : Order
  pub tape : ℕ
  pub sheet : ℕ

-- the national best price on the other side, from which the collar is reckoned
abbrev pub reference : Order → Model → Option ℕ
reference o m = national_best (other_side o.side) m

abbrev pub entry_checks : Entering → Model → List Check
entry_checks c m =
    let o = c.order in
    lent_checks c.tape c.sheet m
    ((nat_le o.id m.counters.last_id, IdNotAboveAllBefore)
    ∷ (o.firm == 0 || firm_zero o.directed, FirmZero)
    ∷ (not (is_size o.size), BadSize)
    ∷ (bad_price m.opening.tick o.price, BadPrice)
    ∷ (terms_clash o, TermsClash)
    ∷ (nat_lt 4000000000 m.counters.last_time, LastTimeReached)
    ∷ (o.may_route && nat_le 16 (length m.out), SixteenOut)
    ∷ (not (is_ioc o.term) && nat_le (places o.side m) (length (entries o.side m)), SideFull)
    ∷ (unpriced o && not (is_some (reference o m)), NoReference)
    ∷ [])

-- the order as it sets out, with its cap
abbrev pub setting_out : Order → ℕ → Routed
setting_out o cap = record { id = o.id; firm = o.firm; kind = o.kind; side = o.side; term = o.term; market = unpriced o; cap = cap; size = o.size; directed = o.directed; own_firm_mark = o.own_firm_mark }

abbrev pub capped : Order → Model → Routed
capped o m = setting_out o (unwrap_or (cap_of o m.opening.tick (reference o m)) 0)

-- fewer contracts are available than the least size
abbrev pub least_missed : Order → Model → Bool
least_missed o m = nat_lt (available (capped o m) (away (other_side o.side) m) (entries (other_side o.side) m)) o.least

-- then the whole order is cancelled, and nothing else happens
abbrev pub missed : Order → Model → Done
missed o m = record { answer = 1; lines = Cancel o.id o.firm o.size LeastSize ∷ []; after = m; ticket = None }

unfoldable pub entry_of : Sharing → Entering → Model → Outcome
entry_of rule c m =
    let o = c.order in
    let counted = with_last_id o.id m in
    checked (entry_checks c m) (done (cond (least_missed o m) (missed o counted) (trade rule (capped o m) o.may_route counted)))

-- a return brings a ticket (a series and an id), the contracts executed away, a tape and a claim sheet
pub record Returning : Type 0 where
  pub series : ℕ
  pub id : ℕ
  pub executed : ℕ
  pub tape : ℕ
  pub sheet : ℕ

abbrev pub without_row : ℕ → List Routed → List Routed
without_row i rs = filter (λ r. not (r.id == i)) rs

-- the order is out on a route, and is r
abbrev pub return_checks : Returning → Model → Routed → List Check
return_checks c m r = lent_checks c.tape c.sheet m ((not (c.series == m.opening.series), NotOutHere) ∷ (nat_lt r.size c.executed, MoreThanRouted) ∷ [])

-- the rest trades again with its old cap and terms, without leave to route
abbrev pub returned : Sharing → Returning → Model → Option Routed → Outcome
returned rule c m None = checked (lent_checks c.tape c.sheet m []) (refused NotOutHere)
returned rule c m (Some r) = checked (return_checks c m r) (done (trade rule (sized (r.size - c.executed) r) false (with_out (without_row c.id m.out) m)))

unfoldable pub return_of : Sharing → Returning → Model → Outcome
return_of rule c m = returned rule c m (row_with c.id m.out)

-- a size change brings an id, the caller's firm and the new size
pub record Resizing : Type 0 where
  pub id : ℕ
  pub firm : ℕ
  pub size : ℕ

abbrev pub without_entry : ℕ → List Entry → List Entry
without_entry i es = filter (λ e. not (e.id == i)) es

-- the entry with a larger size has a new working time
abbrev pub enlarged : ℕ → ℕ → Entry → Entry
enlarged n time e = record e { size = n; time = time }

-- a smaller or an equal size keeps the entry's time, and so its place
abbrev pub reduced_in : ℕ → ℕ → List Entry → List Entry
reduced_in i n es = map (λ e. cond (e.id == i) (resized n e) e) es

abbrev pub after_resize : Resizing → Side → Entry → Model → Model
after_resize c s e m =
    cond (nat_lt e.size c.size)
    (with_last_time (m.counters.last_time + 1) (with_entries s (ranked_in s (enlarged c.size (m.counters.last_time + 1) e) (without_entry c.id (entries s m))) m))
    (with_entries s (reduced_in c.id c.size (entries s m)) m)

abbrev pub resize_checks : Resizing → List Check → List Check
resize_checks c cs = ((c.firm == 0), FirmZero) ∷ (not (is_size c.size), BadSize) ∷ cs

-- the entry is e
abbrev pub resting_checks : Resizing → Model → Entry → List Check
resting_checks c m e = resize_checks c ((not (e.firm == c.firm), AnotherFirms) ∷ (nat_lt e.size c.size && nat_lt 4000000000 m.counters.last_time, LastTimeReached) ∷ [])

abbrev pub resize_at : Resizing → Model → Standing → Outcome
resize_at c m nowhere = checked (resize_checks c []) (refused NeitherRestingNorOut)
resize_at c m (out_on_route r) = checked (resize_checks c ((not (r.firm == c.firm), AnotherFirms) ∷ [])) (refused OutOnRoute)
resize_at c m (resting s e) = checked (resting_checks c m e) (done (record { answer = c.size; lines = []; after = after_resize c s e m; ticket = None }))

unfoldable pub resize_of : Resizing → Model → Outcome
resize_of c m = resize_at c m (standing c.id m)

-- a cancel brings an id and the caller's firm
pub record Cancelling : Type 0 where
  pub id : ℕ
  pub firm : ℕ

-- the order is that firm's
abbrev pub cancel_checks : Cancelling → ℕ → List Check
cancel_checks c firm = ((c.firm == 0), FirmZero) ∷ (not (firm == c.firm), AnotherFirms) ∷ []

abbrev pub cancel_at : Cancelling → Model → Standing → Outcome
cancel_at c m nowhere = checked (((c.firm == 0), FirmZero) ∷ []) (refused NeitherRestingNorOut)
cancel_at c m (out_on_route r) = checked (cancel_checks c r.firm) (refused OutOnRoute)
cancel_at c m (resting s e) = checked (cancel_checks c e.firm) (done (record { answer = e.size; lines = []; after = with_entries s (without_entry c.id (entries s m)) m; ticket = None }))

unfoldable pub cancel_of : Cancelling → Model → Outcome
cancel_of c m = cancel_at c m (standing c.id m)

-- a market update brings a side and an away price there, or none; it moves no entry
pub record Updating : Type 0 where
  pub side : Side
  pub price : Option ℕ

abbrev pub market_checks : Updating → Model → List Check
market_checks c m = (bad_price m.opening.tick c.price, BadPrice) ∷ []

unfoldable pub market_of : Updating → Model → Outcome
market_of c m = checked (market_checks c m) (done (record { answer = 0; lines = []; after = with_away c.side c.price m; ticket = None }))

abbrev pub bad_places : ℕ → Bool
bad_places n = n == 0 || nat_lt 256 n

-- the book as it is opened: without entries, orders out or away prices
abbrev pub opened : Opening → Model
opened c = record { bids = []; offers = []; out = []; away_bid = None; away_offer = None; counters = record { last_id = 0; last_time = 0 }; opening = c }

abbrev pub opening_checks : Opening → List Check
opening_checks c = (bad_places c.bid_places || bad_places c.offer_places, BadPlaces) ∷ (not (is_tick c.tick) || (c.series == 0), BadTickOrSeries) ∷ []

unfoldable pub opening_of : Opening → Outcome
opening_of c = checked (opening_checks c) (done (record { answer = 0; lines = []; after = opened c; ticket = None }))
