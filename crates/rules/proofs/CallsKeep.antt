-- Every accepted call leaves the book sound. Assumes nothing.
use Rattle.std.proofs.Common.{◌≡◌, ℕ, ◌+◌, ◌-◌, ◌<◌, ◌≤◌, Bool, true, false, cond, not, ◌&&◌, ◌||◌, eqb, ltb, leb, ◌⊎◌, List, [], ◌∷◌, length, is_some, Some, None, filter, Option, unwrap_or, sym, refl, ap, ◌∙◌, subst, inl, inr, ⊎_elim, arith}
use Rattle.std.specs.List.{AllByRecursion}
use Rattle.std.proofs.lemmas.Bool.Decides.{nat_tests}
use Rattle.std.proofs.lemmas.Bool.{false≢true, cases_Bool, cond_both, cond-true, cond-false, and_parts, eqb-false, leb-false, ltb-false}
use Rattle.sharing.specs.Sharing.{Sharing}
use Rattle.sharing.specs.Totals.{one_if, count}
use Rattle.rules.specs.declared.numbers.Cause.TheVariants.{Immediate, AwayPrice, NoPlaceOnReturn}
use Rattle.rules.specs.declared.numbers.Refusal.{Refusal}
use Rattle.rules.specs.declared.numbers.Refusal.TheVariants.{FirmZero, AnotherFirms, NeitherRestingNorOut, OutOnRoute, NotOutHere}
use Rattle.rules.specs.declared.tape.Step.{Step}
use Rattle.rules.specs.declared.terms.Entry.{Entry}
use Rattle.rules.specs.declared.terms.Routed.{Routed}
use Rattle.rules.specs.declared.terms.Side.{Side}
use Rattle.rules.specs.declared.terms.Side.TheVariants.{Buy, Sell}
use Rattle.rules.specs.Calls.{Entering, entry_of, entry_checks, reference, capped, least_missed, missed, Returning, without_row, return_checks, returned, return_of, Resizing, without_entry, enlarged, reduced_in, after_resize, resize_checks, resting_checks, resize_at, resize_of, Cancelling, cancel_checks, cancel_at, cancel_of, Updating, market_checks, market_of, opened, opening_checks, opening_of}
use Rattle.rules.specs.Caps.{is_ioc, is_quote}
use Rattle.rules.specs.Laws.{LeftOf}
use Rattle.rules.specs.Laws.LeftOf.{same, fewer}
use Rattle.rules.specs.Level.{resized, Deal, step, unbarred, level}
use Rattle.rules.specs.Model.{Model, Opening, entries, away, places, with_entries, with_away, with_out, with_last_id, with_last_time, best, national_best, ranked_in}
use Rattle.rules.specs.Outcome.{Outcome, Check, checked, lent_checks, bad_price, found_in, entry_with, row_with, Standing, standing_by, standing}
use Rattle.rules.specs.Outcome.Standing.{resting, out_on_route, nowhere}
use Rattle.rules.specs.Outcome.Outcome.{refused, done}
use Rattle.rules.specs.Prices.{is_price}
use Rattle.rules.specs.Sides.{other_side}
use Rattle.rules.specs.Sound.{GoodEntry, GoodRow, standing_with, Sound, Keeps, Kept}
use Rattle.rules.specs.Trade.{away_in_cap, Ending, ending, sized, resting_entry, ended, traded, finished, trade}
use Rattle.rules.specs.Trade.Ending.{is_filled, is_routed, is_cancelled, rests}
use Rattle.rules.specs.Walk.{at_price, is_price_of, runs, flat, walk}
use Rattle.rules.proofs.CapPrices.{cap_price, national_price, best_price}
use Rattle.rules.proofs.Leaves.{count_left, left_refl, left_append, left_kept, level_leaves, runs_are_whole}
use Rattle.rules.proofs.Chain.{level_by, walk_by}
use Rattle.rules.proofs.Moves.{has_id, counts, good_side, thinned, recounted, rested, sent_out, given_back, stands_nowhere}

-- a call is refused, or none of its checks fits and it is carried out
pub checked_by : (P : Outcome → Type 0) → ((r : Refusal) → P (refused r)) → (cs : List Check) (o : Outcome) → (AllByRecursion (λ c. c.0 ≡ false) cs → P o) → P (checked cs o)
checked_by P down [] o h = h tt
checked_by P down (c ∷ cs) o h = cond_both c.0 (refused c.1) (checked cs o) P (λ _. down c.1) (λ free. checked_by P down cs o (λ all. h (free, all)))

-- an entry is refused, or none of its checks fits and it misses its least size or trades
pub entry_by : (P : Outcome → Type 0) → ((why : Refusal) → P (refused why)) → (rule : Sharing) (c : Entering) (m : Model) → let counted = with_last_id c.order.id m in
    (AllByRecursion (λ k. k.0 ≡ false) (entry_checks c m) → least_missed c.order m ≡ true → P (done (missed c.order counted)))
    → (AllByRecursion (λ k. k.0 ≡ false) (entry_checks c m) → least_missed c.order m ≡ false → P (done (trade rule (capped c.order m) c.order.may_route counted))) → P (entry_of rule c m)
unfolding entry_of
entry_by P down rule c m misses trades =
    let counted = with_last_id c.order.id m in
    let d1 = missed c.order counted in
    let d2 = trade rule (capped c.order m) c.order.may_route counted in
    checked_by P down (entry_checks c m) (done (cond (least_missed c.order m) d1 d2)) (λ all. cond_both (least_missed c.order m) d1 d2 (λ d. P (done d)) (misses all) (trades all))

-- a return is refused, or the order is out, none of the checks fits and what was not executed trades
pub return_by : (P : Outcome → Type 0) → ((why : Refusal) → P (refused why)) → (rule : Sharing) (c : Returning) (m : Model)
    → ((r : Routed) → row_with c.id m.out ≡ Some r → AllByRecursion (λ k. k.0 ≡ false) (return_checks c m r) → P (done (trade rule (sized (r.size - c.executed) r) false (with_out (without_row c.id m.out) m))))
    → P (return_of rule c m)
unfolding return_of
return_by P down rule c m trades = go (row_with c.id m.out) refl
  where
    go : (r : Option Routed) → row_with c.id m.out ≡ r → P (returned rule c m r)
    go None found = checked_by P down (lent_checks c.tape c.sheet m []) (refused NotOutHere) (λ _. down NotOutHere)
    go (Some r) found = checked_by P down (return_checks c m r) (done (trade rule (sized (r.size - c.executed) r) false (with_out (without_row c.id m.out) m))) (trades r found)

-- where an id stands on a side, is out or is nowhere
pub standing_cases : (P : Standing → Type 0) (i : ℕ) (m : Model) → ((s : Side) (e : Entry) → entry_with i (entries s m) ≡ Some e → P (resting s e)) → ((x : Routed) → P (out_on_route x)) → P nowhere → P (standing i m)
standing_cases P i m stands out none = go (entry_with i m.bids) refl (entry_with i m.offers) refl (row_with i m.out)
  where
    go : (b : Option Entry) → entry_with i m.bids ≡ b → (o : Option Entry) → entry_with i m.offers ≡ o → (x : Option Routed) → P (standing_by b o x)
    go (Some e) found o else x = stands Buy e found
    go None nothing (Some e) found x = stands Sell e found
    go None nothing None else (Some x) = out x
    go None nothing None else None = none

checked_keeps : (cs : List Check) (o : Outcome) → (AllByRecursion (λ c. c.0 ≡ false) cs → Keeps o) → Keeps (checked cs o)
checked_keeps cs o h = checked_by Keeps (λ r. tt) cs o h

-- a balance never grows
step_balance : (k : Step) (test : Entry → Bool) (rule : Sharing) (amount : ℕ) (d : Deal) → (step k test rule amount d).balance ≤ d.balance
unfolding step
step_balance k test rule amount d = omega arith

pub level_balance : (rule : Sharing) (o : Routed) (at_best : Bool) (balance : ℕ) (run : List Entry) → (level rule o at_best balance run).balance ≤ balance
unfolding unbarred
level_balance rule o at_best balance run =
    level_by (λ d. d.balance ≤ balance) (λ k test r amount d h. omega (arith, step_balance k test r amount d)) rule o at_best balance run (omega arith)

walk_leaves : (rule : Sharing) (o : Routed) (national near : Option ℕ) (balance : ℕ) (rs : List (List Entry)) → LeftOf (flat rs) (walk rule o national near balance rs).run × ((walk rule o national near balance rs).balance ≤ balance)
walk_leaves rule o national near =
    walk_by (λ balance rs d. LeftOf (flat rs) d.run × (d.balance ≤ balance)) rule o national near
    (λ balance rs. (left_refl (flat rs), omega arith))
    (λ balance r rs beyond _ rest.
    let best = at_price (is_price_of national) r in
    (left_append (level_leaves rule o best balance r) rest.0, omega (arith, rest.1, level_balance rule o best balance r)))

pub traded_leaves : (rule : Sharing) (o : Routed) (m : Model) → LeftOf (entries (other_side o.side) m) (traded rule o m).run × ((traded rule o m).balance ≤ o.size)
unfolding traded
traded_leaves rule o m =
    let contra = other_side o.side in
    let w = walk_leaves rule o (national_best contra m) (away contra m) o.size (runs (entries contra m)) in
    (subst (λ es. LeftOf es (walk rule o (national_best contra m) (away contra m) o.size (runs (entries contra m))).run) (runs_are_whole (entries contra m)) w.0, w.1)

-- what a thinned other side leaves of the rest of the book
pub same_book : (s : Side) (es : List Entry) (m : Model) → (entries s (with_entries (other_side s) es m) ≡ entries s m) × (places s (with_entries (other_side s) es m) ≡ places s m) × ((with_entries (other_side s) es m).out ≡ m.out) × ((with_entries (other_side s) es m).counters ≡ m.counters) × ((with_entries (other_side s) es m).opening ≡ m.opening)
same_book Buy es m = (refl, refl, refl, refl, refl)
same_book Sell es m = (refl, refl, refl, refl, refl)

-- the order at its end, in a book where its id does not stand
module _ (o : Routed) (may : Bool) (balance : ℕ) (m : Model) (sound : Sound m) (fresh : standing_with o.id m ≡ 0)
    (price : is_price m.opening.tick o.cap ≡ true) (size : balance ≤ 99999) (id : o.id ≤ m.counters.last_id)
    (bound : m.counters.last_time + 1 + length m.out ≤ 4000000017) (place : may ≡ true → length m.out < 16) where
  ended_keeps : Sound (ended o balance (ending o may balance m) m)
  unfolding ending
  ended_keeps =
      let near = away_in_cap o.side o.cap (away (other_side o.side) m) in
      let P : Ending → Type 0 = λ e. Sound (ended o balance e m) in
      let e5 = cond (leb (places o.side m) (length (entries o.side m))) (is_cancelled NoPlaceOnReturn) rests in
      let e4 = cond near (is_cancelled AwayPrice) e5 in
      let e3 = cond (is_ioc o.term) (is_cancelled Immediate) e4 in
      let e2 = cond (near && may) is_routed e3 in
      cond_both (eqb balance 0) is_filled e2 P (λ _. sound) (λ some.
      let one : 1 ≤ balance = omega (arith, eqb-false balance 0 some) in
      cond_both (near && may) is_routed e3 P
      (λ goes. sent_out (sized balance o) m sound fresh (record { some = one; size = size; price = price; id = id }) (place (and_parts near may goes).1) bound)
      (λ _. cond_both (is_ioc o.term) (is_cancelled Immediate) e4 P (λ _. sound)
      (λ _. cond_both near (is_cancelled AwayPrice) e5 P (λ _. sound)
      (λ _. cond_both (leb (places o.side m) (length (entries o.side m))) (is_cancelled NoPlaceOnReturn) rests P (λ _. sound)
      (λ room. rested o.side (resting_entry o balance (m.counters.last_time + 1)) m sound fresh one size price id refl (leb-false (places o.side m) (length (entries o.side m)) room) bound)))))

trade_keeps : (rule : Sharing) (o : Routed) (may : Bool) (m : Model) → Sound m → standing_with o.id m ≡ 0 → is_price m.opening.tick o.cap ≡ true → o.size ≤ 99999 → o.id ≤ m.counters.last_id → m.counters.last_time + 1 + length m.out ≤ 4000000017 → (may ≡ true → length m.out < 16) → Sound (trade rule o may m).after
unfolding trade finished
trade_keeps rule o may m sound fresh price size id bound place =
    let d = traded rule o m in
    let contra = other_side o.side in
    let m' = with_entries contra d.run m in
    let less = traded_leaves rule o m in
    let same = same_book o.side d.run m in
    ended_keeps o may d.balance m' (thinned contra d.run m sound less.0)
    (omega (arith, counts contra d.run m o.id, count_left (has_id o.id) (λ n e. refl) less.0))
    (ap (λ x. is_price x.tick o.cap) same.4 ∙ price)
    (omega (arith, less.1))
    (omega (arith, ap (λ x. x.last_id) same.3))
    (omega (arith, ap (λ x. x.last_time) same.3, ap (λ x. length x) same.2))
    (λ goes. omega (arith, place goes, ap (λ x. length x) same.2))

away_good : (s : Side) (m : Model) → Sound m → bad_price m.opening.tick (away s m) ≡ false
away_good Buy m sound = sound.away_bid
away_good Sell m sound = sound.away_offer

-- what is known of an order whose entry is accepted
pub record EntryFits (c : Entering) (m : Model) : Type 0 where
  pub above : m.counters.last_id < c.order.id
  pub some : 1 ≤ c.order.size
  pub most : c.order.size ≤ 99999
  pub cap : is_price m.opening.tick (capped c.order m).cap ≡ true
  pub time : m.counters.last_time ≤ 4000000000
  pub room : c.order.may_route ≡ true → length m.out < 16

pub entry_fits : (c : Entering) (m : Model) → Sound m → AllByRecursion (λ k. k.0 ≡ false) (entry_checks c m) → EntryFits c m
entry_fits c m sound all =
    let o = c.order in
    let tick = m.opening.tick in
    let a = all.1.1 in
    let price = a.1.1.1.0 in
    let clash = a.1.1.1.1.0 in
    let sixteen = a.1.1.1.1.1.1.0 in
    let referred = a.1.1.1.1.1.1.1.1.0 in
    let contra = other_side o.side in
    let far = national_price tick contra (best (entries contra m)) (away contra m) (best_price tick m.counters (entries contra m) (good_side contra m sound).good) (away_good contra m sound) in
    record {
      above = leb-false o.id m.counters.last_id a.0;
      some = grind (arith, nat_tests, a.1.1.0);
      most = grind (arith, nat_tests, a.1.1.0);
      cap = cap_price tick sound.tick o.side o.price (reference o m) (is_ioc o.term || is_quote o.kind)
          (λ none. grind (arith, nat_tests, clash))
          (λ none. grind (arith, nat_tests, referred)) price far;
      time = ltb-false 4000000000 m.counters.last_time a.1.1.1.1.1.0;
      room = λ goes. grind (arith, nat_tests, sixteen);
    }

-- the book with the order's id counted
pub counted_sound : (c : Entering) (m : Model) → Sound m → EntryFits c m → Sound (with_last_id c.order.id m)
counted_sound c m sound fits = recounted (record m.counters { last_id = c.order.id }) m sound (omega (arith, fits.above)) (omega arith) sound.bounded

entry_keeps : (rule : Sharing) (c : Entering) (m : Model) → Sound m → Keeps (entry_of rule c m)
entry_keeps rule c m sound =
    let o = c.order in
    entry_by Keeps (λ why. tt) rule c m (λ all _. counted_sound c m sound (entry_fits c m sound all)) (λ all _.
    let fits = entry_fits c m sound all in
    trade_keeps rule (capped o m) o.may_route (with_last_id o.id m) (counted_sound c m sound fits) (stands_nowhere o.id m sound fits.above) fits.cap fits.most (omega arith) (omega (arith, sound.few_out, fits.time)) fits.room)

-- what is found by its id
module _ {X : Type 0} (id : X → ℕ) (i : ℕ) where
  pub found_head : (x : X) (xs : List X) (y : X) → found_in id i (x ∷ xs) ≡ Some y → ((eqb (id x) i ≡ true) × (x ≡ y)) ⊎ ((eqb (id x) i ≡ false) × (found_in id i xs ≡ Some y))
  found_head x xs y found =
      ⊎_elim
      (λ here. inl (here, ap (λ o. unwrap_or o x) (sym (cond-true (eqb (id x) i) (Some x) (found_in id i xs) here) ∙ found)))
      (λ away. inr (away, sym (cond-false (eqb (id x) i) (Some x) (found_in id i xs) away) ∙ found))
      (cases_Bool (eqb (id x) i))

  pub found_all : (P : X → Type 0) (xs : List X) (y : X) → found_in id i xs ≡ Some y → AllByRecursion P xs → P y
  found_all P [] y found ps = absurd (false≢true (ap is_some found))
  found_all P (x ∷ xs) y found ps = ⊎_elim (λ here. subst P here.1 ps.0) (λ away. found_all P xs y away.1 ps.1) (found_head x xs y found)

  pub found_id : (xs : List X) (y : X) → found_in id i xs ≡ Some y → id y ≡ i
  found_id [] y found = absurd (false≢true (ap is_some found))
  found_id (x ∷ xs) y found = grind (arith, nat_tests, found_id xs y)

  abbrev others : List X → List X
  others xs = filter (λ x. not (eqb (id x) i)) xs

  pub others_none : (xs : List X) → count (λ x. eqb (id x) i) (others xs) ≡ 0
  others_none [] = refl
  others_none (x ∷ xs) = grind (arith, nat_tests, others_none xs)

  pub others_fewer : (xs : List X) → length (others xs) + count (λ x. eqb (id x) i) xs ≡ length xs
  others_fewer [] = refl
  others_fewer (x ∷ xs) = grind (arith, nat_tests, others_fewer xs)

  pub found_counts : (xs : List X) (y : X) → found_in id i xs ≡ Some y → 1 ≤ count (λ x. eqb (id x) i) xs
  found_counts [] y found = absurd (false≢true (ap is_some found))
  found_counts (x ∷ xs) y found = grind (arith, nat_tests, found_counts xs y)

return_keeps : (rule : Sharing) (c : Returning) (m : Model) → Sound m → Keeps (return_of rule c m)
return_keeps rule c m sound = return_by Keeps (λ why. tt) rule c m (λ r found _.
    let id : Routed → ℕ = λ x. x.id in
    let good = found_all id c.id (GoodRow m.opening.tick m.counters) m.out r found sound.out in
    let same = found_id id c.id m.out r found in
    let none = others_none id c.id m.out in
    let fewer_rows = others_fewer id c.id m.out in
    let one = found_counts id c.id m.out r found in
    let fresh : standing_with c.id (with_out (without_row c.id m.out) m) ≡ 0 = omega (arith, none, one, sound.unique c.id) in
    trade_keeps rule (sized (r.size - c.executed) r) false (with_out (without_row c.id m.out) m) (given_back (λ x. not (eqb x.id c.id)) m sound)
    (ap (λ j. standing_with j (with_out (without_row c.id m.out) m)) same ∙ fresh)
    good.price (omega (arith, good.size)) good.id (omega (arith, fewer_rows, one, sound.bounded)) (λ impossible. absurd (false≢true impossible)))

market_keeps : (c : Updating) (m : Model) → Sound m → Keeps (market_of c m)
unfolding market_of
market_keeps c m sound = checked_keeps (market_checks c m) (done (record { answer = 0; lines = []; after = with_away c.side c.price m; ticket = None })) (λ all. set c.side all.0)
  where
    set : (s : Side) → bad_price m.opening.tick c.price ≡ false → Sound (with_away s c.price m)
    set Buy good = record { tick = sound.tick; bid_places = sound.bid_places; offer_places = sound.offer_places; bids = sound.bids; offers = sound.offers; away_bid = good; away_offer = sound.away_offer; out = sound.out; few_out = sound.few_out; unique = sound.unique; bounded = sound.bounded }
    set Sell good = record { tick = sound.tick; bid_places = sound.bid_places; offer_places = sound.offer_places; bids = sound.bids; offers = sound.offers; away_bid = sound.away_bid; away_offer = good; out = sound.out; few_out = sound.few_out; unique = sound.unique; bounded = sound.bounded }

cancel_keeps : (c : Cancelling) (m : Model) → Sound m → Keeps (cancel_of c m)
unfolding cancel_of
cancel_keeps c m sound =
    standing_cases (λ x. Keeps (cancel_at c m x)) c.id m
    (λ s e found. checked_keeps (cancel_checks c e.firm) (done (record { answer = e.size; lines = []; after = with_entries s (without_entry c.id (entries s m)) m; ticket = None })) (λ _. thinned s (without_entry c.id (entries s m)) m sound (left_kept (λ f. not (eqb f.id c.id)) (entries s m))))
    (λ x. checked_keeps (cancel_checks c x.firm) (refused OutOnRoute) (λ _. tt))
    (checked_keeps ((eqb c.firm 0, FirmZero) ∷ []) (refused NeitherRestingNorOut) (λ _. tt))

opening_keeps : (c : Opening) → Keeps (opening_of c)
unfolding opening_of
opening_keeps c =
    checked_keeps (opening_checks c) (done (record { answer = 0; lines = []; after = opened c; ticket = None })) (λ all.
    record {
      tick = grind (arith, nat_tests, all.1.0);
      bid_places = grind (arith, nat_tests, all.0);
      offer_places = grind (arith, nat_tests, all.0);
      bids = record { ranked = tt; good = tt; few = omega arith };
      offers = record { ranked = tt; good = tt; few = omega arith };
      away_bid = refl;
      away_offer = refl;
      out = tt;
      few_out = omega arith;
      unique = λ i. omega arith;
      bounded = omega arith;
    })

-- a smaller or an equal size of the one entry with its id
pub reduced_none : (i n : ℕ) (es : List Entry) → count (has_id i) es ≡ 0 → reduced_in i n es ≡ es
reduced_none i n [] none = refl
reduced_none i n (e ∷ es) none = grind (arith, nat_tests, reduced_none i n es)

reduced_left : (i n : ℕ) (es : List Entry) (e : Entry) → entry_with i es ≡ Some e → count (has_id i) es ≤ 1 → 1 ≤ n → n ≤ e.size → LeftOf es (reduced_in i n es)
reduced_left i n [] e found once one le = absurd (false≢true (ap is_some found))
reduced_left i n (f ∷ es) e found once one le =
    ⊎_elim
    (λ here.
    let counted = ap one_if here.0 in
    subst (LeftOf (f ∷ es)) (λ t. sym (cond-true (eqb f.id i) (resized n f) f here.0) t ∷ sym (reduced_none i n es (omega arith)) t)
    (fewer n one (omega (arith, ap (λ x. x.size) here.1)) (left_refl es)))
    (λ away.
    let counted = ap one_if away.0 in
    subst (λ x. LeftOf (f ∷ es) (x ∷ reduced_in i n es)) (sym (cond-false (eqb f.id i) (resized n f) f away.0))
    (same (reduced_left i n es e away.1 (omega arith) one le)))
    (found_head (λ x. x.id) i f es e found)

-- a larger size: the entry goes, and comes back with a new time
enlarged_keeps : (c : Resizing) (s : Side) (e : Entry) (m : Model) → Sound m → entry_with c.id (entries s m) ≡ Some e → 1 ≤ c.size → c.size ≤ 99999 → m.counters.last_time ≤ 4000000000 → Sound (with_last_time (m.counters.last_time + 1) (with_entries s (ranked_in s (enlarged c.size (m.counters.last_time + 1) e) (without_entry c.id (entries s m))) m))
enlarged_keeps c s e m sound found some most time =
    let left = without_entry c.id (entries s m) in
    let good = found_all id c.id (GoodEntry m.opening.tick m.counters) (entries s m) e found (good_side s m sound).good in
    let one = found_counts id c.id (entries s m) e found in
    let fresh : standing_with c.id (with_entries s left m) ≡ 0 = omega (arith, counts s left m c.id, others_none id c.id (entries s m), one, sound.unique c.id) in
    back s left (thinned s left m sound (left_kept (λ f. not (eqb f.id c.id)) (entries s m)))
    (ap (λ j. standing_with j (with_entries s left m)) (found_id id c.id (entries s m) e found) ∙ fresh)
    good.price good.id (omega (arith, others_fewer id c.id (entries s m), one, (good_side s m sound).few))
  where
    id : Entry → ℕ
    id x = x.id

    back : (s : Side) (fs : List Entry) → Sound (with_entries s fs m) → standing_with e.id (with_entries s fs m) ≡ 0 → is_price m.opening.tick e.price ≡ true → e.id ≤ m.counters.last_id → length fs < places s m
        → Sound (with_last_time (m.counters.last_time + 1) (with_entries s (ranked_in s (enlarged c.size (m.counters.last_time + 1) e) fs) m))
    back Buy fs less fresh price given room = rested Buy (enlarged c.size (m.counters.last_time + 1) e) (with_entries Buy fs m) less fresh some most price given refl room (omega (arith, sound.few_out))
    back Sell fs less fresh price given room = rested Sell (enlarged c.size (m.counters.last_time + 1) e) (with_entries Sell fs m) less fresh some most price given refl room (omega (arith, sound.few_out))

pub side_once : (s : Side) (m : Model) → Sound m → (i : ℕ) → count (has_id i) (entries s m) ≤ 1
side_once Buy m sound i = omega (arith, sound.unique i)
side_once Sell m sound i = omega (arith, sound.unique i)

resize_keeps : (c : Resizing) (m : Model) → Sound m → Keeps (resize_of c m)
unfolding resize_of
resize_keeps c m sound =
    standing_cases (λ x. Keeps (resize_at c m x)) c.id m
    (λ s e found. checked_keeps (resting_checks c m e) (done (record { answer = c.size; lines = []; after = after_resize c s e m; ticket = None })) (λ all.
    let some : 1 ≤ c.size = grind (arith, nat_tests, all.1.0) in
    let most : c.size ≤ 99999 = grind (arith, nat_tests, all.1.0) in
    cond_both (ltb e.size c.size) _ _ Sound
    (λ larger. enlarged_keeps c s e m sound found some most (grind (arith, nat_tests, all.1.1.1.0)))
    (λ not_larger. thinned s (reduced_in c.id c.size (entries s m)) m sound (reduced_left c.id c.size (entries s m) e found (side_once s m sound c.id) some (ltb-false e.size c.size not_larger)))))
    (λ x. checked_keeps (resize_checks c ((not (eqb x.firm c.firm), AnotherFirms) ∷ [])) (refused OutOnRoute) (λ _. tt))
    (checked_keeps (resize_checks c []) (refused NeitherRestingNorOut) (λ _. tt))

pub kept : Kept
kept = record {
  opening = opening_keeps;
  market = market_keeps;
  cancel = cancel_keeps;
  resize = resize_keeps;
  entry = entry_keeps;
  return = return_keeps;
}
