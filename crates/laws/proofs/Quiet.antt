-- Calls that do not trade keep the records tied to the book: refusals, market updates, cancels and size changes. Assumes nothing.
use Rattle.std.proofs.Common.{◌≡◌, ℕ, ◌+◌, ◌-◌, ◌<◌, ◌≤◌, true, false, cond, not, eqb, ltb, List, [], ◌∷◌, is_some, Some, None, Option, sym, refl, ap, ◌∙◌, subst, ⊎_elim, arith}
use Rattle.std.specs.List.{AllByRecursion}
use Rattle.std.proofs.ByRecursion.{All-weaker, all_kept_by, All-map}
use Rattle.std.proofs.lemmas.Bool.Decides.{nat_tests}
use Rattle.std.proofs.lemmas.Bool.{false≢true, cond_both, cond-true, cond-false, eq-eqb, ne_eqb}
use Rattle.ranked.specs.Ranked.{ahead}
use Rattle.ranked.proofs.Orderly.{all_inserted_into}
use Rattle.sharing.specs.Totals.{one_if, count}
use Rattle.sharing.specs.Ordered.{total_inserted}
use Rattle.rules.specs.declared.numbers.Refusal.{Refusal}
use Rattle.rules.specs.declared.numbers.Refusal.TheVariants.{FirmZero, AnotherFirms, NeitherRestingNorOut, OutOnRoute}
use Rattle.rules.specs.declared.terms.Entry.{Entry}
use Rattle.rules.specs.declared.terms.Routed.{Routed}
use Rattle.rules.specs.declared.terms.Side.{Side}
use Rattle.rules.specs.declared.terms.Side.TheVariants.{Buy, Sell}
use Rattle.rules.specs.Calls.{Resizing, without_entry, enlarged, reduced_in, after_resize, resize_checks, resting_checks, resize_at, resize_of, Cancelling, cancel_checks, cancel_at, cancel_of, Updating, market_checks, market_of}
use Rattle.rules.specs.Laws.{holding}
use Rattle.rules.specs.Level.{size_of, resized}
use Rattle.rules.specs.Model.{Model, Opening, entries, away, with_entries, with_away, with_last_time, ranked_in}
use Rattle.rules.specs.Outcome.{Outcome, Check, checked, entry_with}
use Rattle.rules.specs.Outcome.Outcome.{refused, done}
use Rattle.rules.specs.Ranks.{rank_of, rank_before}
use Rattle.rules.specs.Sound.{GoodEntry, standing_with, Sound, Keeps}
use Rattle.rules.proofs.CallsKeep.{checked_by, standing_cases, found_head, found_all, found_id, found_counts, others_none, reduced_none, side_once, kept}
use Rattle.rules.proofs.Moves.{entries_with, with_again, counts, good_side}
use Rattle.laws.specs.Accounts.{holds, account}
use Rattle.laws.specs.Balanced.{resting}
use Rattle.laws.specs.Facts.{arrived, timed_by, clock, working_time, time_by, away_price}
use Rattle.laws.specs.Histories.{Call, Told, tell, left_by}
use Rattle.laws.specs.Histories.Call.{resizes, cancels, updates}
use Rattle.laws.specs.Histories.Told.{turned_down, carried_out}
use Rattle.laws.specs.Standing.{Known}
use Rattle.laws.proofs.AfterTrade.{Steady, known_steady, known_resized, comes_as, known_as, knows_with, beside, timed_later}
use Rattle.laws.proofs.Booked.{size_with, out_with, side_fresh, resting_with}
use Rattle.laws.proofs.ById.{found_having, removed_having, others_differ}
use Rattle.laws.proofs.Lists.{all_both}
use Rattle.laws.proofs.Tied.{Comes, Balances, Untold, Tied, holds_resting, apart_sides}

-- the records and the book after a call
abbrev pub Next : Opening → List Told → Model → Call → Outcome → Type 0
Next c rs m k out = Tied c (tell k out ∷ rs) (left_by out m)

-- checks in front of a refusal come to a refusal, so what holds of every refusal holds of them
pub refused_by : (P : Outcome → Type 0) → ((why : Refusal) → P (refused why)) → (cs : List Check) (why : Refusal) → P (checked cs (refused why))
refused_by P each cs why = checked_by P each cs (refused why) (λ _. each why)

all_steady : (s : Side) (r : Told) (rs : List Told) (es : List Entry) → ((i : ℕ) → Steady r rs i) → AllByRecursion (Known s rs) es → AllByRecursion (Known s (r ∷ rs)) es
all_steady s r rs es steady known = All-weaker (Known s rs) (Known s (r ∷ rs)) (λ e k. known_steady s r rs e (steady e.id) k) es known

rows_steady : (tick : ℕ) (r : Told) (rs : List Told) (xs : List Routed) → ((i : ℕ) → arrived i (r ∷ rs) ≡ arrived i rs) → AllByRecursion (Comes tick rs) xs → AllByRecursion (Comes tick (r ∷ rs)) xs
rows_steady tick r rs xs same rows = All-weaker (Comes tick rs) (Comes tick (r ∷ rs)) (λ x k. comes_as tick rs (r ∷ rs) x.size x (same x.id) k) xs rows

pub tied_refused : (c : Opening) (rs : List Told) (m : Model) → Tied c rs m → (k : Call) (why : Refusal) → Next c rs m k (refused why)
tied_refused c rs m tied k why =
    let r = turned_down k why in
    record {
      sound = tied.sound;
      opened = tied.opened;
      balances = tied.balances;
      sent = tied.sent;
      clock = omega (arith, tied.clock);
      known = λ s. all_steady s r rs (entries s m) (λ i. record { came = refl; price = refl; time = refl }) (tied.known s);
      rows = rows_steady c.tick r rs m.out (λ i. refl) tied.rows;
      away = tied.away;
      fresh = tied.fresh;
    }

module _ (c : Opening) (rs : List Told) (m : Model) (tied : Tied c rs m) (p : Option ℕ) where
  abbrev update : Side → Told
  update t = carried_out (updates (record { side = t; price = p })) 0 []

  market_known : (t s : Side) → AllByRecursion (Known s (update t ∷ rs)) (entries s m)
  market_known t s = all_steady s (update t) rs (entries s m) (λ i. record { came = refl; price = refl; time = refl }) (tied.known s)

  market_entries : (t s : Side) → entries s m ≡ entries s (with_away t p m)
  market_entries Buy Buy = refl
  market_entries Buy Sell = refl
  market_entries Sell Buy = refl
  market_entries Sell Sell = refl

  market_away : (t s : Side) → away_price s (update t ∷ rs) ≡ away s (with_away t p m)
  market_away Buy Buy = refl
  market_away Buy Sell = tied.away Sell
  market_away Sell Buy = tied.away Buy
  market_away Sell Sell = refl

  market_set : (t : Side) → Sound (with_away t p m) → Tied c (update t ∷ rs) (with_away t p m)
  market_set Buy sound = record { sound = sound; opened = tied.opened; balances = tied.balances; sent = tied.sent; clock = omega (arith, tied.clock); known = λ s. subst (AllByRecursion (Known s (update Buy ∷ rs))) (market_entries Buy s) (market_known Buy s); rows = rows_steady c.tick (update Buy) rs m.out (λ i. refl) tied.rows; away = market_away Buy; fresh = tied.fresh }
  market_set Sell sound = record { sound = sound; opened = tied.opened; balances = tied.balances; sent = tied.sent; clock = omega (arith, tied.clock); known = λ s. subst (AllByRecursion (Known s (update Sell ∷ rs))) (market_entries Sell s) (market_known Sell s); rows = rows_steady c.tick (update Sell) rs m.out (λ i. refl) tied.rows; away = market_away Sell; fresh = tied.fresh }

pub tied_market : (c : Opening) (rs : List Told) (m : Model) → Tied c rs m → (u : Updating) → Next c rs m (updates u) (market_of u m)
unfolding market_of
tied_market c rs m tied u =
    checked_by (λ out. Keeps out → Next c rs m (updates u) out) (λ why _. tied_refused c rs m tied (updates u) why)
    (market_checks u m) (done (record { answer = 0; lines = []; after = with_away u.side u.price m; ticket = None }))
    (λ _ sound. market_set c rs m tied u.price u.side sound) (kept.market u m tied.sound)

-- where one side has other entries and the call tells nothing new but of an account
module _ (c : Opening) (rs : List Told) (m : Model) (tied : Tied c rs m) (s : Side) (es : List Entry) where
  abbrev other : Model
  other = with_entries s es m

  same_out : other.out ≡ m.out
  same_out = (beside s es m).0

  same_time : other.counters.last_time ≡ m.counters.last_time
  same_time = ap (λ x. x.last_time) (beside s es m).1

  same_id : other.counters.last_id ≡ m.counters.last_id
  same_id = ap (λ x. x.last_id) (beside s es m).1

  opened_still : other.opening ≡ c
  opened_still = (beside s es m).2 ∙ tied.opened

  away_still : (t : Side) → away_price t rs ≡ away t other
  away_still t = tied.away t ∙ sym ((beside s es m).3 t)

  rows_still : (r : Told) → ((i : ℕ) → arrived i (r ∷ rs) ≡ arrived i rs) → AllByRecursion (Comes c.tick (r ∷ rs)) other.out
  rows_still r same = rows_steady c.tick r rs other.out same (subst (AllByRecursion (Comes c.tick rs)) (sym same_out) tied.rows)

  sent_still : (i : ℕ) → (account i rs).out ≡ out_with i other.out
  sent_still i = tied.sent i ∙ ap (out_with i) (sym same_out)

-- what the one entry with an id holds is all that is held under it
found_under : (j : ℕ) (es : List Entry) (e : Entry) → entry_with j es ≡ Some e → count (λ x. eqb x.id j) es ≤ 1 → (i : ℕ) → cond (eqb j i) e.size 0 ≡ cond (eqb j i) (holding i es) 0
found_under j es e found once i =
    let all : j ≡ i → holding i es ≡ e.size = λ same. ap (λ k. holding k es) (sym same) ∙ found_having (λ (x : Entry). x.id) size_of j es e found once in
    grind (arith, nat_tests, all)

-- a cancel: the entry goes
module _ (c : Opening) (rs : List Told) (m : Model) (tied : Tied c rs m) (u : Cancelling) (s : Side) (e : Entry) (found : entry_with u.id (entries s m) ≡ Some e) where
  abbrev less : List Entry
  less = without_entry u.id (entries s m)

  tied_cancelled : Sound (with_entries s less m) → Tied c (carried_out (cancels u) e.size [] ∷ rs) (with_entries s less m)
  tied_cancelled sound =
      let r = carried_out (cancels u) e.size [] in
      record {
        sound = sound;
        opened = opened_still c rs m tied s less;
        balances = λ i. omega (arith, tied.balances i, resting_with s less m i, removed_having (λ (x : Entry). x.id) size_of i u.id (entries s m), found_under u.id (entries s m) e found (side_once s m tied.sound u.id) i);
        sent = sent_still c rs m tied s less;
        clock = omega (arith, tied.clock, same_time c rs m tied s less);
        known = knows_with (λ t. Known t (r ∷ rs)) s less m
            (all_kept_by (λ x. not (eqb x.id u.id)) (Known s (r ∷ rs)) (entries s m) (known_all s)) known_all;
        rows = rows_still c rs m tied s less r (λ i. refl);
        away = away_still c rs m tied s less;
        fresh = λ i above. tied.fresh i (omega (arith, same_id c rs m tied s less));
      }
    where
      known_all : (t : Side) → AllByRecursion (Known t (carried_out (cancels u) e.size [] ∷ rs)) (entries t m)
      known_all t = all_steady t (carried_out (cancels u) e.size []) rs (entries t m) (λ i. record { came = refl; price = refl; time = refl }) (tied.known t)

pub tied_cancel : (c : Opening) (rs : List Told) (m : Model) → Tied c rs m → (u : Cancelling) → Next c rs m (cancels u) (cancel_of u m)
unfolding cancel_of
tied_cancel c rs m tied u =
    let down = tied_refused c rs m tied (cancels u) in
    standing_cases (λ x. Keeps (cancel_at u m x) → Next c rs m (cancels u) (cancel_at u m x)) u.id m
    (λ s e found. checked_by (λ out. Keeps out → Next c rs m (cancels u) out) (λ why _. down why) (cancel_checks u e.firm) (done (record { answer = e.size; lines = []; after = with_entries s (without_entry u.id (entries s m)) m; ticket = None })) (λ _ sound. tied_cancelled c rs m tied u s e found sound))
    (λ x _. refused_by (Next c rs m (cancels u)) down (cancel_checks u x.firm) OutOnRoute)
    (λ _. refused_by (Next c rs m (cancels u)) down ((eqb u.firm 0, FirmZero) ∷ []) NeitherRestingNorOut)
    (kept.cancel u m tied.sound)

-- a smaller or an equal size of the one entry with its id
reduced_having : (i j n : ℕ) (es : List Entry) (e : Entry) → entry_with j es ≡ Some e → count (λ x. eqb x.id j) es ≤ 1 → holding i (reduced_in j n es) + cond (eqb j i) e.size 0 ≡ holding i es + cond (eqb j i) n 0
reduced_having i j n [] e found once = absurd (false≢true (ap is_some found))
reduced_having i j n (x ∷ es) e found once =
    ⊎_elim
    (λ here. let one = ap one_if here.0 in let size = ap (λ (y : Entry). y.size) here.1 in grind (arith, nat_tests, here.0, size, ap (holding i) (reduced_none j n es (omega arith))))
    (λ else. let none = ap one_if else.0 in grind (arith, nat_tests, else.0, reduced_having i j n es e else.1 (omega arith)))
    (found_head (λ (y : Entry). y.id) j x es e found)

module _ (c : Opening) (rs : List Told) (m : Model) (tied : Tied c rs m) (u : Resizing) (s : Side) (e : Entry) (found : entry_with u.id (entries s m) ≡ Some e) where
  abbrev resize_told : Told
  resize_told = carried_out (resizes u) u.size []

  there : 1 ≤ count (λ x. eqb x.id u.id) (entries s m)
  there = found_counts (λ (x : Entry). x.id) u.id (entries s m) e found

  rested_size : resting u.id m ≡ e.size
  rested_size = apart_sides s m tied.sound u.id there ∙ found_having (λ (x : Entry). x.id) size_of u.id (entries s m) e found (side_once s m tied.sound u.id)

  held_size : holds (account u.id rs) ≡ e.size
  held_size = holds_resting c rs m tied u.id ∙ rested_size

  low_id : u.id ≤ m.counters.last_id
  low_id = omega (arith, found_id (λ (x : Entry). x.id) u.id (entries s m) e found, (found_all (λ (x : Entry). x.id) u.id (GoodEntry m.opening.tick m.counters) (entries s m) e found (good_side s m tied.sound).good).id)

  -- the accounts, where the order rests with the new size and all others as they did
  resized_balances : (after : Model) → ((i : ℕ) → resting i after + cond (eqb u.id i) e.size 0 ≡ resting i m + cond (eqb u.id i) u.size 0) → (i : ℕ) → Balances (account i (resize_told ∷ rs)) (resting i after)
  resized_balances after moved i =
      let held : u.id ≡ i → holds (account i rs) ≡ e.size = λ j. ap (λ k. holds (account k rs)) (sym j) ∙ held_size in
      let rest : u.id ≡ i → resting i m ≡ e.size = λ j. ap (λ k. resting k m) (sym j) ∙ rested_size in
      grind (arith, nat_tests, tied.balances i, moved i, held, rest)

  resized_fresh : (i : ℕ) → m.counters.last_id < i → Untold (resize_told ∷ rs) i
  resized_fresh i above =
      let f = tied.fresh i above in
      let differ = ne_eqb u.id i (λ same. omega (arith, low_id)) in
      (f.0, f.1, omega (arith, f.2, ap (λ b. cond b (u.size - holds (account i rs)) 0) differ))

  -- not larger: the entry keeps its time
  module _ (not_larger : ltb e.size u.size ≡ false) where
    untimed : timed_by resize_told rs ≡ None
    untimed = cond-false (ltb (holds (account u.id rs)) u.size) (Some u.id) None (ap (λ n. ltb n u.size) held_size ∙ not_larger)

    steady_all : (i : ℕ) → Steady resize_told rs i
    steady_all i = record { came = refl; price = refl; time = ap (λ x. time_by i x (clock (resize_told ∷ rs)) (working_time i rs)) untimed }

    abbrev fewer : List Entry
    fewer = reduced_in u.id u.size (entries s m)

    known_reduced : AllByRecursion (Known s (resize_told ∷ rs)) fewer
    known_reduced = All-map (Known s (resize_told ∷ rs)) (λ x. cond (eqb x.id u.id) (resized u.size x) x) (entries s m)
        (All-weaker (Known s (resize_told ∷ rs)) (λ x. Known s (resize_told ∷ rs) (cond (eqb x.id u.id) (resized u.size x) x))
        (λ x k. cond_both (eqb x.id u.id) _ _ (Known s (resize_told ∷ rs)) (λ _. known_resized s (resize_told ∷ rs) u.size x k) (λ _. k))
        (entries s m) (all_steady s resize_told rs (entries s m) steady_all (tied.known s)))

    tied_reduced : Sound (with_entries s fewer m) → Tied c (resize_told ∷ rs) (with_entries s fewer m)
    tied_reduced sound = record {
      sound = sound;
      opened = opened_still c rs m tied s fewer;
      balances = resized_balances (with_entries s fewer m) (λ i. omega (arith, resting_with s fewer m i, reduced_having i u.id u.size (entries s m) e found (side_once s m tied.sound u.id)));
      sent = sent_still c rs m tied s fewer;
      clock = ap (λ x. clock rs + one_if (is_some x)) untimed ∙ omega (arith, tied.clock, same_time c rs m tied s fewer);
      known = knows_with (λ t. Known t (resize_told ∷ rs)) s fewer m known_reduced (λ t. all_steady t resize_told rs (entries t m) steady_all (tied.known t));
      rows = rows_still c rs m tied s fewer resize_told (λ i. refl);
      away = away_still c rs m tied s fewer;
      fresh = λ i above. resized_fresh i (omega (arith, same_id c rs m tied s fewer));
    }

  -- larger: it has a new time
  module _ (larger : ltb e.size u.size ≡ true) where
    timed : timed_by resize_told rs ≡ Some u.id
    timed = cond-true (ltb (holds (account u.id rs)) u.size) (Some u.id) None (ap (λ n. ltb n u.size) held_size ∙ larger)

    steady_else : (i : ℕ) → eqb u.id i ≡ false → Steady resize_told rs i
    steady_else i differ = record { came = refl; price = refl; time = ap (λ x. time_by i x (clock (resize_told ∷ rs)) (working_time i rs)) timed ∙ cond-false (eqb u.id i) (clock (resize_told ∷ rs)) (working_time i rs) differ }

    abbrev rest : List Entry
    rest = without_entry u.id (entries s m)

    abbrev thin : Model
    thin = with_entries s rest m

    abbrev new_entry : Entry
    new_entry = enlarged u.size (m.counters.last_time + 1) e

    abbrev more : List Entry
    more = ranked_in s new_entry rest

    gone : standing_with u.id thin ≡ 0
    gone = omega (arith, counts s rest m u.id, others_none (λ (x : Entry). x.id) u.id (entries s m), there, tied.sound.unique u.id)

    known_thin : (t : Side) → AllByRecursion (Known t (resize_told ∷ rs)) (entries t thin)
    known_thin t =
        all_both (λ x. eqb u.id x.id ≡ false) (Known t rs) (Known t (resize_told ∷ rs)) (λ f differ k. known_steady t resize_told rs f (steady_else f.id differ) k) (entries t thin)
        (others_differ (λ (x : Entry). x.id) u.id (entries t thin) (side_fresh t u.id thin gone))
        (knows_with (λ t'. Known t' rs) s rest m (all_kept_by (λ x. not (eqb x.id u.id)) (Known s rs) (entries s m) (tied.known s)) tied.known t)

    known_new : Known s (resize_told ∷ rs) new_entry
    known_new =
        let same = found_id (λ (x : Entry). x.id) u.id (entries s m) e found in
        known_as s rs (resize_told ∷ rs) u.size (m.counters.last_time + 1) e refl refl
        (ap (λ x. time_by e.id x (clock (resize_told ∷ rs)) (working_time e.id rs)) timed ∙ cond-true (eqb u.id e.id) (clock (resize_told ∷ rs)) (working_time e.id rs) (eq-eqb u.id e.id (sym same))
        ∙ ap (λ x. clock rs + one_if (is_some x)) timed ∙ ap (λ n. n + 1) tied.clock)
        (found_all (λ (x : Entry). x.id) u.id (Known s rs) (entries s m) e found (tied.known s))

    known_more : (t : Side) → AllByRecursion (Known t (resize_told ∷ rs)) (entries t (with_entries s more m))
    known_more t = subst (λ x. AllByRecursion (Known t (resize_told ∷ rs)) (entries t x)) (with_again s rest more m)
        (knows_with (λ t'. Known t' (resize_told ∷ rs)) s more thin
        (all_inserted_into (ahead rank_before (λ _. rank_of) s) (Known s (resize_told ∷ rs)) new_entry rest known_new (subst (AllByRecursion (Known s (resize_told ∷ rs))) (entries_with s rest m) (known_thin s))) known_thin t)

    moved : (i : ℕ) → resting i (with_entries s more m) + cond (eqb u.id i) e.size 0 ≡ resting i m + cond (eqb u.id i) u.size 0
    moved i =
        let same = found_id (λ (x : Entry). x.id) u.id (entries s m) e found in
        let put = total_inserted (ahead rank_before (λ _. rank_of) s) (size_with i) new_entry rest in
        let head : size_with i new_entry ≡ cond (eqb u.id i) u.size 0 = ap (λ k. cond (eqb k i) u.size 0) same in
        let took = removed_having (λ (x : Entry). x.id) size_of i u.id (entries s m) in
        omega (arith, resting_with s more m i, put, head, took, mine_held i)
      where
        mine_held : (i : ℕ) → cond (eqb u.id i) e.size 0 ≡ cond (eqb u.id i) (holding i (entries s m)) 0
        mine_held = found_under u.id (entries s m) e found (side_once s m tied.sound u.id)

    tied_enlarged : Sound (with_last_time (m.counters.last_time + 1) (with_entries s more m)) → Tied c (resize_told ∷ rs) (with_last_time (m.counters.last_time + 1) (with_entries s more m))
    tied_enlarged sound = record {
      sound = sound;
      opened = opened_still c rs m tied s more;
      balances = resized_balances (with_last_time (m.counters.last_time + 1) (with_entries s more m)) moved;
      sent = sent_still c rs m tied s more;
      clock = ap (λ x. clock rs + one_if (is_some x)) timed ∙ ap (λ n. n + 1) tied.clock;
      known = λ t. subst (AllByRecursion (Known t (resize_told ∷ rs))) (sym (timed_later (m.counters.last_time + 1) (with_entries s more m) t).0) (known_more t);
      rows = rows_still c rs m tied s more resize_told (λ i. refl);
      away = λ t. away_still c rs m tied s more t ∙ sym (timed_later (m.counters.last_time + 1) (with_entries s more m) t).1;
      fresh = λ i above. resized_fresh i (omega (arith, same_id c rs m tied s more));
    }

pub tied_resize : (c : Opening) (rs : List Told) (m : Model) → Tied c rs m → (u : Resizing) → Next c rs m (resizes u) (resize_of u m)
unfolding resize_of
tied_resize c rs m tied u =
    let down = tied_refused c rs m tied (resizes u) in
    standing_cases (λ x. Keeps (resize_at u m x) → Next c rs m (resizes u) (resize_at u m x)) u.id m
    (λ s e found.
    checked_by (λ out. Keeps out → Next c rs m (resizes u) out) (λ why _. down why) (resting_checks u m e) (done (record { answer = u.size; lines = []; after = after_resize u s e m; ticket = None }))
    (λ _. cond_both (ltb e.size u.size) _ _ (λ x. Sound x → Tied c (carried_out (resizes u) u.size [] ∷ rs) x)
    (λ larger sound. tied_enlarged c rs m tied u s e found larger sound)
    (λ not_larger sound. tied_reduced c rs m tied u s e found not_larger sound)))
    (λ x _. refused_by (Next c rs m (resizes u)) down (resize_checks u ((not (eqb x.firm u.firm), AnotherFirms) ∷ [])) OutOnRoute)
    (λ _. refused_by (Next c rs m (resizes u)) down (resize_checks u []) NeitherRestingNorOut)
    (kept.resize u m tied.sound)
