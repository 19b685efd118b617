-- The tape of an order that trades, booked to every account. Assumes nothing.
use Rattle.std.proofs.Common.{◌≡◌, ℕ, ◌+◌, ◌<◌, ◌≤◌, Bool, true, false, cond, ◌&&◌, eqb, leb, List, [], ◌∷◌, length, Option, sym, refl, ap, ◌∙◌, subst, ⊎_elim, arith}
use Rattle.std.specs.List.{AllByRecursion}
use Rattle.std.proofs.lemmas.Bool.Decides.{nat_tests}
use Rattle.std.proofs.lemmas.Bool.{cases_Bool, cond_both, eqb-true}
use Rattle.ranked.specs.Ranked.{ahead}
use Rattle.sharing.specs.Sharing.{Sharing, Lawful}
use Rattle.sharing.specs.Totals.{one_if, total, count}
use Rattle.sharing.specs.Allotted.{total_append}
use Rattle.sharing.specs.Ordered.{total_inserted}
use Rattle.rules.specs.declared.tape.Line.{Line}
use Rattle.rules.specs.declared.tape.Line.TheVariants.{Fill, Cancel, Filled, Rest, Route}
use Rattle.rules.specs.declared.terms.Entry.{Entry}
use Rattle.rules.specs.declared.terms.Routed.{Routed}
use Rattle.rules.specs.declared.terms.Side.{Side}
use Rattle.rules.specs.declared.terms.Side.TheVariants.{Buy, Sell}
use Rattle.rules.specs.Caps.{is_ioc}
use Rattle.rules.specs.Laws.{traded_in, taken_from, holding, names}
use Rattle.rules.specs.Level.{Deal}
use Rattle.rules.specs.Model.{Model, entries, away, places, with_entries, national_best, ranked_in}
use Rattle.rules.specs.Outcome.{Done}
use Rattle.rules.specs.Ranks.{rank_of, rank_before}
use Rattle.rules.specs.Sides.{other_side}
use Rattle.rules.specs.Sound.{standing_with, Sound}
use Rattle.rules.specs.Trade.{away_in_cap, Ending, ending, end_line, sized, resting_entry, ended, traded, finished, trade}
use Rattle.rules.specs.Trade.Ending.{is_filled, is_routed, is_cancelled, rests}
use Rattle.rules.specs.Walk.{runs, flat, walk}
use Rattle.rules.proofs.AllPrices.{all_prices}
use Rattle.rules.proofs.CallsKeep.{same_book}
use Rattle.rules.proofs.Leaves.{runs_are_whole}
use Rattle.rules.proofs.Runs.{always_tradable}
use Rattle.laws.specs.Accounts.{got, traded_by, lost_by, sent_by}
use Rattle.laws.specs.Balanced.{resting}
use Rattle.laws.specs.Facts.{Rested, rest_or}
use Rattle.laws.proofs.ById.{none_held}
use Rattle.laws.proofs.Lines.{walk_all}
use Rattle.laws.proofs.Lists.{every, total_each}

-- in its own tape an order traded each fill
own_line : (i own : ℕ) → eqb own i ≡ true → (l : Line) → traded_by i own l ≡ traded_in l
own_line i own mine (Fill id firm size price step) = grind (arith, nat_tests, mine)
own_line i own mine (Cancel id firm size cause) = refl
own_line i own mine (Filled id firm) = refl
own_line i own mine (Rest id firm size price) = refl
own_line i own mine (Route id firm size) = refl

-- in another's, those that name it
pub other_line : (i own : ℕ) → eqb own i ≡ false → (l : Line) → traded_by i own l ≡ got i l
other_line i own else (Fill id firm size price step) = grind (arith, nat_tests, else)
other_line i own else (Cancel id firm size cause) = refl
other_line i own else (Filled id firm) = refl
other_line i own else (Rest id firm size price) = refl
other_line i own else (Route id firm size) = refl

taken_line : (i : ℕ) (l : Line) → got i l + lost_by i l ≡ taken_from i l
taken_line i (Fill id firm size price step) = omega arith
taken_line i (Cancel id firm size cause) = omega arith
taken_line i (Filled id firm) = refl
taken_line i (Rest id firm size price) = refl
taken_line i (Route id firm size) = refl

-- a line that does not name an order takes nothing from it
unnamed_line : (i : ℕ) (l : Line) → one_if (names i l) ≡ 0 → taken_from i l ≡ 0
unnamed_line i (Fill id firm size price step) none = grind (arith, nat_tests)
unnamed_line i (Cancel id firm size cause) none = grind (arith, nat_tests)
unnamed_line i (Filled id firm) none = refl
unnamed_line i (Rest id firm size price) none = refl
unnamed_line i (Route id firm size) none = refl

pub own_lines : (i own : ℕ) → eqb own i ≡ true → (ls : List Line) → total (traded_by i own) ls ≡ total traded_in ls
own_lines i own mine = total_each (traded_by i own) traded_in (own_line i own mine)

pub other_lines : (i own : ℕ) → eqb own i ≡ false → (ls : List Line) → total (traded_by i own) ls ≡ total (got i) ls
other_lines i own else = total_each (traded_by i own) (got i) (other_line i own else)

taken_lines : (i : ℕ) (ls : List Line) → total (got i) ls + total (lost_by i) ls ≡ total (taken_from i) ls
taken_lines i [] = refl
taken_lines i (l ∷ ls) = omega (arith, taken_line i l, taken_lines i ls)

unnamed_lines : (i : ℕ) (ls : List Line) → count (names i) ls ≡ 0 → total (taken_from i) ls ≡ 0
unnamed_lines i [] none = refl
unnamed_lines i (l ∷ ls) none = omega (arith, unnamed_line i l (omega arith), unnamed_lines i ls (omega arith))

-- an entry's contracts, and an order's that is out
abbrev pub size_with : ℕ → Entry → ℕ
size_with i e = cond (eqb e.id i) e.size 0

abbrev pub out_with : ℕ → List Routed → ℕ
out_with i rs = total (λ r. cond (eqb r.id i) r.size 0) rs

-- what a walk took, booked to an account
module _ (o : Routed) (i : ℕ) (d : Deal) (es : List Entry) (pays : d.balance + total traded_in d.lines ≡ o.size)
    (accounts : holding i d.run + total (taken_from i) d.lines ≡ holding i es)
    (once : count (names i) d.lines ≤ count (λ e. eqb e.id i) es) (fresh : count (λ e. eqb e.id o.id) es ≡ 0) where
  pub walk_booked : (holding i d.run + total (traded_by i o.id) d.lines) + total (lost_by i) d.lines + cond (eqb o.id i) d.balance 0 ≡ holding i es + cond (eqb o.id i) o.size 0
  walk_booked =
      ⊎_elim
      (λ mine.
      let same : count (λ e. eqb e.id i) es ≡ 0 = ap (λ j. count (λ e. eqb e.id j) es) (sym (eqb-true o.id i mine)) ∙ fresh in
      let unnamed = unnamed_lines i d.lines (omega arith) in
      omega (arith, own_lines i o.id mine d.lines, taken_lines i d.lines, none_held i es same, ap (λ b. cond b d.balance 0) mine, ap (λ b. cond b o.size 0) mine))
      (λ else. omega (arith, other_lines i o.id else d.lines, taken_lines i d.lines, ap (λ b. cond b d.balance 0) else, ap (λ b. cond b o.size 0) else))
      (cases_Bool (eqb o.id i))

-- the end of an order, booked to an account
pub resting_with : (s : Side) (es : List Entry) (m : Model) (i : ℕ) → resting i (with_entries s es m) + holding i (entries s m) ≡ resting i m + holding i es
resting_with Buy es m i = omega arith
resting_with Sell es m i = omega arith

-- an order is told filled where nothing is left of it
abbrev Closes : ℕ → Ending → Type 0
Closes b is_filled = b ≡ 0
Closes b is_routed = Unit {0}
Closes b (is_cancelled why) = Unit {0}
Closes b rests = Unit {0}

ending_closes : (o : Routed) (may : Bool) (b : ℕ) (m : Model) → Closes b (ending o may b m)
unfolding ending
ending_closes o may b m =
    let near = away_in_cap o.side o.cap (away (other_side o.side) m) in
    cond_both (eqb b 0) _ _ (Closes b) (λ none. eqb-true b 0 none)
    (λ _. cond_both (near && may) _ _ (Closes b) (λ _. tt)
    (λ _. cond_both (is_ioc o.term) _ _ (Closes b) (λ _. tt)
    (λ _. cond_both near _ _ (Closes b) (λ _. tt)
    (λ _. cond_both (leb (places o.side m) (length (entries o.side m))) _ _ (Closes b) (λ _. tt) (λ _. tt)))))

end_booked : (o : Routed) (b : ℕ) (e : Ending) (m : Model) (i : ℕ) → Closes b e → ((resting i (ended o b e m) + traded_by i o.id (end_line o b e)) + lost_by i (end_line o b e)) + sent_by i (end_line o b e) ≡ resting i m + cond (eqb o.id i) b 0
end_booked o b is_filled m i none = grind (arith, nat_tests, none)
end_booked o b is_routed m i closes = omega arith
end_booked o b (is_cancelled why) m i closes = omega arith
end_booked o b rests m i closes =
    let e = resting_entry o b (m.counters.last_time + 1) in
    omega (arith, resting_with o.side (ranked_in o.side e (entries o.side m)) m i, total_inserted (ahead rank_before (λ _. rank_of) o.side) (size_with i) e (entries o.side m))

end_sent : (o : Routed) (b : ℕ) (e : Ending) (m : Model) (i : ℕ) → out_with i (ended o b e m).out ≡ out_with i m.out + sent_by i (end_line o b e)
end_sent o b is_filled m i = omega arith
end_sent o b is_routed m i = total_append (λ r. cond (eqb r.id i) r.size 0) m.out (sized b o ∷ []) ∙ omega arith
end_sent o b (is_cancelled why) m i = omega arith
end_sent o b rests m i = unmoved o.side
  where
    unmoved : (s : Side) → out_with i (with_entries s (ranked_in s (resting_entry o b (m.counters.last_time + 1)) (entries s m)) m).out ≡ out_with i m.out + 0
    unmoved Buy = omega arith
    unmoved Sell = omega arith

-- lines of a walk: none is a rest or a route
abbrev pub Plain : Line → Type 0
Plain l = ((i : ℕ) → sent_by i l ≡ 0) × ((r : Option Rested) → rest_or l r ≡ r)

none_sent : (i : ℕ) (ls : List Line) → AllByRecursion Plain ls → total (sent_by i) ls ≡ 0
none_sent i [] plain = refl
none_sent i (l ∷ ls) plain = omega (arith, plain.0.0 i, none_sent i ls plain.1)

-- what an order did on the other side of a sound book
pub record Walked (o : Routed) (es : List Entry) (d : Deal) : Type 0 where
  pub pays : d.balance + total traded_in d.lines ≡ o.size
  pub accounts : (i : ℕ) → holding i d.run + total (taken_from i) d.lines ≡ holding i es
  pub once : (i : ℕ) → count (names i) d.lines ≤ count (λ e. eqb e.id i) es
  pub plain : AllByRecursion Plain d.lines

pub traded_walked : (rule : Sharing) → Lawful rule → (o : Routed) (m : Model) → Sound m → o.size < 100000 → Walked o (entries (other_side o.side) m) (traded rule o m)
unfolding traded
traded_walked rule lawful o m sound small =
    let contra = other_side o.side in
    let es = entries contra m in
    let c = all_prices rule lawful o (national_best contra m) (away contra m) o.size (runs es) (always_tradable m sound contra o.size small) in
    let plain = walk_all (λ _. Unit {0}) (λ n e h. tt) Plain (λ e n k h. (λ i. refl, λ r. refl)) (λ e h. (λ i. refl, λ r. refl)) rule o (national_best contra m) (away contra m) o.size (runs es) (every (λ _. Unit {0}) (λ _. tt) (flat (runs es))) in
    record {
      pays = c.pays;
      accounts = λ i. c.accounts i ∙ ap (holding i) (runs_are_whole es);
      once = λ i. subst (λ l. count (names i) (walk rule o (national_best contra m) (away contra m) o.size (runs es)).lines ≤ count (λ e. eqb e.id i) l) (runs_are_whole es) (c.once i);
      plain = plain;
    }

-- an id that stands nowhere stands on neither side
pub side_fresh : (s : Side) (i : ℕ) (m : Model) → standing_with i m ≡ 0 → count (λ e. eqb e.id i) (entries s m) ≡ 0
side_fresh Buy i m fresh = omega arith
side_fresh Sell i m fresh = omega arith

pub record TradeBooked (o : Routed) (m : Model) (d : Done) (i : ℕ) : Type 0 where
  -- what stood, and what the order brought, stands, traded, was cancelled or went out
  pub whole : ((resting i d.after + total (traded_by i o.id) d.lines) + total (lost_by i) d.lines) + total (sent_by i) d.lines ≡ resting i m + cond (eqb o.id i) o.size 0
  pub sent : out_with i d.after.out ≡ out_with i m.out + total (sent_by i) d.lines

pub trade_booked : (rule : Sharing) → Lawful rule → (o : Routed) (may : Bool) (m : Model) → Sound m → standing_with o.id m ≡ 0 → o.size < 100000 → (i : ℕ) → TradeBooked o m (trade rule o may m) i
unfolding trade finished
trade_booked rule lawful o may m sound fresh small i =
    let contra = other_side o.side in
    let d = traded rule o m in
    let w = traded_walked rule lawful o m sound small in
    let m2 = with_entries contra d.run m in
    let e = ending o may d.balance m2 in
    let end = end_line o d.balance e in
    let walked = walk_booked o i d (entries contra m) w.pays (w.accounts i) (w.once i) (side_fresh contra o.id m fresh) in
    let closed = end_booked o d.balance e m2 i (ending_closes o may d.balance m2) in
    let out = end_sent o d.balance e m2 i in
    let none = none_sent i d.lines w.plain in
    let here = total_append (traded_by i o.id) d.lines (end ∷ []) in
    let lost = total_append (lost_by i) d.lines (end ∷ []) in
    let gone = total_append (sent_by i) d.lines (end ∷ []) in
    let rows = ap (out_with i) (same_book o.side d.run m).2 in
    record {
      whole = omega (arith, walked, closed, none, here, lost, gone, resting_with contra d.run m i);
      sent = omega (arith, out, none, gone, rows);
    }
