-- What the orders of the two sides traded here adds up to the same. Assumes nothing.
use Rattle.std.proofs.Common.{◌≡◌, ℕ, ◌+◌, ◌-◌, ◌<◌, Bool, false, cond, ◌&&◌, ◌||◌, eqb, List, [], ◌∷◌, Some, None, Option, sym, refl, ap, ◌∙◌, subst, ⊎_elim, arith}
use Rattle.std.specs.List.{AllByRecursion}
use Rattle.std.proofs.ByRecursion.{All-append}
use Rattle.std.proofs.lemmas.Bool.Decides.{nat_tests}
use Rattle.std.proofs.lemmas.Bool.{cases_Bool, cond-true, cond-false, eqb-true, eq-eqb, ltb-false}
use Rattle.sharing.specs.Totals.{one_if, total, count}
use Rattle.sharing.specs.Sharing.{Sharing}
use Rattle.rules.specs.declared.numbers.Refusal.{Refusal}
use Rattle.rules.specs.declared.tape.Line.{Line}
use Rattle.rules.specs.declared.tape.Line.TheVariants.{Fill, Cancel, Filled, Rest, Route}
use Rattle.rules.specs.declared.terms.Entry.{Entry}
use Rattle.rules.specs.declared.terms.Order.{Order}
use Rattle.rules.specs.declared.terms.Routed.{Routed}
use Rattle.rules.specs.declared.terms.Side.{Side}
use Rattle.rules.specs.declared.terms.Side.TheVariants.{Buy, Sell}
use Rattle.rules.specs.Laws.{traded_in}
use Rattle.rules.specs.Calls.{Entering, capped, missed, entry_of, Returning, without_row, return_of, resize_of, cancel_of, market_of}
use Rattle.rules.specs.Model.{Model, Opening, entries, away, with_entries, with_out, with_last_id, national_best}
use Rattle.rules.specs.Outcome.{Done, Outcome}
use Rattle.rules.specs.Outcome.Outcome.{refused, done}
use Rattle.rules.specs.Sound.{standing_with}
use Rattle.rules.specs.Sides.{other_side}
use Rattle.rules.specs.Trade.{Ending, ending, end_line, sized, traded, finished, trade}
use Rattle.rules.specs.Trade.Ending.{is_filled, is_routed, is_cancelled, rests}
use Rattle.rules.specs.Walk.{runs}
use Rattle.rules.proofs.CallsKeep.{entry_by, return_by, EntryFits, entry_fits}
use Rattle.rules.proofs.Leaves.{runs_are_whole}
use Rattle.laws.specs.Accounts.{traded_by, account}
use Rattle.laws.specs.Balanced.{traded_on}
use Rattle.laws.specs.Facts.{Arrived, arrived, orders, same_side}
use Rattle.laws.specs.Histories.{LawfulRule, Call, Told, outcome, tell}
use Rattle.laws.specs.Histories.Call.{enters, returns, resizes, cancels, updates}
use Rattle.laws.specs.Histories.Told.{turned_down, carried_out}
use Rattle.laws.specs.Standing.{Known}
use Rattle.laws.proofs.AfterTrade.{known_resized}
use Rattle.laws.proofs.Booked.{side_fresh}
use Rattle.laws.proofs.ById.{others_differ}
use Rattle.laws.proofs.Lines.{walk_all}
use Rattle.laws.proofs.Lists.{all_and, total_none, total_each, cond_none}
use Rattle.laws.proofs.Tied.{Comes, Tied}
use Rattle.laws.proofs.Trading.{entry_trade_told, entry_fresh, known_counted, row_id, row_comes, return_fresh, known_given}

-- an accepted order is of one side
abbrev came_on : Side → Option Arrived → ℕ
came_on s None = 0
came_on s (Some a) = one_if (same_side a.order.side s)

abbrev is_order : ℕ → Side → Order → Bool
is_order i s o = eqb i o.id && same_side o.side s

-- the orders of both sides, and what they traded here
pub record Even (rs : List Told) : Type 0 where
  pub once : (i : ℕ) (s : Side) → count (is_order i s) (orders rs) ≡ came_on s (arrived i rs)
  pub sides : traded_on Buy rs ≡ traded_on Sell rs

-- a fill names an order of the other side, which is not the call's own
abbrev pub NamesOther : List Told → Side → ℕ → Line → Type 0
NamesOther rs contra own (Fill id firm size price step) = (eqb own id ≡ false) × ((s : Side) → came_on s (arrived id rs) ≡ one_if (same_side contra s))
NamesOther rs contra own (Cancel id firm size cause) = Unit {0}
NamesOther rs contra own (Filled id firm) = Unit {0}
NamesOther rs contra own (Rest id firm size price) = Unit {0}
NamesOther rs contra own (Route id firm size) = Unit {0}

total_cond_plus : {X : Type 0} (p : X → Bool) (f g : X → ℕ) (xs : List X) → total (λ x. cond (p x) (f x + g x) 0) xs ≡ total (λ x. cond (p x) (f x) 0) xs + total (λ x. cond (p x) (g x) 0) xs
total_cond_plus p f g [] = refl
total_cond_plus p f g (x ∷ xs) = grind (arith, nat_tests, total_cond_plus p f g xs)

total_cond_none : {X : Type 0} (p : X → Bool) (xs : List X) → total (λ x. cond {A = ℕ} (p x) 0 0) xs ≡ 0
total_cond_none p [] = refl
total_cond_none p (x ∷ xs) = grind (arith, nat_tests, total_cond_none p xs)

-- what n for the one that passes adds up to
count_one : {X : Type 0} (p : X → Bool) (n : ℕ) (xs : List X) → count p xs ≡ 1 → total (λ x. cond (p x) n 0) xs ≡ n
count_one p n [] one = absurd (omega arith)
count_one p n (x ∷ xs) one = grind (arith, nat_tests, count_one p n xs, total_none p (λ _. n) xs)

-- of two ids that differ each order has one at most
either_one : (id own : ℕ) (s : Side) (os : List Order) → eqb own id ≡ false → count (λ o. (eqb id o.id || eqb own o.id) && same_side o.side s) os ≡ count (is_order id s) os + count (is_order own s) os
either_one id own s [] differ = refl
either_one id own s (o ∷ os) differ = grind (arith, nat_tests, either_one id own s os differ)

side_sum : (t s : Side) → one_if (same_side (other_side t) s) + one_if (same_side t s) ≡ 1
side_sum Buy Buy = refl
side_sum Buy Sell = refl
side_sum Sell Buy = refl
side_sum Sell Sell = refl

cond_and : (a b : Bool) (n : ℕ) → cond b (cond a n 0) 0 ≡ cond (a && b) n 0
cond_and a b n = grind (arith, nat_tests)

-- a tape is booked once on each side
module _ (rs : List Told) (own : ℕ) (t : Side) (once : (i : ℕ) (s : Side) → count (is_order i s) (orders rs) ≡ came_on s (arrived i rs)) (mine : (s : Side) → came_on s (arrived own rs) ≡ one_if (same_side t s)) where
  line_booked : (s : Side) (l : Line) → NamesOther rs (other_side t) own l → total (λ o. cond (same_side o.side s) (traded_by o.id own l) 0) (orders rs) ≡ traded_in l
  line_booked s (Fill id firm size price step) named =
      total_each (λ o. cond (same_side o.side s) (cond (eqb id o.id || eqb own o.id) size 0) 0) (λ o. cond ((eqb id o.id || eqb own o.id) && same_side o.side s) size 0) (λ o. cond_and (eqb id o.id || eqb own o.id) (same_side o.side s) size) (orders rs)
      ∙ count_one (λ o. (eqb id o.id || eqb own o.id) && same_side o.side s) size (orders rs)
      (omega (arith, either_one id own s (orders rs) named.0, once id s, once own s, named.1 s, mine s, side_sum t s))
  line_booked s (Cancel id firm size cause) named = total_cond_none (λ o. same_side o.side s) (orders rs)
  line_booked s (Filled id firm) named = total_cond_none (λ o. same_side o.side s) (orders rs)
  line_booked s (Rest id firm size price) named = total_cond_none (λ o. same_side o.side s) (orders rs)
  line_booked s (Route id firm size) named = total_cond_none (λ o. same_side o.side s) (orders rs)

  tape_booked : (s : Side) (ls : List Line) → AllByRecursion (NamesOther rs (other_side t) own) ls → total (λ o. cond (same_side o.side s) (total (traded_by o.id own) ls) 0) (orders rs) ≡ total traded_in ls
  tape_booked s [] named = total_cond_none (λ o. same_side o.side s) (orders rs)
  tape_booked s (l ∷ ls) named =
      total_cond_plus (λ o. same_side o.side s) (λ o. traded_by o.id own l) (λ o. total (traded_by o.id own) ls) (orders rs)
      ∙ (λ i. line_booked s l named.0 i + tape_booked s ls named.1 i)

-- the fills of an order that trades name orders of the other side
module _ (r : Told) (rs : List Told) (o : Routed) (m : Model) (told : (i : ℕ) → eqb o.id i ≡ false → arrived i (r ∷ rs) ≡ arrived i rs)
    (fresh : standing_with o.id m ≡ 0) (known : AllByRecursion (Known (other_side o.side) rs) (entries (other_side o.side) m)) where
  abbrev Another : Entry → Type 0
  Another e = Known (other_side o.side) rs e × (eqb o.id e.id ≡ false)

  another_side : (e : Entry) → Another e → (s : Side) → came_on s (arrived e.id (r ∷ rs)) ≡ one_if (same_side (other_side o.side) s)
  another_side e h s = ap (came_on s) (told e.id h.1 ∙ h.0.found) ∙ ap (λ x. one_if (same_side x s)) h.0.side

  end_names : (b : ℕ) (e : Ending) → NamesOther (r ∷ rs) (other_side o.side) o.id (end_line o b e)
  end_names b is_filled = tt
  end_names b is_routed = tt
  end_names b (is_cancelled why) = tt
  end_names b rests = tt

  trade_names : (rule : Sharing) (may : Bool) → AllByRecursion (NamesOther (r ∷ rs) (other_side o.side) o.id) (trade rule o may m).lines
  unfolding trade finished traded
  trade_names rule may =
      let contra = other_side o.side in
      let es = entries contra m in
      let d = traded rule o m in
      All-append (NamesOther (r ∷ rs) contra o.id) d.lines (end_line o d.balance (ending o may d.balance (with_entries contra d.run m)) ∷ [])
      (walk_all Another (λ n e h. (known_resized contra rs n e h.0, h.1)) (NamesOther (r ∷ rs) contra o.id) (λ e n k h. (h.1, another_side e h)) (λ e h. tt) rule o (national_best contra m) (away contra m) o.size (runs es)
      (subst (AllByRecursion Another) (sym (runs_are_whole es)) (all_and (Known contra rs) (λ e. eqb o.id e.id ≡ false) es known (others_differ (λ (x : Entry). x.id) o.id es (side_fresh contra o.id m fresh)))))
      (end_names d.balance (ending o may d.balance (with_entries contra d.run m)), tt)

comes_on : (tick : ℕ) (rs : List Told) (o : Routed) → Comes tick rs o → (s : Side) → came_on s (arrived o.id rs) ≡ one_if (same_side o.side s)
comes_on tick rs o k s = ap (came_on s) k.found ∙ ap (λ x. one_if (same_side x s)) k.side

eqb_swap : (a b : ℕ) → eqb a b ≡ eqb b a
eqb_swap a b = grind (arith, nat_tests)

-- a call that enters nothing and has no tape
quiet : (r : Told) (rs : List Told) → Even rs → (orders (r ∷ rs) ≡ orders rs) → ((i : ℕ) → arrived i (r ∷ rs) ≡ arrived i rs) → ((i : ℕ) → (account i (r ∷ rs)).traded_here ≡ (account i rs).traded_here) → Even (r ∷ rs)
quiet r rs even same came here = record {
  once = λ i s. ap (count (is_order i s)) same ∙ even.once i s ∙ ap (came_on s) (sym (came i));
  sides = on Buy ∙ even.sides ∙ sym (on Sell);
}
  where
    on : (s : Side) → traded_on s (r ∷ rs) ≡ traded_on s rs
    on s = total_each (λ o. cond (same_side o.side s) (account o.id (r ∷ rs)).traded_here 0) (λ o. cond (same_side o.side s) (account o.id rs).traded_here 0) (λ o. ap (λ n. cond (same_side o.side s) n 0) (here o.id)) (orders (r ∷ rs)) ∙ ap (total (λ o. cond (same_side o.side s) (account o.id rs).traded_here 0)) same

module _ (c : Opening) (rs : List Told) (m : Model) (tied : Tied c rs m) (even : Even rs) where
  even_refused : (k : Call) (why : Refusal) → Even (turned_down k why ∷ rs)
  even_refused k why = quiet (turned_down k why) rs even refl (λ i. refl) (λ i. refl)

  even_told : (k : Call) → ((d : Done) → Even (carried_out k d.answer d.lines ∷ rs)) → (out : Outcome) → Even (tell k out ∷ rs)
  even_told k carried (refused why) = even_refused k why
  even_told k carried (done d) = carried d

  -- an order that was not told of before traded nothing
  fresh_here : (i : ℕ) → m.counters.last_id < i → (account i rs).traded_here ≡ 0
  fresh_here i above = let f = tied.fresh i above in omega (arith, tied.balances i, f.1, f.2)

  even_entered : (rule : LawfulRule) (u : Entering) → EntryFits u m → (d : Done) → AllByRecursion (NamesOther (carried_out (enters rule u) d.answer d.lines ∷ rs) (other_side u.order.side) u.order.id) d.lines → Even (carried_out (enters rule u) d.answer d.lines ∷ rs)
  even_entered rule u fits d named = record { once = once_more; sides = on Buy ∙ ap (λ n. n + total traded_in d.lines) even.sides ∙ sym (on Sell) }
    where
      once_more : (i : ℕ) (s : Side) → count (is_order i s) (u.order ∷ orders rs) ≡ came_on s (arrived i (carried_out (enters rule u) d.answer d.lines ∷ rs))
      once_more i s =
          let o = u.order in
          ⊎_elim
          (λ same.
          let i_is = eqb-true i o.id same in
          let none : count (is_order i s) (orders rs) ≡ 0 = even.once i s ∙ ap (came_on s) (tied.fresh i (omega (arith, fits.above))).0 in
          omega (arith, none, ap (λ b. one_if (b && same_side o.side s)) same, ap (came_on s) (cond-true (eqb o.id i) (Some (record { order = o; before = rs })) (arrived i rs) (eq-eqb o.id i (sym i_is)))))
          (λ differ. omega (arith, even.once i s, ap (λ b. one_if (b && same_side o.side s)) differ, ap (came_on s) (cond-false (eqb o.id i) (Some (record { order = o; before = rs })) (arrived i rs) (eqb_swap o.id i ∙ differ))))
          (cases_Bool (eqb i o.id))

      on : (s : Side) → traded_on s (carried_out (enters rule u) d.answer d.lines ∷ rs) ≡ traded_on s rs + total traded_in d.lines
      on s =
          let r = carried_out (enters rule u) d.answer d.lines in
          let o = u.order in
          let mine : (t : Side) → came_on t (arrived o.id (r ∷ rs)) ≡ one_if (same_side o.side t) = λ t. ap (came_on t) (cond-true (eqb o.id o.id) (Some (record { order = o; before = rs })) (arrived o.id rs) (eq-eqb o.id o.id refl)) in
          let tape = tape_booked (r ∷ rs) o.id o.side once_more mine s d.lines named in
          let split = total_cond_plus (λ (x : Order). same_side x.side s) (λ x. (account x.id rs).traded_here) (λ x. total (traded_by x.id o.id) d.lines) (o ∷ orders rs) in
          let head = ap (λ n. cond (same_side o.side s) n 0) (fresh_here o.id fits.above) ∙ cond_none (same_side o.side s) in
          split ∙ (λ t. (head t + traded_on s rs) + tape t) ∙ omega arith

  even_returned : (rule : LawfulRule) (u : Returning) (d : Done) (t : Side) → ((s : Side) → came_on s (arrived u.id rs) ≡ one_if (same_side t s)) → AllByRecursion (NamesOther (carried_out (returns rule u) d.answer d.lines ∷ rs) (other_side t) u.id) d.lines → Even (carried_out (returns rule u) d.answer d.lines ∷ rs)
  even_returned rule u d t mine named = record { once = even.once; sides = on Buy ∙ ap (λ n. n + total traded_in d.lines) even.sides ∙ sym (on Sell) }
    where
      on : (s : Side) → traded_on s (carried_out (returns rule u) d.answer d.lines ∷ rs) ≡ traded_on s rs + total traded_in d.lines
      on s =
          let r = carried_out (returns rule u) d.answer d.lines in
          let tape = tape_booked (r ∷ rs) u.id t even.once mine s d.lines named in
          total_cond_plus (λ (x : Order). same_side x.side s) (λ x. (account x.id rs).traded_here) (λ x. total (traded_by x.id u.id) d.lines) (orders rs) ∙ (λ i. traded_on s rs + tape i)

  even_entry : (rule : LawfulRule) (u : Entering) → Even (tell (enters rule u) (entry_of rule.shares u m) ∷ rs)
  even_entry rule u =
      let o = u.order in
      let counted = with_last_id o.id m in
      let d1 = missed o counted in
      let d2 = trade rule.shares (capped o m) o.may_route counted in
      entry_by (λ out. Even (tell (enters rule u) out ∷ rs)) (even_refused (enters rule u)) rule.shares u m
      (λ all _. even_entered rule u (entry_fits u m tied.sound all) d1 (tt, tt))
      (λ all _.
      let fits = entry_fits u m tied.sound all in
      even_entered rule u fits d2 (trade_names (carried_out (enters rule u) d2.answer d2.lines) rs (capped o m) counted (entry_trade_told c rs m tied rule u fits d2).came (entry_fresh c rs m tied rule u fits) (known_counted c rs m tied rule u fits (other_side o.side)) rule.shares o.may_route))

  even_return : (rule : LawfulRule) (u : Returning) → Even (tell (returns rule u) (return_of rule.shares u m) ∷ rs)
  even_return rule u =
      return_by (λ out. Even (tell (returns rule u) out ∷ rs)) (even_refused (returns rule u)) rule.shares u m (λ row found all.
      let back = sized (row.size - u.executed) row in
      let given = with_out (without_row u.id m.out) m in
      let d = trade rule.shares back false given in
      let enough = ltb-false row.size u.executed all.1.1.1.0 in
      let same = row_id c rs m tied rule u row found enough in
      even_returned rule u d row.side (subst (λ j. (s : Side) → came_on s (arrived j rs) ≡ one_if (same_side row.side s)) same (comes_on c.tick rs row (row_comes c rs m tied rule u row found enough)))
      (subst (λ j. AllByRecursion (NamesOther (carried_out (returns rule u) d.answer d.lines ∷ rs) (other_side row.side) j) d.lines) same
      (trade_names (carried_out (returns rule u) d.answer d.lines) rs back given (λ i else. refl) (return_fresh c rs m tied rule u row found enough) (known_given c rs m tied rule u row found enough (other_side row.side)) rule.shares false)))

  pub even_next : (k : Call) → Even (tell k (outcome k m) ∷ rs)
  even_next (enters rule u) = even_entry rule u
  even_next (returns rule u) = even_return rule u
  even_next (resizes u) = even_told (resizes u) (λ d. quiet (carried_out (resizes u) d.answer d.lines) rs even refl (λ i. refl) (λ i. refl)) (resize_of u m)
  even_next (cancels u) = even_told (cancels u) (λ d. quiet (carried_out (cancels u) d.answer d.lines) rs even refl (λ i. refl) (λ i. refl)) (cancel_of u m)
  even_next (updates u) = even_told (updates u) (λ d. quiet (carried_out (updates u) d.answer d.lines) rs even refl (λ i. refl) (λ i. refl)) (market_of u m)
