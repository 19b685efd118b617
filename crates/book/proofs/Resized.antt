-- What a size change comes to, by where the order is. Assumes nothing.
use Rattle.std.proofs.Common.{◌≡◌, ℕ, zero, suc, ◌+◌, ◌<◌, ◌≤◌, true, false, cond, not, ◌&&◌, eqb, ltb, List, [], ◌∷◌, length, get_or, set, None, Ok, sym, refl, ap, ◌∙◌, subst, arith}
use Rattle.std.specs.List.{remove}
use Rattle.std.proofs.lemmas.Bool.Decides.{nat_tests}
use Rattle.std.proofs.lemmas.Bool.{ne_eqb, cond-true, cond-false, eq-eqb, lt-ltb, le-ltb, and_left, and_right, not_from_true}
use Rattle.sharing.specs.Totals.{count}
use Rattle.rules.specs.declared.numbers.Refusal.TheVariants.{FirmZero, BadSize, AnotherFirms, LastTimeReached}
use Rattle.rules.specs.declared.terms.Entry.{Entry}
use Rattle.rules.specs.declared.terms.Side.{Side}
use Rattle.rules.specs.Calls.{Resizing, resize_at, resize_of, after_resize, without_entry, enlarged, reduced_in}
use Rattle.rules.specs.Level.{resized}
use Rattle.rules.specs.Model.{Model, entries, with_entries, with_last_time, ranked_in}
use Rattle.rules.specs.Outcome.{Done, Outcome, standing}
use Rattle.rules.specs.Outcome.Outcome.{refused, done}
use Rattle.rules.specs.Outcome.Standing.{resting}
use Rattle.rules.specs.Prices.{is_size}
use Rattle.rules.specs.Sound.{Sound}
use Rattle.rules.proofs.CallsKeep.{reduced_none, side_once}
use Rattle.rules.proofs.Moves.{entries_with, with_again, has_id}
use Rattle.book.specs.Answers.{Settles}
use Rattle.book.specs.Standings.{Its}
use Rattle.book.specs.declared.find.Own.{Own}
use Rattle.book.proofs.Cancelled.{without_found}
use Rattle.book.proofs.Finding.{counted_at}
use Rattle.rules.proofs.Defaults.{no_entry}

-- a firm's resting entry with another size, for which there is a working time if it is larger
module _ (c : Resizing) (m : Model) (firm : c.firm ≡ 0 → ⊥) (size : is_size c.size ≡ true) (s : Side) (e : Entry) (stands : standing c.id m ≡ resting s e) (own : e.firm ≡ c.firm) where
  as_own : resize_of c m ≡ cond (ltb e.size c.size && ltb 4000000000 m.counters.last_time) (refused LastTimeReached) (done (record { answer = c.size; lines = []; after = after_resize c s e m; ticket = None }))
  unfolding resize_of
  as_own =
      ap (resize_at c m) stands
      ∙ cond-false (eqb c.firm 0) (refused FirmZero) _ (ne_eqb c.firm 0 firm)
      ∙ cond-false (not (is_size c.size)) (refused BadSize) _ (not_from_true (is_size c.size) size)
      ∙ cond-false (not (eqb e.firm c.firm)) (refused AnotherFirms) _ (not_from_true (eqb e.firm c.firm) (eq-eqb e.firm c.firm own))

  pub made_smaller : c.size ≤ e.size → resize_of c m ≡ done (record { answer = c.size; lines = []; after = with_entries s (reduced_in c.id c.size (entries s m)) m; ticket = None })
  made_smaller le =
      let small = le-ltb e.size c.size le in
      as_own ∙ cond-false (ltb e.size c.size && ltb 4000000000 m.counters.last_time) (refused LastTimeReached) _ (and_left (ltb e.size c.size) (ltb 4000000000 m.counters.last_time) small)
      ∙ ap (λ (n : Model). done (record { answer = c.size; lines = []; after = n; ticket = None })) (cond-false (ltb e.size c.size) _ _ small)

  pub made_larger : e.size < c.size → ltb 4000000000 m.counters.last_time ≡ false → resize_of c m ≡ done (record { answer = c.size; lines = []; after = with_last_time (m.counters.last_time + 1) (with_entries s (ranked_in s (enlarged c.size (m.counters.last_time + 1) e) (without_entry c.id (entries s m))) m); ticket = None })
  made_larger lt early =
      let large = lt-ltb e.size c.size lt in
      as_own ∙ cond-false (ltb e.size c.size && ltb 4000000000 m.counters.last_time) (refused LastTimeReached) _ (and_right (ltb e.size c.size) (ltb 4000000000 m.counters.last_time) early)
      ∙ ap (λ (n : Model). done (record { answer = c.size; lines = []; after = n; ticket = None })) (cond-true (ltb e.size c.size) _ _ large)

-- the entry at its place with another size
reduced_at : (i n : ℕ) (es : List Entry) (k : ℕ) (d : Entry) → k < length es → (get_or es k d).id ≡ i → count (has_id i) es ≤ 1 → set es k (resized n (get_or es k d)) ≡ reduced_in i n es
reduced_at i n [] k d lt is once = absurd (omega arith)
reduced_at i n (e ∷ es) zero d lt is once = grind (arith, nat_tests, reduced_none i n es)
reduced_at i n (e ∷ es) (suc k) d lt is once = grind (arith, nat_tests, counted_at (λ (x : Entry). x.id) i es k d, reduced_at i n es k d)

pub reduced_there : (i firm n : ℕ) (m : Model) (p : Own) → Sound m → Its i firm m p → set (entries p.side m) p.at (resized n p.entry) ≡ reduced_in i n (entries p.side m)
reduced_there i firm n m p sound its =
    let es = entries p.side m in
    ap (λ e. set es p.at (resized n e)) (its.entry no_entry) ∙ reduced_at i n es p.at no_entry its.within (sym (ap (λ (x : Entry). x.id) (its.entry no_entry)) ∙ its.id) (side_once p.side m sound i)

-- without its entry a side has a place
module _ (i firm : ℕ) (m n : Model) (p : Own) (sound : Sound m) (its : Its i firm m p) (is : n ≡ with_entries p.side (remove (entries p.side m) p.at) m) where
  pub rests_again : (e : Entry) → with_last_time e.time (with_entries p.side (ranked_in p.side e (entries p.side n)) n) ≡ with_last_time e.time (with_entries p.side (ranked_in p.side e (without_entry i (entries p.side m))) m)
  rests_again e =
      let s = p.side in
      let es = remove (entries s m) p.at in
      ap (λ x. with_last_time e.time (with_entries s (ranked_in s e (entries s x)) x)) is
      ∙ ap (with_last_time e.time) (with_again s es (ranked_in s e (entries s (with_entries s es m))) m ∙ ap (λ fs. with_entries s (ranked_in s e fs) m) (entries_with s es m ∙ without_found i firm m p sound its))

-- an outcome that is done, and what it leaves and answers
settled : (o : Outcome) (d : Done) (m n : Model) (a : ℕ) → o ≡ done d → n ≡ d.after → a ≡ d.answer → Settles {A = ℕ} o m (Ok a) n (λ e b. b ≡ e.answer)
settled o d m n a is left answer = subst (λ x. Settles {A = ℕ} x m (Ok a) n (λ e b. b ≡ e.answer)) (sym is) (left, answer)

-- a firm's entry has another size, which is answered
module _ (c : Resizing) (m n : Model) (p : Own) (firm : c.firm ≡ 0 → ⊥) (size : is_size c.size ≡ true) (sound : Sound m) (its : Its c.id c.firm m p) where
  pub settles_smaller : c.size ≤ p.entry.size → n ≡ with_entries p.side (set (entries p.side m) p.at (resized c.size p.entry)) m → Settles {A = ℕ} (resize_of c m) m (Ok c.size) n (λ d a. a ≡ d.answer)
  settles_smaller le is =
      let set_there = ap (λ es. with_entries p.side es m) (reduced_there c.id c.firm c.size m p sound its) in
      settled (resize_of c m) _ m n c.size (made_smaller c m firm size p.side p.entry its.stands its.firm_is le) (is ∙ set_there) refl

  -- o is the book without the entry
  pub settles_larger : (o : Model) → p.entry.size < c.size → ltb 4000000000 m.counters.last_time ≡ false → o ≡ with_entries p.side (remove (entries p.side m) p.at) m → n ≡ with_last_time (m.counters.last_time + 1) (with_entries p.side (ranked_in p.side (enlarged c.size (m.counters.last_time + 1) p.entry) (entries p.side o)) o) → Settles {A = ℕ} (resize_of c m) m (Ok c.size) n (λ d a. a ≡ d.answer)
  settles_larger o lt early gone is =
      let e = enlarged c.size (m.counters.last_time + 1) p.entry in
      let again = rests_again c.id c.firm m o p sound its gone e in
      settled (resize_of c m) _ m n c.size (made_larger c m firm size p.side p.entry its.stands its.firm_is lt early) (is ∙ again) refl
