-- An entry that comes to a side, in its places. Assumes nothing.
use Rattle.std.proofs.Common.{◌≡◌, ℕ, zero, suc, ◌+◌, ◌-◌, ◌<◌, ◌≤◌, Bool, true, false, cond, List, [], ◌∷◌, ◌++◌, length, take, drop, get_or, set, is_some, is_ok, Some, None, Ok, Err, Option, Result, sym, ap, subst, ◌∙◌, arith, length-append, length-drop, MatchResult}
use Rattle.std.specs.List.{AllByRecursion, remove}
use Rattle.std.proofs.ByRecursion.{All-weaker}
use Rattle.std.proofs.lemmas.Bool.Decides.{nat_tests}
use Rattle.std.proofs.lemmas.List.{length-take-le}
use Rattle.std.proofs.lemmas.List.Edits.{length-remove}
use Rattle.ranked.specs.Ranked.{ahead, inserted}
use Rattle.ranked.proofs.Orderly.{length_inserted_into, front_inserted}
use Rattle.rules.specs.declared.terms.Entry.{Entry}
use Rattle.rules.specs.declared.terms.Side.{Side}
use Rattle.rules.specs.declared.terms.Side.TheVariants.{Buy, Sell}
use Rattle.rules.specs.Model.{ranked_in}
use Rattle.rules.specs.Ranks.{rank_of, rank_before}
use Rattle.rules.specs.Laws.{LeftOf}
use Rattle.rules.specs.Sound.{InRank}
use Rattle.rules.proofs.LeftOver.{each_left_of}
use Rattle.book.specs.Ordering.{InOrder}

-- what stands in rank is in order: of two ranks only one is before the other
one_way : (s : Side) (r t : ℕ × ℕ × ℕ) → rank_before s r t ≡ true → rank_before s t r ≡ false
one_way Buy r t p = grind (arith, nat_tests)
one_way Sell r t p = grind (arith, nat_tests)

pub in_rank_sorted : (s : Side) (es : List Entry) → InRank s es → InOrder s es
in_rank_sorted s [] ranked = tt
in_rank_sorted s (e ∷ es) ranked =
    (All-weaker (λ f. rank_before s (rank_of e) (rank_of f) ≡ true) (λ f. rank_before s (rank_of f) (rank_of e) ≡ false) (λ f h. one_way s (rank_of e) (rank_of f) h) es ranked.0, in_rank_sorted s es ranked.1)

-- entries that are left stay in order
pub left_in_order : (s : Side) {es fs : List Entry} → LeftOf es fs → InOrder s es → InOrder s fs
left_in_order s g = each_left_of (λ e f. rank_before s (rank_of f) (rank_of e) ≡ false) (λ n e f h. (h, h)) g

-- so does an entry of the same rank in the place of one
module _ (s : Side) (e : Entry) where
  none_ahead : (r : ℕ × ℕ × ℕ) (es : List Entry) (k : ℕ) → rank_of e ≡ rank_of (get_or es k e) → AllByRecursion (λ f. rank_before s (rank_of f) r ≡ false) es → AllByRecursion (λ f. rank_before s (rank_of f) r ≡ false) (set es k e)
  none_ahead r [] k is all = tt
  none_ahead r (f ∷ fs) zero is all = (ap (λ q. rank_before s q r) is ∙ all.0, all.1)
  none_ahead r (f ∷ fs) (suc k) is all = (all.0, none_ahead r fs k is all.1)

  pub set_in_order : (es : List Entry) (k : ℕ) → rank_of e ≡ rank_of (get_or es k e) → InOrder s es → InOrder s (set es k e)
  set_in_order [] k is o = tt
  set_in_order (f ∷ fs) zero is o = (subst (λ q. AllByRecursion (λ g. rank_before s (rank_of g) q ≡ false) fs) (sym is) o.0, o.1)
  set_in_order (f ∷ fs) (suc k) is o = (none_ahead (rank_of f) fs k is o.0, set_in_order fs k is o.1)

-- the places and the length of a list after an insertion for which there was room
module _ (s : Side) (e : Entry) (es : List Entry) (n : ℕ) (within : n ≤ length es) (room : length (take n es) < length es) where
  abbrev by : Entry → Entry → Bool
  by = ahead rank_before (λ _. rank_of) s

  there : n < length es
  there = omega (arith, room, length-take-le n es within)

  put_behind : (ys : List Entry) → ys ≡ inserted by e (take n es) ++ drop (n + 1) es → (length ys ≡ length es) × (take (n + 1) ys ≡ ranked_in s e (take n es))
  put_behind ys after = (
    ap length after
        ∙ length-append (inserted by e (take n es)) (drop (n + 1) es)
        ∙ omega (arith, there, length_inserted_into by e (take n es), length-take-le n es within, length-drop (n + 1) es),
    ap (take (n + 1)) after ∙ front_inserted by e es (drop (n + 1) es) n (omega (arith, there)),
  )

  pub put : {E : Type 0} (r : Result (Unit {0}) E) (ys : List Entry) (k : ℕ) → MatchResult r (λ _. n < length es) (λ _. length es ≤ n) → ys ≡ cond (is_ok r) (inserted by e (take n es) ++ drop (n + 1) es) es → k ≡ cond (is_ok r) (n + 1) n
      → (k ≤ length ys) × (length ys ≡ length es) × (take k ys ≡ ranked_in s e (take n es))
  put (Ok x) ys k cases after long =
      let b = put_behind ys after in
      (omega (arith, long, there, b.0), b.0, ap (λ i. take i ys) long ∙ b.1)
  put (Err x) ys k cases after long = absurd (omega (arith, cases, there))

-- what is left after a removal has places
pub within_removed : {X : Type 0} (r : Option X) (n at : ℕ) (es ys : List X) (k : ℕ) → n ≤ length es → at < length (take n es) → ys ≡ cond (is_some r) (remove (take n es) at ++ drop (n - 1) es) es → k ≡ cond (is_some r) (n - 1) n → k ≤ length ys
within_removed None n at es ys k within there after long = omega (arith, within, ap length after, long)
within_removed (Some x) n at es ys k within there after long =
    omega (arith, ap length after, length-append (remove (take n es) at) (drop (n - 1) es), length-remove (take n es) at there, length-take-le n es within, long)
