-- The first with an id in a list, and the list without it. Assumes nothing.
use Rattle.std.proofs.Common.{◌≡◌, Bool, ℕ, zero, suc, ◌+◌, ◌<◌, ◌≤◌, true, false, not, eqb, ltb, List, [], ◌∷◌, length, get_or, is_some, Some, None, filter, sym, refl, ap, ◌∙◌, ⊎_elim, arith}
use Rattle.std.specs.List.{position, position_or_len, remove}
use Rattle.std.proofs.lemmas.Bool.Decides.{nat_tests}
use Rattle.std.proofs.lemmas.Bool.{cases_Bool, cond-true, cond-false, not_from_true, not_from_false, eq-eqb, ltb-false, true≢false}
use Rattle.std.proofs.lemmas.List.Quantifiers.{position-Some}
use Rattle.sharing.specs.Totals.{one_if, count}
use Rattle.rules.specs.Outcome.{found_in}

-- the search of the definitions finds what stands at the first position
module _ {X : Type 0} (id : X → ℕ) (i : ℕ) where
  abbrev has : X → Bool
  has x = eqb (id x) i

  found_first : (xs : List X) (k : ℕ) (d : X) → k < length xs → has (get_or xs k d) ≡ true → ((j : ℕ) → j < k → has (get_or xs j d) ≡ false) → found_in id i xs ≡ Some (get_or xs k d)
  found_first [] k d lt here before = absurd (omega (arith, lt))
  found_first (x ∷ xs) zero d lt here before = cond-true (has x) (Some x) (found_in id i xs) here
  found_first (x ∷ xs) (suc k) d lt here before =
      cond-false (has x) (Some x) (found_in id i xs) (before 0 (omega arith)) ∙ found_first xs k d (omega (arith, lt)) here (λ j less. before (suc j) (omega (arith, less)))

  pub found_at : (xs : List X) (k : ℕ) (d : X) → position has xs ≡ Some k → (k < length xs) × (found_in id i xs ≡ Some (get_or xs k d))
  found_at xs k d is = let first = position-Some has xs k d is in (first.0, found_first xs k d first.0 first.1 first.2)

  found_none : (xs : List X) → length xs ≤ position_or_len has xs → found_in id i xs ≡ None
  found_none [] past = refl
  found_none (x ∷ xs) past =
      ⊎_elim
      (λ here. absurd (omega (arith, past, cond-false (not (has x)) (1 + position_or_len has xs) 0 (not_from_true (has x) here))))
      (λ away. cond-false (has x) (Some x) (found_in id i xs) away ∙ found_none xs (omega (arith, past, cond-true (not (has x)) (1 + position_or_len has xs) 0 (not_from_false (has x) away))))
      (cases_Bool (has x))

  pub not_found : (xs : List X) → position has xs ≡ None → found_in id i xs ≡ None
  not_found xs is =
      let at = position_or_len has xs in
      ⊎_elim
      (λ within. absurd (true≢false (ap is_some (sym (cond-true (ltb at (length xs)) (Some at) None within) ∙ is))))
      (λ past. found_none xs (ltb-false at (length xs) past))
      (cases_Bool (ltb at (length xs)))

-- the list without what has an id, where that stands once
module _ {X : Type 0} (id : X → ℕ) (i : ℕ) where
  others_all : (xs : List X) → count (λ x. eqb (id x) i) xs ≡ 0 → filter (λ x. not (eqb (id x) i)) xs ≡ xs
  others_all [] none = refl
  others_all (x ∷ xs) none = grind (arith, nat_tests, others_all xs)

  pub counted_at : (xs : List X) (k : ℕ) (d : X) → k < length xs → id (get_or xs k d) ≡ i → 1 ≤ count (λ x. eqb (id x) i) xs
  counted_at [] k d lt is = absurd (omega arith)
  counted_at (x ∷ xs) zero d lt is = let one = ap one_if (eq-eqb (id x) i is) in omega arith
  counted_at (x ∷ xs) (suc k) d lt is = omega (arith, counted_at xs k d (omega arith) is)

  pub removed_others : (xs : List X) (k : ℕ) (d : X) → k < length xs → id (get_or xs k d) ≡ i → count (λ x. eqb (id x) i) xs ≤ 1 → remove xs k ≡ filter (λ x. not (eqb (id x) i)) xs
  removed_others [] k d lt is once = absurd (omega arith)
  removed_others (x ∷ xs) zero d lt is once = grind (arith, nat_tests, others_all xs)
  removed_others (x ∷ xs) (suc k) d lt is once = grind (arith, nat_tests, counted_at xs k d, removed_others xs k d)
