-- Allotments written one after another, and sums over a list. Assumes nothing.
use Rattle.std.specs.Prelude.{◌≡◌, ℕ, zero, suc, ◌+◌, ◌*◌, ◌<◌, ◌≤◌, List, [], ◌∷◌, ◌++◌, length, get_or, take, drop, set, slice_index, slice_index_or, slice_set, refl}
use Rattle.std.proofs.Common.{sym, ap, ◌∙◌, add-one, arith}
use Rattle.std.specs.List.{AllZip, AllByRecursion}
use Rattle.std.proofs.lemmas.List.{append-nil, take_all, take-append-drop, drop_all, take_more}
use Rattle.sharing.specs.declared.claims.Claim.{Claim}
use Rattle.sharing.specs.Claims.{with_allotment, allotted}
use Rattle.sharing.specs.Totals.{total}

-- the first i claims have their allotments, and the others are as they were
abbrev pub allotted_to : List ℕ → List Claim → ℕ → List Claim
allotted_to ns cs i = allotted ns (take i cs) ++ drop i cs

pub allotted_none : (ns : List ℕ) (cs : List Claim) → cs ≡ allotted_to ns cs 0
allotted_none [] cs = refl
allotted_none (n ∷ ns) cs = refl

-- what a read past the end of a slice of claims would give
abbrev pub no_claim : Claim
no_claim = record { size = 0; time = 0; allotment = 0 }

one_allotted : (ns : List ℕ) (cs : List Claim) (i : ℕ) → i < length cs → length ns ≡ length cs → slice_set (allotted_to ns cs i) i (with_allotment (slice_index ns i) (slice_index_or cs i no_claim)) ≡ allotted_to ns cs (suc i)
one_allotted [] cs i in' long = absurd (omega arith)
one_allotted (n ∷ ns) [] i in' long = absurd (omega arith)
one_allotted (n ∷ []) (c ∷ cs) zero in' long = refl
one_allotted (n ∷ m ∷ ns) (c ∷ cs) zero in' long = refl
one_allotted (n ∷ ns) (c ∷ cs) (suc i) in' long = ap (λ l. with_allotment n c ∷ l) (one_allotted ns cs i (omega arith) (omega arith))

still_there : (ns : List ℕ) (cs : List Claim) (i : ℕ) → i < length cs → length ns ≡ length cs → slice_index_or (allotted_to ns cs i) i no_claim ≡ slice_index_or cs i no_claim
still_there [] cs i in' long = absurd (omega arith)
still_there (n ∷ ns) [] i in' long = absurd (omega arith)
still_there (n ∷ ns) (c ∷ cs) zero in' long = refl
still_there (n ∷ ns) (c ∷ cs) (suc i) in' long = still_there ns cs i (omega arith) (omega arith)

-- a loop that writes the allotments ns into the claims cs, which stand as ds at the turn i
module _ (ns : List ℕ) (cs ds : List Claim) (i : ℕ) (state : ds ≡ allotted_to ns cs i) (in' : i < length cs) (long : length ns ≡ length cs) where
  -- the claim of this turn is as it was
  pub unwritten : get_or ds i no_claim ≡ slice_index_or cs i no_claim
  unwritten = ap (λ l. get_or l i no_claim) state ∙ still_there ns cs i in' long

  pub allotted_more : (n : ℕ) → n ≡ slice_index ns i → slice_set ds i (with_allotment n (slice_index_or ds i no_claim)) ≡ allotted_to ns cs (i + 1)
  allotted_more n value =
      (λ t. set (state t) i (with_allotment (value t) (unwritten t))) ∙ one_allotted ns cs i in' long ∙ ap (allotted_to ns cs) (sym (add-one i))

pub allotted_all : (ns : List ℕ) (cs : List Claim) (i : ℕ) → length cs ≤ i → allotted_to ns cs i ≡ allotted ns cs
allotted_all ns cs i le = (λ t. allotted ns (take_all i cs le t) ++ drop_all i cs le t) ∙ append-nil (allotted ns cs)

module _ {X : Type 0} (f : X → ℕ) where
  pub total_append : (xs ys : List X) → total f (xs ++ ys) ≡ total f xs + total f ys
  total_append [] ys = omega arith
  total_append (x ∷ xs) ys = omega (arith, total_append xs ys)

  pub total_more : (xs : List X) (i : ℕ) (d : X) → i < length xs → total f (take (i + 1) xs) ≡ total f (take i xs) + f (slice_index_or xs i d)
  total_more xs i d in' = ap (total f) (take_more xs i d in') ∙ total_append (take i xs) (slice_index_or xs i d ∷ []) ∙ omega arith

  pub total_part : (xs : List X) (i : ℕ) → total f (take i xs) ≤ total f xs
  total_part xs i = omega (arith, total_append (take i xs) (drop i xs), ap (total f) (take-append-drop i xs))

  pub total_few : (m : ℕ) (xs : List X) → AllByRecursion (λ x. f x ≤ m) xs → total f xs ≤ length xs * m
  total_few m [] small = omega arith
  total_few m (x ∷ xs) small = omega (arith, small.0, total_few m xs small.1)

  -- one more, and still no more than all
  pub total_upto : (m : ℕ) (xs : List X) (i : ℕ) (d : X) → i < length xs → AllByRecursion (λ x. f x ≤ m) xs → total f (take i xs) + f (slice_index_or xs i d) ≤ length xs * m
  total_upto m xs i d in' small = omega (arith, total_more xs i d in', total_part xs (i + 1), total_few m xs small)

pub each_refl : (ns : List ℕ) → AllZip ◌≤◌ ns ns
each_refl [] = tt
each_refl (n ∷ ns) = (omega arith, each_refl ns)
