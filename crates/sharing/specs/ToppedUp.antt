-- One contract more for the first claims in order. Assumes nothing.
use Rattle.std.specs.Prelude.{◌≡◌, ℕ, zero, suc, ◌+◌, ◌<◌, min, Bool, true, false, List, [], ◌∷◌, ◌++◌, map, length, get_or, take, drop, ◌==◌, nat_eq, nat_lt, slice_index_or, slice_set, refl}
use Rattle.std.proofs.Math.Path.{sym, ap}
use Rattle.std.proofs.Common.{◌∙◌, one-add, length-append, length-drop}
use native.Mathlib.Omega.{arith}
use Rattle.std.specs.List.{AllByRecursion}
use Rattle.std.proofs.ByRecursion.{All-weaker, All-map}
use Rattle.std.proofs.lemmas.List.{length-map, length-take-le, drop_more, get_or_at, get_or_default}
use Rattle.std.proofs.lemmas.List.Edits.{map_over_more}
use Rattle.std.proofs.lemmas.Bool.{both_ways, false_from_ne_true, lt-ltb, le-ltb}
use Rattle.std.proofs.lemmas.Bool.Decides.{nat_tests}
use Rattle.ranked.specs.Ranked.{all_inserted}
use Rattle.ranked.proofs.Orderly.{Orderly, sorted_all_inserted}
use Rattle.ranked.proofs.Strict.{Strict, strict_same, all_into, all_out}
use Rattle.sharing.specs.declared.claims.Claim.{Claim}
use Rattle.sharing.specs.Claims.{with_allotment, allotted, Ascending, remaining, larger_then_earlier}
use Rattle.sharing.specs.Rules.{one_more, topped}
use Rattle.sharing.specs.Totals.{one_if, total, count}
use Rattle.sharing.specs.Allotted.{no_claim}
use Rattle.sharing.specs.Ordered.{total_all_inserted, ascending_distinct, strict_from_sorted}

pub map_same : {X Y : Type 0} (f g : X → Y) (xs : List X) → AllByRecursion (λ x. f x ≡ g x) xs → map f xs ≡ map g xs
map_same f g [] same = refl
map_same f g (x ∷ xs) same = λ t. same.0 t ∷ map_same f g xs same.1 t

pub total_same : {X : Type 0} (f g : X → ℕ) (xs : List X) → AllByRecursion (λ x. f x ≡ g x) xs → total f xs ≡ total g xs
total_same f g [] same = refl
total_same f g (x ∷ xs) same = λ t. same.0 t + total_same f g xs same.1 t

pub total_map : {X Y : Type 0} (f : X → Y) (g : Y → ℕ) (xs : List X) → total g (map f xs) ≡ total (λ x. g (f x)) xs
total_map f g [] = refl
total_map f g (x ∷ xs) = ap (λ n. g (f x) + n) (total_map f g xs)

ltb_suc : (k n : ℕ) → nat_lt k n ≡ nat_lt (suc k) (suc n)
ltb_suc k n = grind (arith, nat_tests)

total_ones : {X : Type 0} (xs : List X) → total (λ _. 1) xs ≡ length xs
total_ones [] = refl
total_ones (x ∷ xs) = omega (arith, total_ones xs)

all_unmap : {X Y : Type 0} (P : Y → Type 0) (f : X → Y) (xs : List X) → AllByRecursion P (map f xs) → AllByRecursion (λ x. P (f x)) xs
all_unmap P f [] ps = tt
all_unmap P f (x ∷ xs) ps = (ps.0, all_unmap P f xs ps.1)

-- one contract more for each of the first n claims
abbrev pub raised : ℕ → List Claim → List Claim
raised n cs = map one_more (take n cs) ++ drop n cs

-- raise_each at the turn i: the claims before place i have one contract more, the others are as they were
module _ (cs ds : List Claim) (i : ℕ) (state : ds ≡ raised i cs) (in' : i < length cs) where
  -- the claim of this turn is as it was
  pub unraised : get_or ds i no_claim ≡ slice_index_or cs i no_claim
  unraised =
      let long : length (map one_more (take i cs)) ≡ i = length-map (take i cs) one_more ∙ length-take-le i cs (omega arith) in
      ap (λ l. get_or l i no_claim) (state ∙ ap (λ l. map one_more (take i cs) ++ l) (drop_more cs i no_claim in')) ∙ get_or_at (map one_more (take i cs)) (slice_index_or cs i no_claim) (drop (i + 1) cs) no_claim i long

  pub raised_more : slice_set ds i (one_more (slice_index_or ds i no_claim)) ≡ raised (i + 1) cs
  raised_more =
      let same = get_or_default ds i no_claim (slice_index_or ds i no_claim) (omega (arith, ap length state, length_raised)) in
      map_over_more one_more cs ds i (slice_index_or ds i no_claim) in' state same
    where
      length_raised : length (raised i cs) ≡ length cs
      length_raised = length-append (map one_more (take i cs)) (drop i cs) ∙ omega (arith, length-map (take i cs) one_more, length-take-le i cs (omega arith), length-drop i cs)

total_raised : (n : ℕ) (cs : List Claim) → total (λ c. c.allotment) (raised n cs) ≡ total (λ c. c.allotment) cs + min n (length cs)
total_raised zero cs = omega arith
total_raised (suc n) [] = omega arith
total_raised (suc n) (c ∷ cs) = omega (arith, total_raised n cs)

module _ (ahead : Claim → Claim → Bool) where
  -- how many are ahead of c
  abbrev before_it : List Claim → Claim → ℕ
  before_it cs c = count (λ d. ahead d c) cs

  -- a claim of which fewer than n of cs are ahead, with one contract more; any other as it is
  abbrev pub bumped : ℕ → List Claim → Claim → Claim
  bumped n cs c = with_allotment (c.allotment + one_if (nat_lt (before_it cs c) n)) c

  unbumped : (c : Claim) (k : ℕ) → with_allotment (c.allotment + one_if (nat_lt k 0)) c ≡ c
  unbumped c k = ap (λ b. with_allotment (c.allotment + one_if b) c) (le-ltb k 0 (omega arith)) ∙ ap (λ n. with_allotment n c) (omega arith)

  map_unbumped : (cs ds : List Claim) → map (bumped 0 ds) cs ≡ cs
  map_unbumped [] ds = refl
  map_unbumped (c ∷ cs) ds = λ t. unbumped c (before_it ds c) t ∷ map_unbumped cs ds t

  none_before : (c : Claim) (cs : List Claim) → AllByRecursion (λ d. ahead d c ≡ false) cs → before_it cs c ≡ 0
  none_before c [] behind = refl
  none_before c (d ∷ ds) behind = let first = ap one_if behind.0 in omega (arith, none_before c ds behind.1)

  -- where each claim is ahead of all behind it, the first n are those of which fewer than n are ahead
  pub raised_first : Orderly ahead → (n : ℕ) (cs : List Claim) → Strict ahead cs → raised n cs ≡ map (bumped n cs) cs
  raised_first laws zero cs s = sym (map_unbumped cs cs)
  raised_first laws (suc n) [] s = refl
  raised_first laws (suc n) (c ∷ cs) s =
      let itself = ap one_if (laws.irreflexive c) in
      let later = All-weaker (λ d. ahead c d ≡ true) (λ d. ahead d c ≡ false) (λ d cd. false_from_ne_true (ahead d c) (λ dc. both_ways _ (laws.irreflexive c) (laws.transitive c d c cd dc))) cs s.0 in
      let none : before_it (c ∷ cs) c ≡ 0 = omega (arith, none_before c cs later) in
      let first : one_more c ≡ bumped (suc n) (c ∷ cs) c = ap (λ b. with_allotment (c.allotment + one_if b) c) (sym (lt-ltb (before_it (c ∷ cs) c) (suc n) (omega (arith, none)))) in
      let shift = All-weaker (λ d. ahead c d ≡ true) (λ d. bumped n cs d ≡ bumped (suc n) (c ∷ cs) d) (λ d cd. ap (λ b. with_allotment (d.allotment + one_if b) d) (ltb_suc (before_it cs d) n) ∙ ap (λ k. with_allotment (d.allotment + one_if (nat_lt k (suc n))) d) (sym (one-add (before_it cs d)) ∙ ap (λ k. k + before_it cs d) (sym (ap one_if cd)))) cs s.0 in
      (λ t. first t ∷ (raised_first laws n cs s.1 ∙ map_same (bumped n cs) (bumped (suc n) (c ∷ cs)) cs shift) t)

-- more left first, and of as many the earlier
abbrev pub left_first : Claim → Claim → Bool
left_first c d = larger_then_earlier (remaining c) (remaining d)

abbrev pub earlier : Claim → Claim → Bool
earlier c d = nat_lt c.time d.time

left_first_laws : Orderly left_first
left_first_laws = record {
  irreflexive = λ x. grind (arith, nat_tests);
  transitive = λ x y z p q. grind (arith, nat_tests);
  follows = λ x y z p q. grind (arith, nat_tests);
}

earlier_laws : Orderly earlier
earlier_laws = record {
  irreflexive = λ x. grind (arith, nat_tests);
  transitive = λ x y z p q. grind (arith, nat_tests);
  follows = λ x y z p q. grind (arith, nat_tests);
}

left_first_level : (x y : Claim) → left_first y x ≡ false → left_first x y ≡ false → x.time ≡ y.time
left_first_level x y p q = grind (arith, nat_tests)

earlier_level : (x y : Claim) → earlier y x ≡ false → earlier x y ≡ false → x.time ≡ y.time
earlier_level x y p q = grind (arith, nat_tests)

pub allotted_map : (f : Claim → ℕ) (cs : List Claim) → allotted (map f cs) cs ≡ map (λ c. with_allotment (f c) c) cs
allotted_map f [] = refl
allotted_map f (c ∷ cs) = ap (λ l. with_allotment (f c) c ∷ l) (allotted_map f cs)

-- nothing more
pub topped_none : (cs : List Claim) → allotted (topped 0 cs) cs ≡ cs
topped_none cs = allotted_map (λ c. c.allotment + one_if (nat_lt (count (λ d. left_first d c) cs) 0)) cs ∙ map_unbumped left_first cs cs

-- a change that keeps each time keeps the claims strictly in order of time
strict_mapped : (f : Claim → Claim) → ((c : Claim) → (f c).time ≡ c.time) → (cs : List Claim) → Ascending cs → Strict earlier (map f cs)
strict_mapped f same [] up = tt
strict_mapped f same (c ∷ cs) up = (
  All-map (λ d. earlier (f c) d ≡ true) f cs (All-weaker (λ d. c.time < d.time) (λ d. earlier (f c) (f d) ≡ true) (λ d lt. lt-ltb (f c).time (f d).time (omega (arith, same c, same d))) cs up.0),
  strict_mapped f same cs up.1,
)

module _ (n : ℕ) (cs : List Claim) (up : Ascending cs) where
  in_order : List Claim
  in_order = all_inserted left_first [] cs

  bump : Claim → Claim
  bump = bumped left_first n cs

  same_count : (f : Claim → ℕ) → total f in_order ≡ total f cs
  unfolding in_order
  same_count f = total_all_inserted left_first f [] cs ∙ omega arith

  strict_in_order : Strict left_first in_order
  unfolding in_order
  strict_in_order =
      strict_from_sorted left_first left_first_level (all_inserted left_first [] cs) (sorted_all_inserted left_first left_first_laws [] cs tt)
      (λ t. omega (arith, same_count (λ c. one_if (c.time == t)), ascending_distinct cs up t))

  raised_is : raised n in_order ≡ map bump in_order
  unfolding bump
  raised_is =
      raised_first left_first left_first_laws n in_order strict_in_order
      ∙ ap (λ (f : Claim → Claim). map f in_order) (λ t c. with_allotment (c.allotment + one_if (nat_lt (same_count (λ d. one_if (left_first d c)) t) n)) c)

  -- how many contracts there are then
  pub total_topped : total (λ k. k) (topped n cs) ≡ total (λ c. c.allotment) cs + min n (length cs)
  unfolding bump
  total_topped =
      let allotment_of : Claim → ℕ = λ c. c.allotment in
      let f : Claim → ℕ = λ c. c.allotment + one_if (nat_lt (count (λ d. left_first d c) cs) n) in
      let long = sym (total_ones in_order) ∙ same_count (λ _. 1) ∙ total_ones cs in
      total_map f (λ k. k) cs
      ∙ sym (same_count f)
      ∙ sym (total_map bump allotment_of in_order)
      ∙ ap (total allotment_of) (sym raised_is)
      ∙ total_raised n in_order
      ∙ (λ t. same_count allotment_of t + min n (long t))

  pub topped_up : all_inserted earlier [] (raised n (all_inserted left_first [] cs)) ≡ allotted (topped n cs) cs
  unfolding in_order bump
  topped_up =
      let again = all_inserted earlier [] (map bump in_order) in
      let times : (t : ℕ) → count (λ c. nat_eq c.time t) again ≡ count (λ c. nat_eq c.time t) cs = λ t.
      total_all_inserted earlier (λ c. one_if (c.time == t)) [] (map bump in_order)
      ∙ omega (arith, total_map bump (λ c. one_if (c.time == t)) in_order, same_count (λ c. one_if (c.time == t))) in
      let strict = strict_from_sorted earlier earlier_level again (sorted_all_inserted earlier earlier_laws [] (map bump in_order) tt) (λ t. omega (arith, times t, ascending_distinct cs up t)) in
      ap (all_inserted earlier []) raised_is
      ∙ strict_same earlier earlier_laws again (map bump cs) strict (strict_mapped bump (λ c. refl) cs up)
      (λ P ps. All-map P bump cs (all_out left_first (λ c. P (bump c)) [] cs (all_unmap P bump in_order (all_out earlier P [] (map bump in_order) ps).1)).1)
      (λ P ps. all_into earlier P [] (map bump in_order) tt (All-map P bump in_order (all_into left_first (λ c. P (bump c)) [] cs tt (all_unmap P bump cs ps))))
      ∙ sym (allotted_map (λ c. c.allotment + one_if (nat_lt (count (λ d. left_first d c) cs) n)) cs)
