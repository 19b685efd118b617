-- Size pro rata: what rounding leaves over, and its laws. Assumes nothing.
use Rattle.std.specs.Prelude.{◌≡◌, ℕ, ◌+◌, ◌-◌, ◌*◌, ◌/◌, ◌<◌, ◌≤◌, min, Bool, true, false, cond, List, [], ◌∷◌, map, length, get_or, nat_le, nat_lt, slice_index, slice_index_or, refl}
use Rattle.std.proofs.Common.{sym, ◌∙◌, add-mul, mul-add, mul_comm, div-mul-le_self, le_of_lt, mul-le-mul_right, le_of_mul-le-mul_right, arith}
use Rattle.std.proofs.Math.Path.{ap, subst}
use mathlib.Core.List.{map-map}
use Rattle.std.proofs.Math.Nat.{div-le_of_le-mul, mul-lt-mul_of_pos_left}
use Rattle.std.specs.List.{AllZip, AllByRecursion}
use Rattle.std.proofs.lemmas.Nat.{div-add-mod', mod_below, div_below}
use Rattle.std.proofs.ByRecursion.{All-weaker, All-map}
use Rattle.std.proofs.lemmas.List.{length-map, get_or-map}
use Rattle.std.proofs.lemmas.Bool.{cond_both, cond-true, cond-false, leb-true, leb-false, le-leb, lt-leb}
use Rattle.sharing.specs.declared.claims.Claim.{Claim}
use Rattle.sharing.specs.Claims.{size_of, with_allotment, allotted, Ascending, Shareable, remaining, larger_then_earlier}
use Rattle.sharing.specs.Rules.{part, parts, topped, topped_parts, size_pro_rata}
use Rattle.sharing.specs.Sharing.{Lawful}
use Rattle.sharing.specs.Totals.{one_if, total, count}
use Rattle.sharing.specs.ToppedUp.{total_map, allotted_map, total_topped}
use Rattle.sharing.specs.Allotted.{no_claim, allotted_to, unwritten, each_refl}

pub each_map : {X : Type 0} (f g : X → ℕ) (xs : List X) → AllByRecursion (λ x. f x ≤ g x) xs → AllZip ◌≤◌ (map f xs) (map g xs)
each_map f g [] le = tt
each_map f g (x ∷ xs) le = (le.0, each_map f g xs le.1)

one_if_small : (b : Bool) → one_if b ≤ 1
one_if_small true = omega arith
one_if_small false = omega arith

-- a part is no more than its size
pub part_within : (amount all n : ℕ) → part amount all n ≤ n
part_within amount all n =
    cond_both (nat_le all amount) n (amount * n / all) (λ k. k ≤ n)
    (λ _. omega arith)
    (λ short. let lt = leb-false all amount short in div-le_of_le-mul all (mul-le-mul_right n (le_of_lt lt)))

-- where the amount does not cover all sizes, each part is a quotient, below its size
pub part_short : (amount all n : ℕ) → amount < all → part amount all n ≡ amount * n / all
part_short amount all n lt = cond-false (nat_le all amount) n (amount * n / all) (lt-leb all amount lt)

pub part_below : (amount all n : ℕ) → amount < all → 1 ≤ n → part amount all n < n
part_below amount all n lt some =
    let product = mul-lt-mul_of_pos_left {m = amount} {n = all} {k = n} lt some in
    omega (arith, part_short amount all n lt, div_below (amount * n) all n (omega arith) (omega (arith, mul_comm amount n)))

module _ (amount all : ℕ) (some : 0 < all) where
  -- the quotients leave less than one contract a claim
  quotients_low : (cs : List Claim) → total (λ c. amount * c.size / all) cs * all ≤ amount * total size_of cs
  quotients_low [] = omega arith
  quotients_low (c ∷ cs) = omega (arith, quotients_low cs, add-mul (amount * c.size / all) (total (λ d. amount * d.size / all) cs) all, mul-add amount c.size (total size_of cs), div-mul-le_self (amount * c.size) all)

  quotients_high : (cs : List Claim) → amount * total size_of cs ≤ (total (λ c. amount * c.size / all) cs + length cs) * all
  quotients_high [] = omega arith
  quotients_high (c ∷ cs) =
      omega (arith, quotients_high cs, add-mul (amount * c.size / all) (total (λ d. amount * d.size / all) cs) all, mul-add amount c.size (total size_of cs), div-add-mod' (amount * c.size) all, mod_below (amount * c.size) all some)

pub length_parts : (amount : ℕ) (cs : List Claim) → length (parts amount cs) ≡ length cs
length_parts amount cs = length-map cs (λ c. part amount (total size_of cs) c.size)

pub parts_at : (amount : ℕ) (cs : List Claim) (i : ℕ) → i < length cs → slice_index (parts amount cs) i ≡ part amount (total size_of cs) (get_or cs i no_claim).size
parts_at amount cs i in' = get_or-map (λ c. part amount (total size_of cs) c.size) cs i no_claim 0 in'

-- at the turn i of the loop that writes the parts, the part of the claim that is read is that claim's
pub part_read : (amount all : ℕ) (cs ds : List Claim) (i n : ℕ) → all ≡ total size_of cs → ds ≡ allotted_to (parts amount cs) cs i → i < length cs → n ≡ part amount all (size_of (slice_index_or ds i no_claim)) → n ≡ slice_index (parts amount cs) i
part_read amount all cs ds i n whole state in' value =
    let read = unwritten (parts amount cs) cs ds i state in' (length_parts amount cs) in
    value ∙ (λ t. part amount (whole t) (size_of (read t))) ∙ sym (parts_at amount cs i in')

pub sizes_small : (cs : List Claim) → AllByRecursion (λ c. (1 ≤ c.size) × (c.size ≤ 99999)) cs → AllByRecursion (λ c. size_of c ≤ 99999) cs
sizes_small cs sized = All-weaker (λ c. (1 ≤ c.size) × (c.size ≤ 99999)) (λ c. size_of c ≤ 99999) (λ c s. s.1) cs sized

pub parts_bounded : (amount : ℕ) (cs : List Claim) → AllByRecursion (λ c. (1 ≤ c.size) × (c.size ≤ 99999)) cs → AllByRecursion (λ n. n ≤ 99999) (parts amount cs)
parts_bounded amount cs sized =
    All-map (λ n. n ≤ 99999) (λ c. part amount (total size_of cs) c.size) cs
    (All-weaker (λ c. (1 ≤ c.size) × (c.size ≤ 99999)) (λ c. part amount (total size_of cs) c.size ≤ 99999) (λ c s. omega (arith, part_within amount (total size_of cs) c.size)) cs sized)

-- the amount covers all sizes: the parts are the sizes
pub parts_covered : (amount : ℕ) (cs : List Claim) → total size_of cs ≤ amount → parts amount cs ≡ map size_of cs
parts_covered amount cs covers = ap (λ (f : Claim → ℕ). map f cs) (λ t c. cond-true (nat_le (total size_of cs) amount) c.size (amount * c.size / total size_of cs) (le-leb (total size_of cs) amount covers) t)

-- it does not: the parts leave less than one contract a claim
module _ (amount : ℕ) (cs : List Claim) (short : amount < total size_of cs) where
  quotients : total (λ n. n) (parts amount cs) ≡ total (λ c. amount * c.size / total size_of cs) cs
  quotients =
      total_map (λ c. part amount (total size_of cs) c.size) (λ n. n) cs
      ∙ ap (λ (f : Claim → ℕ). total f cs) (λ t c. part_short amount (total size_of cs) c.size short t)

  pub parts_low : total (λ n. n) (parts amount cs) ≤ amount
  parts_low = omega (arith, quotients, le_of_mul-le-mul_right (quotients_low amount (total size_of cs) (omega arith) cs) (omega arith))

  pub parts_high : amount ≤ total (λ n. n) (parts amount cs) + length cs
  parts_high = omega (arith, quotients, le_of_mul-le-mul_right (quotients_high amount (total size_of cs) (omega arith) cs) (omega arith))

-- the claims with their parts allotted
abbrev floored : ℕ → List Claim → Claim → Claim
floored amount cs c = with_allotment (part amount (total size_of cs) c.size) c

pub with_parts : (amount : ℕ) (cs : List Claim) → allotted (parts amount cs) cs ≡ map (floored amount cs) cs
with_parts amount cs = allotted_map (λ c. part amount (total size_of cs) c.size) cs

ascending_map : (f : Claim → Claim) → ((c : Claim) → (f c).time ≡ c.time) → (cs : List Claim) → Ascending cs → Ascending (map f cs)
ascending_map f same [] up = tt
ascending_map f same (c ∷ cs) up =
    (All-map (λ d. (f c).time < d.time) f cs (All-weaker (λ d. c.time < d.time) (λ d. (f c).time < (f d).time) (λ d lt. omega (arith, same c, same d)) cs up.0), ascending_map f same cs up.1)

module _ (amount : ℕ) (cs : List Claim) (ok : Shareable amount cs) where
  pub parts_ascending : Ascending (allotted (parts amount cs) cs)
  parts_ascending = subst Ascending (sym (with_parts amount cs)) (ascending_map (floored amount cs) (λ c. refl) cs ok.timed)

  pub parts_small : amount < total size_of cs → AllByRecursion (λ c. c.allotment < 99999) (allotted (parts amount cs) cs)
  parts_small short =
      subst (AllByRecursion (λ c. c.allotment < 99999)) (sym (with_parts amount cs))
      (All-map (λ c. c.allotment < 99999) (floored amount cs) cs
      (All-weaker (λ c. (1 ≤ c.size) × (c.size ≤ 99999)) (λ c. part amount (total size_of cs) c.size < 99999) (λ c sized. omega (arith, part_below amount (total size_of cs) c.size short sized.0)) cs ok.sized))

  pub parts_length : length (allotted (parts amount cs) cs) ≡ length cs
  parts_length = ap length (with_parts amount cs) ∙ length-map cs (floored amount cs)

  -- what is topped up, claim by claim
  extra : ℕ
  extra = amount - total (λ n. n) (parts amount cs)

  more : Claim → ℕ
  more c = part amount (total size_of cs) c.size + one_if (nat_lt (count (λ d. larger_then_earlier (remaining d) (remaining (floored amount cs c))) (allotted (parts amount cs) cs)) extra)

  topped_is : topped_parts amount cs ≡ map more cs
  unfolding extra more
  topped_is =
      ap (map (λ c. c.allotment + one_if (nat_lt (count (λ d. larger_then_earlier (remaining d) (remaining c)) (allotted (parts amount cs) cs)) extra))) (with_parts amount cs)
      ∙ map-map (λ c. c.allotment + one_if (nat_lt (count (λ d. larger_then_earlier (remaining d) (remaining c)) (allotted (parts amount cs) cs)) extra)) (floored amount cs) cs

  pro_rata_sum : total (λ n. n) (size_pro_rata.allotments amount cs) ≡ min amount (total size_of cs)
  pro_rata_sum =
      cond_both (nat_le (total size_of cs) amount) (parts amount cs) (topped_parts amount cs) (λ ns. total (λ n. n) ns ≡ min amount (total size_of cs))
      (λ yes. let covers = leb-true (total size_of cs) amount yes in ap (total (λ n. n)) (parts_covered amount cs covers) ∙ total_map size_of (λ n. n) cs ∙ omega arith)
      (λ no.
      let short = leb-false (total size_of cs) amount no in
      let allotments = ap (total (λ c. c.allotment)) (with_parts amount cs) ∙ total_map (floored amount cs) (λ c. c.allotment) cs ∙ sym (total_map (λ c. part amount (total size_of cs) c.size) (λ n. n) cs) in
      total_topped (amount - total (λ n. n) (parts amount cs)) (allotted (parts amount cs) cs) parts_ascending
      ∙ omega (arith, allotments, parts_length, parts_low amount cs short, parts_high amount cs short))

  pro_rata_within : AllZip ◌≤◌ (size_pro_rata.allotments amount cs) (map size_of cs)
  unfolding more
  pro_rata_within =
      cond_both (nat_le (total size_of cs) amount) (parts amount cs) (topped_parts amount cs) (λ ns. AllZip ◌≤◌ ns (map size_of cs))
      (λ _. each_map (λ c. part amount (total size_of cs) c.size) size_of cs (All-weaker (λ c. (1 ≤ c.size) × (c.size ≤ 99999)) (λ c. part amount (total size_of cs) c.size ≤ c.size) (λ c _. part_within amount (total size_of cs) c.size) cs ok.sized))
      (λ no.
      let short = leb-false (total size_of cs) amount no in
      subst (λ ns. AllZip ◌≤◌ ns (map size_of cs)) (sym topped_is)
      (each_map more size_of cs (All-weaker (λ c. (1 ≤ c.size) × (c.size ≤ 99999)) (λ c. more c ≤ c.size) (λ c sized. omega (arith, part_below amount (total size_of cs) c.size short sized.0, one_if_small (nat_lt (count (λ d. larger_then_earlier (remaining d) (remaining (floored amount cs c))) (allotted (parts amount cs) cs)) extra))) cs ok.sized)))

  pro_rata_above : AllZip ◌≤◌ (parts amount cs) (size_pro_rata.allotments amount cs)
  unfolding more
  pro_rata_above =
      cond_both (nat_le (total size_of cs) amount) (parts amount cs) (topped_parts amount cs) (AllZip ◌≤◌ (parts amount cs))
      (λ _. each_refl (parts amount cs))
      (λ _. subst (AllZip ◌≤◌ (parts amount cs)) (sym topped_is) (each_map (λ c. part amount (total size_of cs) c.size) more cs (All-weaker (λ c. (1 ≤ c.size) × (c.size ≤ 99999)) (λ c. part amount (total size_of cs) c.size ≤ more c) (λ c _. omega arith) cs ok.sized)))

-- the sizes are what they were, whatever is allotted
map_allotted : (f : ℕ → ℕ) (old : List ℕ) (cs : List Claim) → map (λ c. f c.size) (allotted old cs) ≡ map (λ c. f c.size) cs
map_allotted f [] cs = refl
map_allotted f (n ∷ old) [] = refl
map_allotted f (n ∷ old) (c ∷ cs) = ap (λ l. f c.size ∷ l) (map_allotted f old cs)

total_allotted : (old : List ℕ) (cs : List Claim) → total size_of (allotted old cs) ≡ total size_of cs
total_allotted [] cs = refl
total_allotted (n ∷ old) [] = refl
total_allotted (n ∷ old) (c ∷ cs) = ap (λ k. c.size + k) (total_allotted old cs)

pub parts_fixed : (amount : ℕ) (old : List ℕ) (cs : List Claim) → parts amount (allotted old cs) ≡ parts amount cs
parts_fixed amount old cs = ap (λ all. map (λ c. part amount all c.size) (allotted old cs)) (total_allotted old cs) ∙ map_allotted (part amount (total size_of cs)) old cs

pub allotted_twice : (ns old : List ℕ) (cs : List Claim) → length cs ≤ length ns → allotted ns (allotted old cs) ≡ allotted ns cs
allotted_twice ns [] cs long = refl
allotted_twice [] (n ∷ old) [] long = refl
allotted_twice (m ∷ ns) (n ∷ old) [] long = refl
allotted_twice [] (n ∷ old) (c ∷ cs) long = absurd (omega arith)
allotted_twice (m ∷ ns) (n ∷ old) (c ∷ cs) long = ap (λ l. with_allotment m c ∷ l) (allotted_twice ns old cs (omega arith))

-- topped up over their parts, the claims have what the rule means
pub topped_over : (amount : ℕ) (cs : List Claim) → Shareable amount cs → amount < total size_of cs → allotted (topped_parts amount cs) (allotted (parts amount cs) cs) ≡ allotted (size_pro_rata.allotments amount cs) cs
topped_over amount cs ok short =
    let f : Claim → ℕ = λ c. c.allotment + one_if (nat_lt (count (λ d. larger_then_earlier (remaining d) (remaining c)) (allotted (parts amount cs) cs)) (amount - total (λ n. n) (parts amount cs))) in
    allotted_twice (topped_parts amount cs) (parts amount cs) cs (omega (arith, length-map (allotted (parts amount cs) cs) f, parts_length amount cs ok))
    ∙ ap (λ ns. allotted ns cs) (sym (cond-false (nat_le (total size_of cs) amount) (parts amount cs) (topped_parts amount cs) (lt-leb (total size_of cs) amount short)))

pro_rata_fixed : (amount : ℕ) (cs : List Claim) (old : List ℕ) → size_pro_rata.allotments amount (allotted old cs) ≡ size_pro_rata.allotments amount cs
pro_rata_fixed amount cs old =
    let same = parts_fixed amount old cs in
    let claims : allotted (parts amount (allotted old cs)) (allotted old cs) ≡ allotted (parts amount cs) cs =
    ap (λ ns. allotted ns (allotted old cs)) same ∙ allotted_twice (parts amount cs) old cs (omega (arith, length_parts amount cs)) in
    λ t. cond (nat_le (total_allotted old cs t) amount) (same t) (topped (amount - total (λ n. n) (same t)) (claims t))

pub size_pro_rata_lawful : Lawful size_pro_rata
size_pro_rata_lawful = record {
  adds_up = pro_rata_sum;
  within = pro_rata_within;
  above = pro_rata_above;
  fixed = λ amount cs old _. (pro_rata_fixed amount cs old, parts_fixed amount old cs);
}
