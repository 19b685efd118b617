-- What every lawful sharing leaves: claims that add up, and that a rule may be asked about again. Assumes nothing.
use Rattle.std.proofs.Common.{◌≡◌, ℕ, ◌+◌, ◌^◌, ◌<◌, ◌≤◌, min, List, [], ◌∷◌, map, length, refl, ap, ◌∙◌, arith}
use Rattle.std.specs.List.{AllByRecursion, sum_by}
use Rattle.std.proofs.lemmas.List.Elements.{length_all_zip}
use Rattle.std.proofs.lemmas.List.{length-map}
use Rattle.std.proofs.lemmas.List.Recursion.{is_sum_by}
use Rattle.sharing.specs.declared.claims.Claim.{Claim}
use Rattle.sharing.specs.Claims.{size_of, allotment_of, with_allotment, allotted, Ascending, Shareable}
use Rattle.sharing.specs.Sharing.{Sharing, Lawful}
use Rattle.sharing.specs.Totals.{total}
use Rattle.sharing.specs.Allotted.{total_few}
use Rattle.sharing.specs.ProRata.{sizes_small}

-- the contracts of all claims that a rule may be asked about
pub sizes_fit : (amount : ℕ) (cs : List Claim) → Shareable amount cs → total size_of cs < 2 ^ 32
sizes_fit amount cs ok = omega (arith, ok.few, total_few size_of 99999 cs (sizes_small cs ok.sized))

-- the sum as the library's iterators say it
pub total_sum : {X : Type 0} (f : X → ℕ) (xs : List X) → total f xs ≡ sum_by f xs
total_sum f xs = is_sum_by (total f) f refl (λ _ _. refl) xs

all_allotted : (P : Claim → Type 0) → ((n : ℕ) (c : Claim) → P c → P (with_allotment n c)) → (ns : List ℕ) (cs : List Claim) → AllByRecursion P cs → AllByRecursion P (allotted ns cs)
all_allotted P keeps [] cs ps = ps
all_allotted P keeps (n ∷ ns) [] ps = tt
all_allotted P keeps (n ∷ ns) (c ∷ cs) ps = (keeps n c ps.0, all_allotted P keeps ns cs ps.1)

ascending_allotted : (ns : List ℕ) (cs : List Claim) → Ascending cs → Ascending (allotted ns cs)
ascending_allotted [] cs up = up
ascending_allotted (n ∷ ns) [] up = tt
ascending_allotted (n ∷ ns) (c ∷ cs) up = (all_allotted (λ d. c.time < d.time) (λ m d later. later) ns cs up.0, ascending_allotted ns cs up.1)

length_allotted : (ns : List ℕ) (cs : List Claim) → length (allotted ns cs) ≡ length cs
length_allotted [] cs = refl
length_allotted (n ∷ ns) [] = refl
length_allotted (n ∷ ns) (c ∷ cs) = omega (arith, length_allotted ns cs)

pub shareable_again : (amount : ℕ) (ns : List ℕ) (cs : List Claim) → Shareable amount cs → Shareable amount (allotted ns cs)
shareable_again amount ns cs ok = record {
  few = omega (arith, length_allotted ns cs, ok.few);
  small = ok.small;
  sized = all_allotted (λ c. (1 ≤ c.size) × (c.size ≤ 99999)) (λ n c s. s) ns cs ok.sized;
  timed = ascending_allotted ns cs ok.timed;
}

total_allotted : (ns : List ℕ) (cs : List Claim) → length ns ≡ length cs → total allotment_of (allotted ns cs) ≡ total (λ n. n) ns
total_allotted [] [] long = refl
total_allotted [] (c ∷ cs) long = absurd (omega arith)
total_allotted (n ∷ ns) [] long = absurd (omega arith)
total_allotted (n ∷ ns) (c ∷ cs) long = ap (λ k. n + k) (total_allotted ns cs (omega arith))

-- each claim has its allotment
pub as_many : (s : Sharing) → Lawful s → (amount : ℕ) (cs : List Claim) → Shareable amount cs → length (s.allotments amount cs) ≡ length cs
as_many s laws amount cs ok = length_all_zip ◌≤◌ (s.allotments amount cs) (map size_of cs) (laws.within amount cs ok) ∙ length-map cs size_of

pub shared_total : (s : Sharing) → Lawful s → (amount : ℕ) (cs : List Claim) → Shareable amount cs → total allotment_of (allotted (s.allotments amount cs) cs) ≡ min amount (total size_of cs)
shared_total s laws amount cs ok =
    total_allotted (s.allotments amount cs) cs (as_many s laws amount cs ok)
    ∙ laws.adds_up amount cs ok
