-- What entries hold, and what a step takes of it. Assumes nothing.
use Rattle.std.proofs.Common.{◌≡◌, ℕ, ◌+◌, ◌-◌, ◌<◌, ◌≤◌, Bool, true, false, cond, eqb, List, [], ◌∷◌, map, length, filter, sym, refl, ◌∙◌, arith}
use Rattle.std.specs.List.{AllZip, AllByRecursion}
use Rattle.std.proofs.ByRecursion.{all_kept_by, kept_by_passes, All-map}
use Rattle.std.proofs.lemmas.Bool.Decides.{nat_tests}
use Rattle.std.proofs.lemmas.Bool.{cond_both}
use Rattle.std.proofs.lemmas.List.Sums.{length-filter, count_by-le-length}
use Rattle.ranked.proofs.Lists.{all_both}
use Rattle.sharing.specs.Totals.{total}
use Rattle.sharing.specs.Claims.{Ascending}
use Rattle.rules.specs.declared.tape.Step.{Step}
use Rattle.rules.specs.declared.terms.Entry.{Entry}
use Rattle.rules.specs.Laws.{traded_in, taken_from, ByTime}
use Rattle.rules.specs.Ranks.{class_of}
use Rattle.rules.proofs.LeftOver.{left_kept, left_given, all_left_of, length_left_of, by_time_left_of}
use Rattle.rules.specs.Level.{size_of, claim_of, first_or_0, but_first, spread, resized, left_after, fills}

-- the contracts of the entries that pass a test
abbrev pub held : (Entry → Bool) → List Entry → ℕ
held q es = total (λ e. cond (q e) e.size 0) es

-- what those entries gave
abbrev pub given_by : (Entry → Bool) → List ℕ → List Entry → ℕ
given_by q [] es = 0
given_by q (n ∷ ns) [] = 0
given_by q (n ∷ ns) (e ∷ es) = cond (q e) n 0 + given_by q ns es

pub held_kept : (q : Entry → Bool) (es : List Entry) → total size_of (filter q es) ≡ held q es
held_kept q [] = refl
held_kept q (e ∷ es) = grind (arith, nat_tests, held_kept q es)

module _ (q : Entry → Bool) (steady : (n : ℕ) (e : Entry) → q (resized n e) ≡ q e) where
  pub held_left : (ns : List ℕ) (es : List Entry) → AllZip ◌≤◌ ns (map size_of es) → held q (left_after ns es) + given_by q ns es ≡ held q es
  held_left [] [] le = refl
  held_left [] (e ∷ es) le = absurd le
  held_left (n ∷ ns) [] le = absurd le
  held_left (n ∷ ns) (e ∷ es) le = grind (arith, nat_tests, steady (e.size - n) e, le.0, held_left ns es le.1)

-- a step gives only to entries that pass its test
pub given_away : (test q : Entry → Bool) → ((e : Entry) → test e ≡ true → q e ≡ false) → (ns : List ℕ) (es : List Entry) → given_by q (spread test ns es) es ≡ 0
given_away test q apart ns [] = refl
given_away test q apart ns (e ∷ es) = grind (arith, nat_tests, apart e, given_away test q apart (but_first ns) es, given_away test q apart ns es)

-- and to those that pass any wider test it gives all
pub given_within : (test q : Entry → Bool) → ((e : Entry) → test e ≡ true → q e ≡ true) → (ns : List ℕ) (es : List Entry) → length ns ≡ length (filter test es) → given_by q (spread test ns es) es ≡ total (λ n. n) ns
given_within test q wider [] [] long = refl
given_within test q wider (n ∷ ns) [] long = absurd (omega arith)
given_within test q wider [] (e ∷ es) long = grind (arith, nat_tests, wider e, given_within test q wider [] es)
given_within test q wider (n ∷ ns) (e ∷ es) long = grind (arith, nat_tests, wider e, given_within test q wider ns es, given_within test q wider (n ∷ ns) es)

-- no entry gives more than it has
pub spread_within : (test : Entry → Bool) (ns : List ℕ) (es : List Entry) → AllZip ◌≤◌ ns (map size_of (filter test es)) → AllZip ◌≤◌ (spread test ns es) (map size_of es)
spread_within test ns [] le = tt
spread_within test ns (e ∷ es) le =
    elim (test e) as (λ b. AllZip ◌≤◌ ns (map size_of (cond b (e ∷ filter test es) (filter test es))) → AllZip ◌≤◌ (cond b (first_or_0 ns ∷ spread test (but_first ns) es) (0 ∷ spread test ns es)) (map size_of (e ∷ es))) [
      | true ↦ λ l. taken (λ ms m. spread_within test ms es m) ns l
      | false ↦ λ l. (omega arith, spread_within test ns es l)
    ] le
  where
    taken : ((ms : List ℕ) → AllZip ◌≤◌ ms (map size_of (filter test es)) → AllZip ◌≤◌ (spread test ms es) (map size_of es)) → (ms : List ℕ) → AllZip ◌≤◌ ms (map size_of (e ∷ filter test es)) → AllZip ◌≤◌ (first_or_0 ms ∷ spread test (but_first ms) es) (map size_of (e ∷ es))
    taken more [] l = absurd l
    taken more (m ∷ ms) l = (l.0, more ms l.1)

-- the fills of a step are what was given
pub total_fills : (k : Step) (ns : List ℕ) (es : List Entry) → length ns ≡ length es → total traded_in (fills k ns es) ≡ given_by (λ _. true) ns es
total_fills k [] es long = refl
total_fills k (n ∷ ns) [] long = absurd (omega arith)
total_fills k (n ∷ ns) (e ∷ es) long = grind (arith, nat_tests, total_fills k ns es (omega arith))

-- and of each entry they take what it gave
pub taken_fills : (i : ℕ) (k : Step) (ns : List ℕ) (es : List Entry) → length ns ≡ length es → total (taken_from i) (fills k ns es) ≡ given_by (λ e. eqb e.id i) ns es
taken_fills i k [] es long = refl
taken_fills i k (n ∷ ns) [] long = absurd (omega arith)
taken_fills i k (n ∷ ns) (e ∷ es) long = grind (arith, nat_tests, taken_fills i k ns es (omega arith))

-- what a test keeps of the entries, and of what is left of them
pub all_left : (P : Entry → Type 0) → ((n : ℕ) (e : Entry) → P e → P (resized n e)) → (ns : List ℕ) (es : List Entry) → AllByRecursion P es → AllByRecursion P (left_after ns es)
all_left P keeps ns es = all_left_of P (λ n e one le. keeps n e) (left_given ns es)

-- a size that an entry may have
abbrev pub Sized : Entry → Type 0
Sized e = (1 ≤ e.size) × (e.size ≤ 99999)

pub sized_left : (ns : List ℕ) (es : List Entry) → AllByRecursion Sized es → AllByRecursion Sized (left_after ns es)
sized_left ns es = all_left_of Sized (λ n e one le h. (one, omega (arith, h.1))) (left_given ns es)

pub length_left : (ns : List ℕ) (es : List Entry) → length (left_after ns es) ≤ length es
length_left ns es = length_left_of (left_given ns es)

pub by_time_left : (ns : List ℕ) (es : List Entry) → ByTime es → ByTime (left_after ns es)
by_time_left ns es = by_time_left_of (left_given ns es)

-- filters
pub by_time_kept : (p : Entry → Bool) (es : List Entry) → ByTime es → ByTime (filter p es)
by_time_kept p es = by_time_left_of (left_kept p es)

pub length_kept : {X : Type 0} (p : X → Bool) (es : List X) → length (filter p es) ≤ length es
length_kept p es = omega (arith, length-filter p es, count_by-le-length p es)

-- entries of one class claim in the order of their times
pub ascending_kept : (p : Entry → Bool) (k : ℕ) → ((e : Entry) → p e ≡ true → class_of e ≡ k) → (es : List Entry) → ByTime es → Ascending (map claim_of (filter p es))
ascending_kept p k one [] s = tt
ascending_kept p k one (e ∷ es) s =
    cond_both (p e) (e ∷ filter p es) (filter p es) (λ l. Ascending (map claim_of l))
    (λ yes. (
      All-map (λ c. e.time < c.time) claim_of (filter p es)
          (all_both (λ f. class_of e ≡ class_of f → e.time < f.time) (λ f. p f ≡ true) (λ f. e.time < f.time) (λ f later passes. later (one e yes ∙ sym (one f passes)))
          (filter p es) (all_kept_by p (λ f. class_of e ≡ class_of f → e.time < f.time) es s.0) (kept_by_passes p es)),
      ascending_kept p k one es s.1,
    ))
    (λ _. ascending_kept p k one es s.1)
