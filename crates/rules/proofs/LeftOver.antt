-- What is left of entries: it is shorter, counts no more, and keeps what does not hang on sizes. Assumes nothing.
use Rattle.std.proofs.Common.{◌≡◌, ℕ, ◌-◌, ◌<◌, ◌≤◌, Bool, ltb, List, [], ◌∷◌, ◌++◌, length, filter, ap, arith}
use Rattle.std.specs.List.{AllByRecursion}
use Rattle.std.proofs.ByRecursion.{All-weaker}
use Rattle.std.proofs.lemmas.Bool.{cond_both, ltb-true}
use Rattle.sharing.specs.Totals.{one_if, count}
use Rattle.rules.specs.declared.terms.Entry.{Entry}
use Rattle.rules.specs.Laws.{ByTime, LeftOf}
use Rattle.rules.specs.Laws.LeftOf.{none, gone, same, fewer}
use Rattle.rules.specs.Level.{resized, left_after}
use Rattle.rules.specs.Ranks.{class_of}

pub left_refl : (es : List Entry) → LeftOf es es
left_refl [] = none
left_refl (e ∷ es) = same (left_refl es)

pub left_trans : {es fs gs : List Entry} → LeftOf es fs → LeftOf fs gs → LeftOf es gs
left_trans none h = h
left_trans (gone g) h = gone (left_trans g h)
left_trans (same g) (gone h) = gone (left_trans g h)
left_trans (same g) (same h) = same (left_trans g h)
left_trans (same g) (fewer n one le h) = fewer n one le (left_trans g h)
left_trans (fewer n one le g) (gone h) = gone (left_trans g h)
left_trans (fewer n one le g) (same h) = fewer n one le (left_trans g h)
left_trans (fewer n one le g) (fewer m one' le' h) = fewer m one' (omega arith) (left_trans g h)

pub left_append : {es fs gs hs : List Entry} → LeftOf es fs → LeftOf gs hs → LeftOf (es ++ gs) (fs ++ hs)
left_append none h = h
left_append (gone g) h = gone (left_append g h)
left_append (same g) h = same (left_append g h)
left_append (fewer n one le g) h = fewer n one le (left_append g h)

pub left_kept : (p : Entry → Bool) (es : List Entry) → LeftOf es (filter p es)
left_kept p [] = none
left_kept p (e ∷ es) = cond_both (p e) (e ∷ filter p es) (filter p es) (LeftOf (e ∷ es)) (λ _. same (left_kept p es)) (λ _. gone (left_kept p es))

pub left_given : (ns : List ℕ) (es : List Entry) → LeftOf es (left_after ns es)
left_given [] es = left_refl es
left_given (n ∷ ns) [] = none
left_given (n ∷ ns) (e ∷ es) =
    cond_both (ltb n e.size) (resized (e.size - n) e ∷ left_after ns es) (left_after ns es) (LeftOf (e ∷ es))
    (λ lt. let h = ltb-true n e.size lt in fewer (e.size - n) (omega arith) (omega arith) (left_given ns es))
    (λ _. gone (left_given ns es))

-- what holds of each entry, whatever it holds, holds of each that is left
pub all_left_of : (P : Entry → Type 0) → ((n : ℕ) (e : Entry) → 1 ≤ n → n ≤ e.size → P e → P (resized n e)) → {es fs : List Entry} → LeftOf es fs → AllByRecursion P es → AllByRecursion P fs
all_left_of P keeps none ps = tt
all_left_of P keeps (gone g) ps = all_left_of P keeps g ps.1
all_left_of P keeps (same g) ps = (ps.0, all_left_of P keeps g ps.1)
all_left_of P keeps (fewer {e} n one le g) ps = (keeps n e one le ps.0, all_left_of P keeps g ps.1)

pub length_left_of : {es fs : List Entry} → LeftOf es fs → length fs ≤ length es
length_left_of none = omega arith
length_left_of (gone g) = omega (arith, length_left_of g)
length_left_of (same g) = omega (arith, length_left_of g)
length_left_of (fewer n one le g) = omega (arith, length_left_of g)

-- each entry stands in a relation to all behind it, as in ByTime and InRank
abbrev pub EachToLater : (Entry → Entry → Type 0) → List Entry → Type 0
EachToLater R [] = Unit {0}
EachToLater R (e ∷ es) = AllByRecursion (R e) es × EachToLater R es

-- a relation that does not look at sizes stays
pub each_left_of : (R : Entry → Entry → Type 0) → ((n : ℕ) (e f : Entry) → R e f → R (resized n e) f × R e (resized n f)) → {es fs : List Entry} → LeftOf es fs → EachToLater R es → EachToLater R fs
each_left_of R keeps none r = tt
each_left_of R keeps (gone g) r = each_left_of R keeps g r.1
each_left_of R keeps (same {e} g) r = (all_left_of (R e) (λ n f one le h. (keeps n e f h).1) g r.0, each_left_of R keeps g r.1)
each_left_of R keeps (fewer {e} n one le g) r =
    (all_left_of (R (resized n e)) (λ m f one' le' h. (keeps m (resized n e) f h).1) g (All-weaker (R e) (R (resized n e)) (λ f h. (keeps n e f h).0) _ r.0), each_left_of R keeps g r.1)

pub by_time_left_of : {es fs : List Entry} → LeftOf es fs → ByTime es → ByTime fs
by_time_left_of g s = each_left_of (λ e f. class_of e ≡ class_of f → e.time < f.time) (λ n e f h. (h, h)) g s

-- a test that does not look at sizes passes no more of what is left
pub count_left : (q : Entry → Bool) → ((n : ℕ) (e : Entry) → q (resized n e) ≡ q e) → {es fs : List Entry} → LeftOf es fs → count q fs ≤ count q es
count_left q steady none = omega arith
count_left q steady (gone g) = omega (arith, count_left q steady g)
count_left q steady (same g) = omega (arith, count_left q steady g)
count_left q steady (fewer {e} n one le g) = omega (arith, count_left q steady g, ap one_if (steady n e))
