-- What those who take part at a price show, and whether somebody does: sums and tests of a chain. Assumes nothing.
use Rattle.std.proofs.Common.{◌≡◌, ℕ, ◌^◌, ◌<◌, ◌≤◌, Bool, not, ◌&&◌, ltb, List, [], ◌∷◌, filter, Option, sym, refl, ap, ◌∙◌, arith}
use Rattle.std.specs.List.{sum_by, list_any}
use Rattle.std.proofs.lemmas.Bool.Decides.{nat_tests}
use Rattle.std.proofs.lemmas.List.Filters.{sum_by-filter_both}
use Rattle.sharing.specs.Totals.{total, count}
use Rattle.sharing.proofs.Shared.{total_sum}
use Rattle.rules.specs.declared.terms.Entry.{Entry}
use Rattle.rules.specs.declared.terms.Routed.{Routed}
use Rattle.rules.specs.Checks.{is_barred}
use Rattle.rules.specs.Level.{size_of}
use Rattle.rules.specs.Prices.{in_reach}
use Rattle.rules.specs.Walk.{available}
use Rattle.rules.proofs.Held.{held_kept}
use Rattle.matching.specs.Parts.{is_live, live, takes_part, shown_by}

-- a filter of a filter is one
pub kept_twice : {X : Type 0} (p q : X → Bool) (xs : List X) → filter q (filter p xs) ≡ filter (λ x. p x && q x) xs
kept_twice p q [] = refl
kept_twice p q (x ∷ xs) = grind (arith, nat_tests, kept_twice p q xs)

kept_less : (q : Entry → Bool) (es : List Entry) → total size_of (filter q es) ≤ total size_of es
kept_less q es = omega (arith, total_sum size_of es, total_sum size_of (filter q es), sum_by-filter_both q (λ e. not (q e)) (λ _. refl) size_of es)

pub shown_is : (t : Entry → Bool) (es : List Entry) → shown_by t es ≡ total size_of (filter t (live es))
shown_is t es = sym (total_sum size_of (filter (takes_part t) es)) ∙ ap (total size_of) (sym (kept_twice is_live t es))

pub shown_fits : (t : Entry → Bool) (es : List Entry) → total size_of (live es) < 2 ^ 32 → shown_by t es < 2 ^ 32
shown_fits t es few = omega (arith, shown_is t es, kept_less t (live es))

-- somebody takes part where the count is above 0
pub any_is : (t : Entry → Bool) (es : List Entry) → list_any (takes_part t) es ≡ ltb 0 (count t (live es))
any_is t [] = refl
any_is t (e ∷ es) = grind (arith, nat_tests, any_is t es)

-- an entry that an order can trade with
abbrev pub reachable : Routed → Option ℕ → Entry → Bool
reachable o away e = in_reach o.side o.cap away e.price && not (is_barred o.firm o.own_firm_mark e)

pub available_is : (o : Routed) (away : Option ℕ) (es : List Entry) → sum_by size_of (filter (reachable o away) es) ≡ available o away es
available_is o away es = sym (total_sum size_of (filter (reachable o away) es)) ∙ held_kept (reachable o away) es

pub available_fits : (o : Routed) (away : Option ℕ) (es : List Entry) → total size_of es < 2 ^ 32 → sum_by size_of (filter (reachable o away) es) < 2 ^ 32
available_fits o away es few = omega (arith, total_sum size_of (filter (reachable o away) es), kept_less (reachable o away) es)
