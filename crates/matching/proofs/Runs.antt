-- The first run of entries: those at the front that have the first one's price. Assumes nothing.
use Rattle.std.proofs.Common.{◌≡◌, ℕ, suc, ◌+◌, ◌<◌, false, eqb, List, [], ◌∷◌, length, get_or, take, drop, sym, refl, ap, ◌∙◌, arith}
use Rattle.std.specs.List.{prefix_len}
use Rattle.std.proofs.lemmas.Bool.Decides.{nat_tests}
use Rattle.std.proofs.lemmas.Bool.{cond_both, cond-true, eq-eqb, eqb-true, ne_eqb, false≢true}
use Rattle.rules.specs.declared.terms.Entry.{Entry}
use Rattle.rules.specs.Walk.{into_runs, runs}
use Rattle.rules.proofs.Defaults.{no_entry}

-- an entry in front of one with another price is a run of its own
into_apart : (e f : Entry) (rs : List (List Entry)) → eqb e.price f.price ≡ false → into_runs e (into_runs f rs) ≡ (e ∷ []) ∷ into_runs f rs
into_apart e f [] apart = grind (arith, nat_tests)
into_apart e f ([] ∷ rs) apart = grind (arith, nat_tests)
into_apart e f ((g ∷ gs) ∷ rs) apart = grind (arith, nat_tests)

-- how many entries at the front have a price
abbrev pub level : ℕ → List Entry → ℕ
level p es = prefix_len (λ f. eqb f.price p) es

-- behind an entry of a price, those of that price at the front are in its run
run_behind : (p : ℕ) (e : Entry) (xs : List Entry) → e.price ≡ p → runs (e ∷ xs) ≡ (e ∷ take (level p xs) xs) ∷ runs (drop (level p xs) xs)
run_behind p e [] price = refl
run_behind p e (x ∷ xs) price =
    cond_both (eqb x.price p) (1 + level p xs) 0 (λ n. runs (e ∷ x ∷ xs) ≡ (e ∷ take n (x ∷ xs)) ∷ runs (drop n (x ∷ xs)))
    (λ yes.
    let same = eqb-true x.price p yes in
    ap (into_runs e) (run_behind p x xs same)
    ∙ cond-true (eqb e.price x.price) _ _ (eq-eqb e.price x.price (price ∙ sym same))
    ∙ (λ t. (e ∷ take (one (level p xs) t) (x ∷ xs)) ∷ runs (drop (one (level p xs) t) (x ∷ xs))))
    (λ no. into_apart e x (runs xs) (ne_eqb e.price x.price (λ h. false≢true (sym no ∙ eq-eqb x.price p (sym h ∙ price)))))
  where
    one : (n : ℕ) → suc n ≡ 1 + n
    one n = omega arith

pub first_run : (es : List Entry) → 0 < length es → let n = level (get_or es 0 no_entry).price es in runs es ≡ take n es ∷ runs (drop n es)
first_run [] some = absurd (omega arith)
first_run (e ∷ es) some =
    run_behind e.price e es refl
    ∙ (λ t. take (one t) (e ∷ es) ∷ runs (drop (one t) (e ∷ es)))
  where
    one : suc (level e.price es) ≡ level e.price (e ∷ es)
    one = let here = cond-true (eqb e.price e.price) (1 + level e.price es) 0 (eq-eqb e.price e.price refl) in omega (arith, here)
