-- One price as five rounds over the entries that stood there. Assumes nothing.
use Rattle.std.proofs.Common.{◌≡◌, ℕ, ◌-◌, Bool, true, false, cond, ltb, ◌⊎◌, List, [], ◌∷◌, ◌++◌, map, length, Some, None, filter, Option, sym, refl, ap, ◌∙◌, inl, inr, ⊎_elim, arith}
use Rattle.std.specs.List.{AllByRecursion}
use Rattle.std.proofs.lemmas.Bool.Decides.{nat_tests}
use Rattle.std.proofs.lemmas.Bool.{cond_both, lt-ltb, cases_Bool}
use Rattle.sharing.specs.Sharing.{Sharing}
use Rattle.sharing.specs.Totals.{total, count}
use Rattle.rules.specs.declared.tape.Line.{Line}
use Rattle.rules.specs.declared.tape.Line.TheVariants.{Fill}
use Rattle.rules.specs.declared.tape.Step.{Step}
use Rattle.rules.specs.declared.terms.Entry.{Entry}
use Rattle.rules.specs.Level.{claim_of, first_or_0, but_first, spread, resized, left_after, fills, Deal, step, quote_of, specialist, in_group}
use Rattle.rules.proofs.Held.{Sized, sized_left}

pub kept_same : {X : Type 0} (p q : X → Bool) (xs : List X) → AllByRecursion (λ x. p x ≡ q x) xs → filter p xs ≡ filter q xs
kept_same p q [] same = refl
kept_same p q (x ∷ xs) same = λ t. cond (same.0 t) (x ∷ kept_same p q xs same.1 t) (kept_same p q xs same.1 t)

-- where none passes, none is kept
pub none_pass : {X : Type 0} (q : X → Bool) (xs : List X) → AllByRecursion (λ x. q x ≡ false) xs → filter q xs ≡ []
none_pass q [] h = refl
none_pass q (x ∷ xs) h = (λ t. cond (h.0 t) (x ∷ filter q xs) (filter q xs)) ∙ none_pass q xs h.1

-- the lines of a step are those of the entries that pass its test
fills_spread : (k : Step) (test : Entry → Bool) (ns : List ℕ) (es : List Entry) → length ns ≡ length (filter test es) → fills k (spread test ns es) es ≡ fills k ns (filter test es)
fills_spread k test [] [] long = refl
fills_spread k test (n ∷ ns) [] long = refl
fills_spread k test ns (e ∷ es) long =
    elim (test e) as (λ b. length ns ≡ length (cond b (e ∷ filter test es) (filter test es)) → fills k (cond b (first_or_0 ns ∷ spread test (but_first ns) es) (0 ∷ spread test ns es)) (e ∷ es) ≡ fills k ns (cond b (e ∷ filter test es) (filter test es))) [
      | true ↦ λ l. taken (λ ms m. fills_spread k test ms es m) ns l
      | false ↦ λ l. fills_spread k test ns es l
    ] long
  where
    taken : ((ms : List ℕ) → length ms ≡ length (filter test es) → fills k (spread test ms es) es ≡ fills k ms (filter test es)) → (ms : List ℕ) → length ms ≡ length (e ∷ filter test es) → fills k (first_or_0 ms ∷ spread test (but_first ms) es) (e ∷ es) ≡ fills k ms (e ∷ filter test es)
    taken more [] l = absurd (omega arith)
    taken more (m ∷ ms) l = ap (λ x. cond (ltb 0 m) (Fill e.id e.firm m e.price k ∷ x) x) (more ms (omega arith))

abbrev pub Steady : (Entry → Bool) → Type 0
Steady q = (n : ℕ) (e : Entry) → q (resized n e) ≡ q e

-- entries that are not in a step stay as they are
kept_left : (test q : Entry → Bool) → Steady q → ((e : Entry) → test e ≡ true → q e ≡ false) → (ns : List ℕ) (es : List Entry) → AllByRecursion Sized es → filter q (left_after (spread test ns es) es) ≡ filter q es
kept_left test q steady apart ns [] sized = refl
kept_left test q steady apart ns (e ∷ es) sized =
    cond_both (test e) _ _ (λ l. filter q (left_after l (e ∷ es)) ≡ filter q (e ∷ es))
    (λ here.
    let m = first_or_0 ns in
    let rest = left_after (spread test (but_first ns) es) es in
    let out = apart e here in
    let more = kept_left test q steady apart (but_first ns) es sized.1 ∙ sym (ap (λ b. cond b (e ∷ filter q es) (filter q es)) out) in
    cond_both (ltb m e.size) _ _ (λ l. filter q l ≡ filter q (e ∷ es))
    (λ _. ap (λ b. cond b (resized (e.size - m) e ∷ filter q rest) (filter q rest)) (steady (e.size - m) e ∙ out) ∙ more)
    (λ _. more))
    (λ _.
    let rest = left_after (spread test ns es) es in
    let more = kept_left test q steady apart ns es sized.1 in
    let unchanged : e.size - 0 ≡ e.size = omega arith in
    ap (λ b. filter q (cond b (resized (e.size - 0) e ∷ rest) rest)) (lt-ltb 0 e.size (omega (arith, sized.0.0)))
    ∙ ap (λ n. filter q (resized n e ∷ rest)) unchanged
    ∙ ap (λ l. cond (q e) (e ∷ l) l) more)

-- a deal that began with these entries has come to a balance and lines; those that were in no step stand as they stood
pub record ComesTo (run : List Entry) (before : Entry → Type 0) (b : ℕ) (lines : List Line) (d : Deal) : Type 0 where
  pub balance : d.balance ≡ b
  pub tape : d.lines ≡ lines
  pub sized : AllByRecursion Sized d.run
  pub same : (q : Entry → Bool) → Steady q → ((e : Entry) → q e ≡ true → before e → ⊥) → filter q d.run ≡ filter q run

module _ (run : List Entry) (before : Entry → Type 0) (b : ℕ) (lines : List Line) (d : Deal) (at : ComesTo run before b lines d)
    (k : Step) (test : Entry → Bool) (rule : Sharing) (amount a : ℕ) (is : amount ≡ a) (steady : Steady test) (apart : (e : Entry) → test e ≡ true → before e → ⊥)
    (long : length (rule.allotments a (map claim_of (filter test run))) ≡ length (filter test run)) where
  abbrev ns : List ℕ
  ns = rule.allotments a (map claim_of (filter test run))

  pub next : ComesTo run (λ e. before e ⊎ (test e ≡ true)) (b - total (λ n. n) ns) (lines ++ fills k ns (filter test run)) (step k test rule amount d)
  unfolding step
  next =
      let same : filter test d.run ≡ filter test run = at.same test steady apart in
      let numbers : rule.allotments amount (map claim_of (filter test d.run)) ≡ ns = λ t. rule.allotments (is t) (map claim_of (same t)) in
      let gave = rule.allotments amount (map claim_of (filter test d.run)) in
      let long' : length gave ≡ length (filter test d.run) = ap length numbers ∙ long ∙ ap length (sym same) in
      record {
        balance = λ t. at.balance t - total (λ n. n) (numbers t);
        tape = (λ t. at.tape t ++ fills_spread k test gave d.run long' t) ∙ (λ t. lines ++ fills k (numbers t) (same t));
        sized = sized_left (spread test gave d.run) d.run at.sized;
        same = λ q still away.
            kept_left test q still (λ e here. ⊎_elim (λ yes. absurd (away e yes (inr here))) (λ out. out) (cases_Bool (q e))) gave d.run at.sized
            ∙ at.same q still (λ e here was. away e here (inl was));
      }

-- the group, from the entries of its class
count_kept : (q : Entry → Bool) (es : List Entry) → count q es ≡ total (λ _. 1) (filter q es)
count_kept q [] = refl
count_kept q (e ∷ es) = grind (arith, nat_tests, count_kept q es)

pub group_same : (directed : Option ℕ) (es fs : List Entry) → ((firm : ℕ) → filter (quote_of firm) es ≡ filter (quote_of firm) fs) → in_group directed es ≡ in_group directed fs
group_same None es fs same = refl
group_same (Some firm) es fs same =
    let counts = count_kept (quote_of firm) es ∙ ap (total (λ _. 1)) (same firm) ∙ sym (count_kept (quote_of firm) fs) in
    (λ t. cond (ltb 0 (counts t)) (quote_of firm) specialist)
