-- Fills written and contracts taken off, one entry after another. Assumes nothing.
use Rattle.std.proofs.Common.{◌≡◌, ℕ, ◌+◌, ◌-◌, ◌<◌, ◌≤◌, Bool, true, false, cond, ltb, List, [], ◌∷◌, ◌++◌, map, length, get_or, take, drop, set, filter, sym, refl, ap, ◌∙◌, subst, arith}
use Rattle.std.specs.List.{AllZip}
use Rattle.std.proofs.lemmas.List.Elements.{filter-append}
use Rattle.std.proofs.lemmas.List.{append-nil, append_assoc, length-map, length-append, take_all, take_more, take-map, take_more_set, drop_all, drop-drop, length-drop, drop_more, drop-set-lt, get_or-map}
use Rattle.std.proofs.lemmas.Bool.{cond-true, cond-false, lt-ltb}
use Rattle.std.proofs.lemmas.Bool.Decides.{nat_tests}
use Rattle.sharing.specs.Claims.{allotment_of}
use Rattle.sharing.specs.Allotted.{no_claim}
use Rattle.rules.specs.declared.tape.Line.{Line}
use Rattle.rules.specs.declared.tape.Line.TheVariants.{Fill}
use Rattle.rules.specs.declared.tape.Step.{Step}
use Rattle.rules.specs.declared.terms.Entry.{Entry}
use Rattle.rules.specs.Level.{size_of, but_first, spread, resized, left_after, fills}
use Rattle.matching.specs.declared.lent.Lent.{Lent}
use Rattle.matching.specs.Parts.{is_live, live, takes_part}
use Rattle.matching.specs.Tapes.{Writes}
use Rattle.rules.proofs.Defaults.{no_entry}
use Rattle.matching.proofs.Written.{writes_none, writes_twice, length_after}

-- the line of a fill
abbrev pub fill : Step → ℕ → Entry → Line
fill k n e = Fill e.id e.firm n e.price k

ltb_less : (n s : ℕ) → ltb n s ≡ ltb 0 (s - n)
ltb_less n s = grind (arith, nat_tests)

one_more : {X : Type 0} (b : Bool) (x : X) (xs : List X) → cond b (x ∷ xs) xs ≡ cond b (x ∷ []) [] ++ xs
one_more true x xs = refl
one_more false x xs = refl

one_left : (n : ℕ) (e : Entry) (ns : List ℕ) (es : List Entry) → left_after (n ∷ ns) (e ∷ es) ≡ live (resized (e.size - n) e ∷ []) ++ left_after ns es
one_left n e ns es =
    ap (λ b. cond b (resized (e.size - n) e ∷ left_after ns es) (left_after ns es)) (ltb_less n e.size)
    ∙ one_more (ltb 0 (e.size - n)) (resized (e.size - n) e) (left_after ns es)

-- an entry that gave nothing is as it was
unchanged : (e : Entry) → live (resized (e.size - 0) e ∷ []) ≡ live (e ∷ [])
unchanged e = let same : e.size - 0 ≡ e.size = omega arith in ap (λ n. live (resized n e ∷ [])) same

-- what a step leaves of entries, where those who pass share the numbers, and the lines of its fills
abbrev pub left_of : (Entry → Bool) → List ℕ → List Entry → List Entry
left_of t ns es = left_after (spread t ns es) es

abbrev pub lines_of : Step → (Entry → Bool) → List ℕ → List Entry → List Line
lines_of k t ns es = fills k (spread t ns es) es

-- entries that are gone may be left out at the start
pub left_live : (t : Entry → Bool) (ns : List ℕ) (es : List Entry) → left_of (takes_part t) ns es ≡ left_of t ns (live es)
left_live t ns [] = refl
left_live t ns (e ∷ es) = grind (arith, nat_tests, left_live t (but_first ns) es, left_live t ns es)

pub lines_live : (k : Step) (t : Entry → Bool) (ns : List ℕ) (es : List Entry) → lines_of k (takes_part t) ns es ≡ lines_of k t ns (live es)
lines_live k t ns [] = refl
lines_live k t ns (e ∷ es) = grind (arith, nat_tests, lines_live k t (but_first ns) es, lines_live k t ns es)

-- the entries es and the numbers ns are to come: with what is done they make what is left and the lines at the end
pub record Rest (k : Step) (t : Entry → Bool) (all_left : List Entry) (all_lines : List Line) (ns : List ℕ) (es done : List Entry) (lines : List Line) : Type 0 where
  pub run : done ++ left_of t ns es ≡ all_left
  pub tape : lines ++ lines_of k t ns es ≡ all_lines
  pub claims : length (filter t es) ≤ length ns
  pub within : AllZip ◌≤◌ (take (length (filter t es)) ns) (map size_of (filter t es))

module _ {k : Step} {t : Entry → Bool} {all_left : List Entry} {all_lines : List Line} {e : Entry} {es done : List Entry} {lines : List Line} where
  -- an entry that does not take part
  rest_other : {ns : List ℕ} → t e ≡ false → Rest k t all_left all_lines ns (e ∷ es) done lines → Rest k t all_left all_lines ns es (done ++ live (e ∷ [])) lines
  rest_other {ns} other r =
      let kept : filter t (e ∷ es) ≡ filter t es = cond-false (t e) _ _ other in
      record {
        run = append_assoc done (live (e ∷ [])) (left_of t ns es) ∙ grind (arith, nat_tests, one_left 0 e (spread t ns es) es, unchanged e, r.run);
        tape = grind (arith, nat_tests, r.tape);
        claims = omega (arith, r.claims, ap length kept);
        within = rw kept at r.within;
      }

  -- an entry that takes part, and is given n
  module _ {n : ℕ} {ns : List ℕ} (has : t e ≡ true) (r : Rest k t all_left all_lines (n ∷ ns) (e ∷ es) done lines) where
    kept : filter t (e ∷ es) ≡ e ∷ filter t es
    kept = cond-true (t e) _ _ has

    rest_within : (n ≤ e.size) × AllZip ◌≤◌ (take (length (filter t es)) ns) (map size_of (filter t es))
    rest_within = rw kept at r.within

    rest_has : Rest k t all_left all_lines ns es (done ++ live (resized (e.size - n) e ∷ [])) (lines ++ cond (ltb 0 n) (fill k n e ∷ []) [])
    rest_has = record {
      run = append_assoc done (live (resized (e.size - n) e ∷ [])) (left_of t ns es) ∙ grind (arith, nat_tests, one_left n e (spread t ns es) es, r.run);
      tape = append_assoc lines (cond (ltb 0 n) (fill k n e ∷ []) []) (lines_of k t ns es) ∙ grind (arith, nat_tests, r.tape);
      claims = omega (arith, r.claims, ap length kept);
      within = rest_within.1;
    }

    rest_some : 0 < n → Rest k t all_left all_lines ns es (done ++ live (resized (e.size - n) e ∷ [])) (lines ++ fill k n e ∷ [])
    rest_some some = subst (λ b. Rest k t all_left all_lines ns es (done ++ live (resized (e.size - n) e ∷ [])) (lines ++ cond b (fill k n e ∷ []) [])) (lt-ltb 0 n some) rest_has

  rest_none : {n : ℕ} {ns : List ℕ} → n ≤ 0 → t e ≡ true → Rest k t all_left all_lines (n ∷ ns) (e ∷ es) done lines → Rest k t all_left all_lines ns es (done ++ live (e ∷ [])) lines
  rest_none {n} {ns} none has r =
      let zero : n ≡ 0 = omega arith in
      let rest = rest_has has (rw zero at r) in
      record {
        run = ap (λ l. (done ++ l) ++ left_of t ns es) (sym (unchanged e)) ∙ rest.run;
        tape = ap (λ l. l ++ lines_of k t ns es) (sym (append-nil lines)) ∙ rest.tape;
        claims = rest.claims;
        within = rest.within;
      }

-- the numbers on a sheet
abbrev pub numbers : Lent → List ℕ
numbers l = map allotment_of l.sheet.now

-- the first i entries are paid by the first j numbers, with lines behind those that the tape had
pub record Paid (k : Step) (t : Entry → Bool) (run₀ : List Entry) (lent₀ : Lent) (run : List Entry) (lent : Lent) (i j : ℕ) : Type 0 where
  pub coming : drop i run ≡ drop i run₀
  pub lines : List Line
  pub writes : Writes lines lent₀ lent
  pub sheet : lent.sheet.now ≡ lent₀.sheet.now
  pub rest : Rest k t (left_of t (numbers lent₀) run₀) (lines_of k t (numbers lent₀) run₀) (drop j (numbers lent₀)) (drop i run₀) (live (take i run)) lines

pub paid_none : (k : Step) (t : Entry → Bool) (run : List Entry) (lent : Lent) → length (filter t run) ≤ length lent.sheet.now → AllZip ◌≤◌ (map allotment_of (take (length (filter t run)) lent.sheet.now)) (map size_of (filter t run)) → Paid k t run lent run lent 0 0
paid_none k t run lent claims within = record {
  coming = refl;
  lines = [];
  writes = writes_none lent;
  sheet = refl;
  rest = record {
    run = refl;
    tape = refl;
    claims = omega (arith, length-map lent.sheet.now allotment_of);
    within = rw take-map within;
  };
}

module _ {k : Step} {t : Entry → Bool} {run₀ run : List Entry} {lent₀ lent : Lent} {i j : ℕ} (p : Paid k t run₀ lent₀ run lent i j) where
  -- at the end of the run
  module _ (end : length run ≤ i) where
    over : Rest k t (left_of t (numbers lent₀) run₀) (lines_of k t (numbers lent₀) run₀) (drop j (numbers lent₀)) [] (live run) p.lines
    over =
        subst (λ l. Rest k t (left_of t (numbers lent₀) run₀) (lines_of k t (numbers lent₀) run₀) (drop j (numbers lent₀)) [] (live l) p.lines) (take_all i run end)
        (subst (λ l. Rest k t (left_of t (numbers lent₀) run₀) (lines_of k t (numbers lent₀) run₀) (drop j (numbers lent₀)) l (live (take i run)) p.lines) (sym p.coming ∙ drop_all i run end) p.rest)

    pub paid_run : live run ≡ left_of t (numbers lent₀) run₀
    paid_run = sym (append-nil (live run)) ∙ over.run

    pub paid_writes : Writes (lines_of k t (numbers lent₀) run₀) lent₀ lent
    paid_writes = rw (sym (append-nil p.lines) ∙ over.tape) at p.writes

  -- one turn
  module _ (in' : i < length run) where
    abbrev entry : Entry
    entry = get_or run i no_entry

    abbrev number : ℕ
    number = (get_or lent.sheet.now j no_claim).allotment

    abbrev State : List ℕ → List Entry → List Entry → List Line → Type 0
    State = Rest k t (left_of t (numbers lent₀) run₀) (lines_of k t (numbers lent₀) run₀)

    next : drop (i + 1) run ≡ drop (i + 1) run₀
    next = sym (drop-drop 1 i run) ∙ ap (drop 1) p.coming ∙ drop-drop 1 i run₀

    still : State (drop j (numbers lent₀)) (entry ∷ drop (i + 1) run₀) (live (take i run)) p.lines
    still = subst (λ l. State (drop j (numbers lent₀)) l (live (take i run)) p.lines) (sym p.coming ∙ drop_more run i no_entry in' ∙ ap (λ l. entry ∷ l) next) p.rest

    done_same : live (take i run) ++ live (entry ∷ []) ≡ live (take (i + 1) run)
    done_same = sym (ap live (take_more run i no_entry in') ∙ filter-append is_live (take i run) (entry ∷ []))

    -- the entry takes no part
    pub turn_other : t entry ≡ false → Paid k t run₀ lent₀ run lent (i + 1) j
    turn_other other = record {
      coming = next;
      lines = p.lines;
      writes = p.writes;
      sheet = p.sheet;
      rest = rw done_same at (rest_other other still);
    }

    -- it takes part, and has a number
    module _ (has : t entry ≡ true) where
      at_least_one : 1 ≤ length (drop j (numbers lent₀))
      at_least_one = let kept : filter t (entry ∷ drop (i + 1) run₀) ≡ entry ∷ filter t (drop (i + 1) run₀) = cond-true (t entry) _ _ has in omega (arith, still.claims, ap length kept)

      in_sheet : j < length lent₀.sheet.now
      in_sheet = omega (arith, at_least_one, length-drop j (numbers lent₀), length-map lent₀.sheet.now allotment_of)

      with_number : State (number ∷ drop (j + 1) (numbers lent₀)) (entry ∷ drop (i + 1) run₀) (live (take i run)) p.lines
      with_number =
          let its : number ≡ get_or (numbers lent₀) j 0 = ap (λ s. (get_or s j no_claim).allotment) p.sheet ∙ sym (get_or-map allotment_of lent₀.sheet.now j no_claim 0 in_sheet) in
          subst (λ l. State l (entry ∷ drop (i + 1) run₀) (live (take i run)) p.lines) (drop_more (numbers lent₀) j 0 (omega (arith, in_sheet, length-map lent₀.sheet.now allotment_of)) ∙ ap (λ m. m ∷ drop (j + 1) (numbers lent₀)) (sym its)) still

      pub turn_within : number ≤ entry.size
      turn_within = (rest_within has with_number).0

      -- which is 0
      pub turn_nothing : number ≤ 0 → Paid k t run₀ lent₀ run lent (i + 1) (j + 1)
      turn_nothing none = record {
        coming = next;
        lines = p.lines;
        writes = p.writes;
        sheet = p.sheet;
        rest = rw done_same at (rest_none none has with_number);
      }

      -- or more
      module _ (some : 0 < number) (room : lent₀.lines + length (lines_of k t (numbers lent₀) run₀) ≤ length lent₀.tape.now) where
        more : State (drop (j + 1) (numbers lent₀)) (drop (i + 1) run₀) (live (take i run) ++ live (resized (entry.size - number) entry ∷ [])) (p.lines ++ fill k number entry ∷ [])
        more = rest_some has with_number some

        longer : length (p.lines ++ fill k number entry ∷ []) ≤ length (lines_of k t (numbers lent₀) run₀)
        longer = omega (arith, ap length more.tape, length-append (p.lines ++ fill k number entry ∷ []) (lines_of k t (drop (j + 1) (numbers lent₀)) (drop (i + 1) run₀)))

        pub turn_room : lent.lines < length lent.tape.now
        turn_room =
            let one = length-append p.lines (fill k number entry ∷ []) in
            let long = longer in
            omega (arith, p.writes.lines, length_after p.writes (omega (arith, one, long)))

        pub turn_some : {lent' : Lent} → Writes (fill k number entry ∷ []) lent lent' → lent'.sheet.now ≡ lent.sheet.now → Paid k t run₀ lent₀ (set run i (resized (entry.size - number) entry)) lent' (i + 1) (j + 1)
        turn_some writes claims =
            let paid = resized (entry.size - number) entry in
            let done : live (take i run) ++ live (paid ∷ []) ≡ live (take (i + 1) (set run i paid)) = sym (ap live (take_more_set run i paid in') ∙ filter-append is_live (take i run) (paid ∷ [])) in
            record {
              coming = drop-set-lt (i + 1) run i paid (omega arith) ∙ next;
              lines = p.lines ++ fill k number entry ∷ [];
              writes = writes_twice p.writes writes (omega (arith, longer));
              sheet = claims ∙ p.sheet;
              rest = rw done at more;
            }
