-- Barred entries go, one after another. Assumes nothing.
use Rattle.std.proofs.Common.{◌≡◌, ℕ, ◌+◌, ◌<◌, ◌≤◌, Bool, true, false, not, List, [], ◌∷◌, ◌++◌, map, length, get_or, take, drop, set, filter, sym, refl, ap, ◌∙◌, arith}
use Rattle.std.specs.List.{AllByRecursion}
use Rattle.std.proofs.lemmas.List.Elements.{filter-append}
use Rattle.std.proofs.ByRecursion.{All-get_or}
use Rattle.std.proofs.lemmas.List.Filters.{length-filter_both}
use Rattle.std.proofs.lemmas.List.{append-nil, length-map, length-append, length-take-le, take_more_set, drop_more, drop-set-lt, map-append}
use Rattle.std.proofs.lemmas.Bool.{lt-ltb}
use Rattle.rules.specs.declared.tape.Line.{Line}
use Rattle.rules.specs.declared.terms.Entry.{Entry}
use Rattle.rules.specs.Level.{resized, barred_line}
use Rattle.matching.specs.declared.lent.Lent.{Lent}
use Rattle.matching.specs.Parts.{is_live, live}
use Rattle.matching.specs.Tapes.{Writes}
use Rattle.matching.proofs.Gathered.{kept_one, kept_other}
use Rattle.rules.proofs.Defaults.{no_entry}
use Rattle.matching.proofs.Written.{writes_twice, length_after}

-- after i entries: those left, the rest as it was, and the lines
pub record Barring (barred : Entry → Bool) (run0 : List Entry) (lent0 : Lent) (i : ℕ) (run : List Entry) (lent : Lent) : Type 0 where
  pub left : live (take i run) ≡ filter (λ e. not (barred e)) (take i run0)
  pub rest : drop i run ≡ drop i run0
  pub writes : Writes (map barred_line (filter barred (take i run0))) lent0 lent
  pub sheet : lent.sheet.now ≡ lent0.sheet.now

module _ {barred : Entry → Bool} {run0 run : List Entry} {lent0 lent : Lent} {i : ℕ} (state : Barring barred run0 lent0 i run lent)
    (within : i < length run) (long : length run ≡ length run0) (sized : AllByRecursion (λ e. 1 ≤ e.size) run0) (room : lent0.lines + length run0 ≤ length lent0.tape.now) where
  abbrev e : Entry
  e = get_or run i no_entry

  inside : i < length run0
  inside = omega arith

  -- the entry that is read is the one that stood there
  same : e ≡ get_or run0 i no_entry
  same = let here = drop_more run i no_entry within in let there = drop_more run0 i no_entry inside in let rest = state.rest in cc

  rest_more : drop (i + 1) run ≡ drop (i + 1) run0
  rest_more = let here = drop_more run i no_entry within in let there = drop_more run0 i no_entry inside in let rest = state.rest in cc

  abbrev written_so_far : List Line
  written_so_far = map barred_line (filter barred (take i run0))

  few : length written_so_far < length run0
  few = omega (arith, length-map (filter barred (take i run0)) barred_line, length-filter_both barred (λ x. not (barred x)) (λ x. refl) (take i run0), length-take-le i run0 (omega arith))

  pub barring_room : lent.lines < length lent.tape.now
  barring_room = omega (arith, few, state.writes.lines, length_after state.writes (omega (arith, few)))

  -- one that is not barred stays
  pub stays : barred e ≡ false → Barring barred run0 lent0 (i + 1) run lent
  stays free =
      let here : barred (get_or run0 i no_entry) ≡ false = ap barred (sym same) ∙ free in
      let alive : is_live e ≡ true = lt-ltb 0 e.size (omega (arith, ap (λ (f : Entry). f.size) same, All-get_or (λ e. 1 ≤ e.size) run0 i no_entry inside sized)) in
      record {
        left = kept_one is_live run i no_entry within alive ∙ (λ t. state.left t ++ same t ∷ []) ∙ sym (kept_one (λ e. not (barred e)) run0 i no_entry inside (ap not here));
        rest = rest_more;
        writes = rw (kept_other barred run0 i no_entry inside here) state.writes;
        sheet = state.sheet;
      }

  -- a barred one goes
  pub goes : {lent' : Lent} → barred e ≡ true → Writes (barred_line e ∷ []) lent lent' → lent'.sheet.now ≡ lent.sheet.now → Barring barred run0 lent0 (i + 1) (set run i (resized 0 e)) lent'
  goes {lent'} out writes claims =
      let here : barred (get_or run0 i no_entry) ≡ true = ap barred (sym same) ∙ out in
      let gone = resized 0 e in
      let lines : written_so_far ++ barred_line e ∷ [] ≡ map barred_line (filter barred (take (i + 1) run0)) =
      ap (λ f. written_so_far ++ barred_line f ∷ []) same ∙ sym (ap (map barred_line) (kept_one barred run0 i no_entry inside here) ∙ map-append barred_line (filter barred (take i run0)) (get_or run0 i no_entry ∷ [])) in
      record {
        left = ap live (take_more_set run i gone within) ∙ filter-append is_live (take i run) (gone ∷ []) ∙ append-nil (live (take i run)) ∙ state.left ∙ sym (kept_other (λ e. not (barred e)) run0 i no_entry inside (ap not here));
        rest = drop-set-lt (i + 1) run i gone (omega arith) ∙ rest_more;
        writes = rw lines at (writes_twice state.writes writes (omega (arith, few, length-append written_so_far (barred_line e ∷ []))));
        sheet = claims ∙ state.sheet;
      }
