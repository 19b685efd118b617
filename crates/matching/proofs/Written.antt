-- Lines written to a tape, one after another. Assumes nothing.
use Rattle.std.proofs.Common.{◌≡◌, ℕ, ◌+◌, ◌<◌, ◌≤◌, List, [], ◌∷◌, ◌++◌, length, get_or, take, drop, set, sym, refl, ap, ◌∙◌, arith, length-append, length-drop}
use Rattle.std.proofs.lemmas.List.{append-nil, append_assoc, length-take-le, take-append-drop, take_at, drop_more, set_at}
use Rattle.std.proofs.lemmas.Slice.{drop-append-drop}
use Rattle.rules.specs.declared.tape.Line.{Line}
use Rattle.matching.specs.declared.lent.Lent.{Lent}
use Rattle.matching.specs.Tapes.{written, Writes}

module _ (at : ℕ) (ls tape : List Line) (room : at + length ls ≤ length tape) where
  -- what stands in front of what was not written
  front : length (take at tape ++ ls) ≡ at + length ls
  front = length-append (take at tape) ls ∙ ap (λ n. n + length ls) (length-take-le at tape (omega arith))

  pub length_written : length (written at ls tape) ≡ length tape
  length_written = omega (arith, length-append (take at tape ++ ls) (drop (at + length ls) tape), front, length-drop (at + length ls) tape)

  -- one line more
  pub written_more : (l : Line) → at + length ls < length tape → set (written at ls tape) (at + length ls) l ≡ written at (ls ++ l ∷ []) tape
  written_more l more =
      let n = at + length ls in
      let longer : at + length (ls ++ l ∷ []) ≡ n + 1 = omega (arith, length-append ls (l ∷ [])) in
      ap (λ x. set ((take at tape ++ ls) ++ x) n l) (drop_more tape n l more)
      ∙ set_at (take at tape ++ ls) (get_or tape n l) (drop (n + 1) tape) l n front
      ∙ sym (append_assoc (take at tape ++ ls) (l ∷ []) (drop (n + 1) tape))
      ∙ ap (λ x. x ++ drop (n + 1) tape) (append_assoc (take at tape) ls (l ∷ []))
      ∙ ap (λ k. (take at tape ++ (ls ++ l ∷ [])) ++ drop k tape) (sym longer)

  -- lines behind lines
  pub written_twice : (ms : List Line) → at + length ls + length ms ≤ length tape → written (at + length ls) ms (written at ls tape) ≡ written at (ls ++ ms) tape
  written_twice ms more =
      let n = at + length ls in
      let longer : n + length ms ≡ at + length (ls ++ ms) = omega (arith, length-append ls ms) in
      (λ t. (take_at (take at tape ++ ls) (drop n tape) n front t ++ ms) ++ drop-append-drop n tape (take at tape ++ ls) (n + length ms) (omega arith) front t)
      ∙ (λ t. append_assoc (take at tape) ls ms t ++ drop (longer t) tape)

none_more : (at : ℕ) → at ≡ at + length {A = Line} []
none_more at = omega arith

pub written_none : (at : ℕ) (tape : List Line) → tape ≡ written at [] tape
written_none at tape = sym (take-append-drop at tape) ∙ (λ t. sym (append-nil (take at tape)) t ++ drop (none_more at t) tape)

pub written_one : (at : ℕ) (tape : List Line) (l : Line) → at < length tape → set tape at l ≡ written at (l ∷ []) tape
written_one at tape l room =
    ap (λ x. set x at l) (written_none at tape)
    ∙ (λ i. set (written at [] tape) (none_more at i) l)
    ∙ written_more at [] tape (omega arith) l (omega arith)

-- nothing is written, and the tape is as long as before
pub writes_none : (l : Lent) → Writes [] l l
writes_none l = record { tape = written_none l.lines l.tape.now; lines = omega arith; sheet = refl; tape_lender = refl; sheet_lender = refl }

pub length_after : {ls : List Line} {old new : Lent} → Writes ls old new → old.lines + length ls ≤ length old.tape.now → length new.tape.now ≡ length old.tape.now
length_after {ls} {old} {new} w room = ap length w.tape ∙ length_written old.lines ls old.tape.now room

-- lines, and more lines
pub writes_twice : {ls ms : List Line} {a b c : Lent} → Writes ls a b → Writes ms b c → a.lines + length (ls ++ ms) ≤ length a.tape.now → Writes (ls ++ ms) a c
writes_twice {ls} {ms} {a} {b} {c} first second room =
    let both = length-append ls ms in
    record {
      tape = second.tape ∙ (λ t. written (first.lines t) ms (first.tape t)) ∙ written_twice a.lines ls a.tape.now (omega arith) ms (omega arith);
      lines = omega (arith, first.lines, second.lines);
      sheet = second.sheet ∙ first.sheet;
      tape_lender = second.tape_lender ∙ first.tape_lender;
      sheet_lender = second.sheet_lender ∙ first.sheet_lender;
    }
