-- A tape with lines written to it. Assumes nothing.
use Rattle.std.specs.Prelude.{◌≡◌, ℕ, ◌+◌, ◌≤◌, List, ◌++◌, length, take, drop}
use Rattle.rules.specs.declared.tape.Line.{Line}
use Rattle.matching.specs.declared.lent.Lent.{Lent}

-- lines from a place on, and all other places as they were
abbrev pub written : ℕ → List Line → List Line → List Line
written at lines tape = take at tape ++ lines ++ drop (at + length lines) tape

-- lines are written behind those that the tape has; the claim sheet is as long as before, and both are the host's own still
pub record Writes (ls : List Line) (old new : Lent) : Type 0 where
  pub tape : new.tape.now ≡ written old.lines ls old.tape.now
  pub lines : new.lines ≡ old.lines + length ls
  pub sheet : length new.sheet.now ≡ length old.sheet.now
  pub tape_lender : new.tape.ghost_name ≡ old.tape.ghost_name
  pub sheet_lender : new.sheet.ghost_name ≡ old.sheet.ghost_name

-- the host lent places for so many claims, and for so many lines behind those that the tape has
pub record Room (claims lines : ℕ) (lent : Lent) : Type 0 where
  pub sheet : claims ≤ length lent.sheet.now
  pub tape : lent.lines + lines ≤ length lent.tape.now
