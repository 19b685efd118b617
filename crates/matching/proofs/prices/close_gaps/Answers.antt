use Rattle.std.proofs.Common.{get_or, arith}
use Rattle.std.proofs.lemmas.List.Filters.{FiltersInPlace-more_no, FiltersInPlace-more_set}
use Rattle.std.proofs.lemmas.List.{get_or_default}
use Rattle.std.proofs.lemmas.Bool.{lt-ltb, le-ltb}
use Rattle.rules.proofs.Defaults.{no_entry}
use Rattle.matching.proofs.prices.close_gaps.Goals as goal
use Rattle.matching.proofs.prices.close_gaps.Goals.{then-e-gt0, else-e-gt0}

pub loop-i-preserved : goal.loop-i-preserved
loop-i-preserved c =
    let e = get_or c.loop-i.entries c.loop-i.i no_entry in
    let same = get_or_default c.loop-i.entries c.loop-i.i no_entry e (omega arith) in
    elim c.if-e-gt0.branch [
      | then-e-gt0 w ↦ rw (w.entries-is, w.k-is) (FiltersInPlace-more_set c.loop-i.invariant (omega arith) (lt-ltb 0 e.size w.if-e-gt0.true) same)
      | else-e-gt0 w ↦ rw (w.entries-is, w.k-is) (FiltersInPlace-more_no c.loop-i.invariant (omega arith) (le-ltb 0 e.size w.if-e-gt0.false) same)
    ]
