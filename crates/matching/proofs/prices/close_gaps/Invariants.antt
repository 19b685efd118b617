use Rattle.std.proofs.lemmas.List.Filters.{FiltersInPlace}
use Rattle.matching.specs.Parts.{is_live}
use Rattle.matching.proofs.prices.close_gaps.Given as goal

abbrev pub invariant-loop-i : goal.invariant-loop-i
invariant-loop-i l = FiltersInPlace is_live l.initial.entries l.entries l.k l.i
