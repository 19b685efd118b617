-- What holds of a side at every moment. Assumes nothing.
use Rattle.std.specs.Prelude.{◌≤◌, List, length}
use Rattle.ranked.specs.Elements.{elements}
use Rattle.ranked.specs.Ranked.{ahead, Sorted}
use Rattle.rules.specs.declared.terms.Entry.{Entry}
use Rattle.rules.specs.declared.terms.Side.{Side}
use Rattle.rules.specs.Ranks.{rank_of, rank_before}
use Rattle.book.specs.declared.book_side.BookSide.TheInside.{Inside}

-- no entry has a later one ahead of it
abbrev pub InOrder : Side → List Entry → Type 0
InOrder s es = Sorted (ahead rank_before (λ _. rank_of) s) es

-- the entries have places, and are in order
pub record Ordered (s : Inside) : Type 0 where
  pub within : s.list.len ≤ length s.list.places.now
  pub in_order : InOrder s.list.ranking (elements s.list)
