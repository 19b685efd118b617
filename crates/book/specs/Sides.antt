-- One side of the book, as the book's model has it. Assumes nothing.
use Rattle.std.specs.Prelude.{ℕ, List, Option}
use Rattle.rules.specs.declared.terms.Entry.{Entry}
use Rattle.rules.specs.declared.terms.Side.{Side}
use Rattle.rules.specs.Model.{Model, entries, places, away, best}
use Rattle.rules.specs.Prices.{national}

-- which side it is, its entries in rank, its places and the away price on it
pub record OneSide : Type 0 where
  pub side : Side
  pub entries : List Entry
  pub places : ℕ
  pub away : Option ℕ

-- a side of a book
abbrev pub one_side : Side → Model → OneSide
one_side s m = record { side = s; entries = entries s m; places = places s m; away = away s m }

-- the side with other entries
abbrev pub with_list : List Entry → OneSide → OneSide
with_list es s = record s { entries = es }

-- the national best price on the side: the better of its first entry's price and the away price
abbrev pub nation : OneSide → Option ℕ
nation s = national s.side (best s.entries) s.away
