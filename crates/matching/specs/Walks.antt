-- What an order does on a side, from its best price on. Assumes nothing.
use Rattle.std.specs.Prelude.{◌≡◌, ℕ, List, length, take, Option}
use Rattle.std.specs.List.{AllByRecursion}
use Rattle.sharing.specs.Sharing.{Sharing}
use Rattle.rules.specs.declared.terms.Entry.{Entry}
use Rattle.rules.specs.declared.terms.Routed.{Routed}
use Rattle.rules.specs.Laws.{Tradable}
use Rattle.rules.specs.Level.{Deal}
use Rattle.rules.specs.Walk.{runs, walk}
use Rattle.matching.specs.declared.lent.Lent.{Lent}
use Rattle.matching.specs.declared.prices.Walked.{Walked}
use Rattle.matching.specs.Tapes.{Room, Writes}

-- the order walks the entries of a side with all of its size
abbrev pub walked : Sharing → Routed → Option ℕ → Option ℕ → List Entry → Deal
walked rule o national away es = walk rule o national away o.size (runs es)

-- an order may walk over entries: at each price they may trade with all of its size, and each has a place for its claim and for a line
pub record MayWalk (o : Routed) (es : List Entry) (lent : Lent) : Type 0 where
  pub tradable : AllByRecursion (Tradable o.size) (runs es)
  pub room : Room (length es) (length es) lent

-- what a walk leaves is that of a deal: the order's balance, the entries that are left, at the front of their places, and the lines
pub record Leaves (d : Deal) (answer : Walked) (places : List Entry) (lent new_lent : Lent) : Type 0 where
  pub balance : answer.balance ≡ d.balance
  pub left : answer.left ≡ length d.run
  pub entries : take answer.left places ≡ d.run
  pub writes : Writes d.lines lent new_lent
