-- A deal at a price, as it stands in the places of a run and in what the host lends. Assumes nothing.
use Rattle.std.specs.Prelude.{◌≡◌, ℕ, List, [], length}
use Rattle.rules.specs.declared.terms.Entry.{Entry}
use Rattle.rules.specs.Laws.{Tradable}
use Rattle.rules.specs.Level.{Deal}
use Rattle.matching.specs.declared.lent.Lent.{Lent}
use Rattle.matching.specs.Parts.{live}
use Rattle.matching.specs.Tapes.{Room, Writes}

-- a deal before its first line
abbrev pub bare : ℕ → List Entry → Deal
bare balance es = record { balance = balance; run = es; lines = [] }

-- a step at a price may be done: what is there may trade, each entry has a place for its claim, and each line has one
pub record Asks (does : Deal → Deal) (run : List Entry) (lent : Lent) (balance : ℕ) : Type 0 where
  pub tradable : Tradable balance (live run)
  pub room : Room (length run) (length (does (bare balance (live run))).lines) lent

-- the balance, the entries that are still there and the lines written are those of a deal, and the run has as many places as before
pub record Dealt (d : Deal) (run new_run : List Entry) (lent new_lent : Lent) (balance : ℕ) : Type 0 where
  pub left : balance ≡ d.balance
  pub entries : live new_run ≡ d.run
  pub places : length new_run ≡ length run
  pub writes : Writes d.lines lent new_lent
