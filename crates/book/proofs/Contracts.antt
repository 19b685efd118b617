-- The contracts of a side fit 32 bits. Assumes nothing.
use Rattle.std.proofs.Common.{◌<◌, ◌≤◌, arith}
use Rattle.std.proofs.ByRecursion.{All-weaker}
use Rattle.sharing.specs.Totals.{total}
use Rattle.sharing.specs.Allotted.{total_few}
use Rattle.rules.specs.declared.terms.Side.{Side}
use Rattle.rules.specs.Level.{size_of}
use Rattle.rules.specs.Model.{Model, entries}
use Rattle.rules.specs.Sound.{GoodEntry, Sound}
use Rattle.rules.proofs.Moves.{good_side}
use Rattle.rules.proofs.Runs.{places_few}

pub side_contracts : (s : Side) (m : Model) → Sound m → total size_of (entries s m) < 4294967296
side_contracts s m sound = omega (arith, total_few size_of 99999 (entries s m) (All-weaker (GoodEntry m.opening.tick m.counters) (λ e. size_of e ≤ 99999) (λ e h. h.size) (entries s m) (good_side s m sound).good), places_few s m sound)
