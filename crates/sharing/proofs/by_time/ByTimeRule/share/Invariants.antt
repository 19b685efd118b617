use Rattle.std.proofs.Common.{◌≡◌, ◌-◌, take}
use Rattle.sharing.specs.Claims.{size_of}
use Rattle.sharing.specs.Rules.{in_turn}
use Rattle.sharing.specs.Totals.{total}
use Rattle.sharing.specs.Allotted.{allotted_to}
use Rattle.sharing.proofs.by_time.ByTimeRule.share.Given as goal

abbrev pub invariant-loop-c : goal.invariant-loop-c
invariant-loop-c l = (l.left ≡ l.amount - total size_of (take l.c-index l.initial.c-items)) × (l.c-items ≡ allotted_to (in_turn l.amount l.initial.c-items) l.initial.c-items l.c-index)
