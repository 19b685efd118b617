use Rattle.std.proofs.Common.{sym, ◌∙◌, arith}
use Rattle.std.proofs.lemmas.List.{set-get_or}
use Rattle.matching.proofs.Barred.{barring_room, stays, goes}
use Rattle.rules.proofs.Defaults.{no_entry}
use Rattle.matching.proofs.price.bar.Goals as goal
use Rattle.matching.proofs.price.bar.Goals.{then-is_barred, else-is_barred}

pub write-requires : goal.write-requires
write-requires c = record { room = barring_room c.loop-e.invariant (omega arith) c.loop-e.auto.run c.requires.live c.requires.room.tape }

pub loop-e-preserved : goal.loop-e-preserved
loop-e-preserved c =
    elim c.if-is_barred.branch [
      | then-is_barred w ↦ rw (w.run-is, w.lent-is) (goes c.loop-e.invariant (omega arith) c.loop-e.auto.run c.requires.live c.requires.room.tape (sym c.is_barred.ensures ∙ w.if-is_barred.true) w.write.ensures.writes w.write.ensures.claims)
      | else-is_barred w ↦ rw (w.run-is, w.lent-is, set-get_or c.loop-e.run c.loop-e.e-index no_entry) (stays c.loop-e.invariant (omega arith) c.loop-e.auto.run c.requires.live c.requires.room.tape (sym c.is_barred.ensures ∙ w.if-is_barred.false))
    ]
