use Rattle.std.proofs.Common.{◌+◌, ◌≤◌, length, sym, ap, ◌∙◌, arith}
use Rattle.matching.specs.Parts.{is_live, part_test, step_for, takes_part}
use Rattle.matching.proofs.Paid.{numbers, lines_of, left_live, lines_live, paid_none, paid_run, paid_writes, turn_other, turn_within, turn_room, turn_nothing, turn_some}
use Rattle.matching.proofs.Shown.{kept_twice}
use Rattle.matching.proofs.step.pay.Goals as goal
use Rattle.matching.proofs.step.pay.Goals.{Start, then-takes+then-size-gt0, then-takes+else-size-gt0, else-takes}

-- the tape has room for the fills, also where entries that are gone are looked at
room : (c : Start) → c.args.lent.now.lines + length (lines_of (step_for c.args.part) (takes_part (part_test c.args.part)) (numbers c.args.lent.now) c.args.run.now) ≤ length c.args.lent.now.tape.now
room c = omega (arith, c.requires.room.tape, ap length (lines_live (step_for c.args.part) (part_test c.args.part) (numbers c.args.lent.now) c.args.run.now))

pub loop-i-init : goal.loop-i-init
loop-i-init c =
    let t = part_test c.args.part in
    let same = kept_twice is_live t c.args.run.now in
    paid_none (step_for c.args.part) (takes_part t) c.args.run.now c.args.lent.now
    (rw same at c.requires.room.sheet)
    (rw same at c.requires.within)

-- an entry that takes part has a claim
pub write-requires : goal.write-requires
write-requires c = record {
  room = turn_room c.loop-i.invariant (omega arith) (sym c.takes.ensures ∙ c.if-takes.true) c.if-size-gt0.true
      (room (goal.at.write-requires c).Start);
}

pub overflow_sub-run : goal.overflow_sub-run
overflow_sub-run c = turn_within c.loop-i.invariant (omega arith) (sym c.takes.ensures ∙ c.if-takes.true)

pub loop-i-preserved : goal.loop-i-preserved
loop-i-preserved c =
    elim c.if-takes.branch [
      | then-takes+then-size-gt0 w ↦ rw (w.run-is, w.lent-is, w.j-is)
          (turn_some c.loop-i.invariant (omega arith) (sym c.takes.ensures ∙ w.if-takes.true) w.if-size-gt0.true
          (room (goal.at.loop-i-preserved c).Start)
          (rw w.step.ensures at w.write.ensures.writes) w.write.ensures.claims)
      | then-takes+else-size-gt0 w ↦ rw (w.run-is, w.lent-is, w.j-is)
          (turn_nothing c.loop-i.invariant (omega arith) (sym c.takes.ensures ∙ w.if-takes.true) w.if-size-gt0.false)
      | else-takes w ↦ rw (w.run-is, w.lent-is, w.j-is)
          (turn_other c.loop-i.invariant (omega arith) (sym c.takes.ensures ∙ w.if-takes.false))
    ]

pub returns : goal.returns
returns c =
    let t = part_test c.args.part in
    let lent = c.args.lent.now in
    record {
      run = paid_run c.loop-i.invariant (omega arith) ∙ left_live t (numbers lent) c.args.run.now;
      writes = rw (lines_live (step_for c.args.part) t (numbers lent) c.args.run.now) at (paid_writes c.loop-i.invariant (omega arith));
      claims = c.loop-i.invariant.sheet;
    }
