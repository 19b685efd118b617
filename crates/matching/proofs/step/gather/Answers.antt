use Rattle.std.proofs.Common.{map, length, filter, sym, ap, ◌∙◌, arith}
use Rattle.std.proofs.lemmas.List.{take_all}
use Rattle.rules.specs.Level.{claim_of}
use Rattle.matching.specs.Parts.{is_live, part_test, takes_part}
use Rattle.matching.proofs.Gathered.{gathered_more, gathered_past}
use Rattle.matching.proofs.Shown.{kept_twice}
use Rattle.matching.proofs.step.gather.Goals as goal
use Rattle.matching.proofs.step.gather.Goals.{then-takes, else-takes}

pub loop-e-preserved : goal.loop-e-preserved
loop-e-preserved c =
    let t = takes_part (part_test c.args.part) in
    let run = c.args.run.now in
    let i = c.loop-e.e-index in
    elim c.if-takes.branch [
      | then-takes w ↦ rw (w.sheet-is, w.n-is, w.new.ensures) (gathered_more t run c.loop-e.sheet i c.loop-e.n c.loop-e.invariant c.loop-e-test.true (omega (arith, c.loop-e.invariant.behind)) (sym c.takes.ensures ∙ w.if-takes.true))
      | else-takes w ↦ rw (w.sheet-is, w.n-is) (gathered_past t run c.loop-e.sheet i c.loop-e.n c.loop-e.invariant c.loop-e-test.true (sym c.takes.ensures ∙ w.if-takes.false))
    ]

pub returns : goal.returns
returns c =
    let t = part_test c.args.part in
    let all = ap (filter (takes_part t)) (take_all c.loop-e.e-index c.args.run.now c.loop-e-test.false) ∙ sym (kept_twice is_live t c.args.run.now) in
    record {
      value = c.loop-e.invariant.value ∙ ap length all;
      claims = c.loop-e.invariant.claims ∙ ap (map claim_of) all;
    }
