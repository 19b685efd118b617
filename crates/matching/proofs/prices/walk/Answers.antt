use Rattle.std.proofs.Common.{◌-◌, length, drop, ap, ◌∙◌, arith}
use Rattle.std.proofs.lemmas.List.{take_all, length-drop}
use Rattle.matching.proofs.Walks.{Ends, walking_none, walking_more, stops_last, stops_spent, stops_beyond, done_balance, done_writes, done_run}
use Rattle.matching.proofs.prices.walk.Goals as goal
use Rattle.matching.proofs.prices.walk.Goals.{then-loop-from-test+then-balance-gt0+else-within_reach, then-loop-from-test+else-balance-gt0, else-loop-from-test}

pub loop-from-init : goal.loop-from-init
loop-from-init g c = walking_none (g.R.Rule.meaning c.args.rule.now) c.args.order.now c.args.national c.args.away c.args.entries.now c.args.lent.now c.requires.tradable

pub loop-from-preserved : goal.loop-from-preserved
loop-from-preserved g c =
    let l = c.loop-from in
    let all = take_all (length l.entries - l.from) (drop l.from l.entries) (omega (arith, length-drop l.from l.entries)) in
    let run = c.run_length.ensures in
    walking_more l.invariant run.some _ all run.within run.run c.if-balance-gt0.true c.within_reach.ensures c.if-within_reach.true c.is_best-at_best.ensures c.requires.room.tape c.price-balance.ensures

pub returns : goal.returns
returns g c =
    let l = c.loop-from in
    let stops : Ends l.invariant = elim c.loop-from-test.branch [
      | then-loop-from-test+then-balance-gt0+else-within_reach w ↦ stops_beyond l.invariant w.loop-from-test.true w.within_reach.ensures w.if-within_reach.false
      | then-loop-from-test+else-balance-gt0 w ↦ stops_spent l.invariant w.if-balance-gt0.false
      | else-loop-from-test w ↦ stops_last l.invariant w.loop-from-test.false
    ] in
    let run = done_run l.invariant stops in
    let closed = c.close_gaps-left.ensures in
    record {
      leaves = record {
        balance = done_balance l.invariant stops;
        left = closed.value ∙ ap length run;
        entries = closed.entries ∙ run;
        writes = done_writes l.invariant stops;
      };
      places = c.close_gaps-left.auto.entries ∙ l.invariant.whole;
    }
