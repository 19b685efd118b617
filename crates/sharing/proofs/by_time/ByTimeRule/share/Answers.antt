use Rattle.std.proofs.Common.{◌≡◌, min, get_or, sym, ap, ◌∙◌, arith}
use Rattle.sharing.specs.Claims.{size_of}
use Rattle.sharing.specs.Rules.{in_turn}
use Rattle.sharing.specs.Allotted.{no_claim, allotted_none, unwritten, allotted_more, total_more}
use Rattle.sharing.specs.InTurn.{turn_at, length_turn}
use Rattle.sharing.proofs.by_time.ByTimeRule.share.Goals as goal

pub loop-c-init : goal.loop-c-init
loop-c-init c = (omega arith, allotted_none (in_turn c.args.amount c.args.claims.now) c.args.claims.now)

pub loop-c-preserved : goal.loop-c-preserved
loop-c-preserved c =
    let cs = c.args.claims.now in
    let ns = in_turn c.args.amount cs in
    let i = c.loop-c.c-index in
    let state = c.loop-c.invariant.1 in
    let long = length_turn c.args.amount cs in
    let read = unwritten ns cs c.loop-c.c-items i state c.loop-c-test.true long in
    let value : c.min-c.result ≡ get_or ns i 0 =
    c.min-c.ensures
    ∙ (λ t. min (size_of (read t)) (c.loop-c.invariant.0 t))
    ∙ sym (turn_at c.args.amount cs i c.loop-c-test.true) in
    (omega (arith, c.min-c.ensures, ap size_of read, total_more size_of cs i no_claim c.loop-c-test.true), allotted_more ns cs c.loop-c.c-items i state c.loop-c-test.true long c.min-c.result value)
