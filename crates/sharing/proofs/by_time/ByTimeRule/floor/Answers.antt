use Rattle.std.proofs.Common.{◌-◌, min, get_or, sym, ap, ◌∙◌, arith}
use Rattle.sharing.specs.Claims.{size_of}
use Rattle.sharing.specs.Allotted.{no_claim, total_part}
use Rattle.sharing.specs.InTurn.{turn_at}
use Rattle.sharing.proofs.Shared.{sizes_fit}
use Rattle.sharing.proofs.by_time.ByTimeRule.floor.Goals as goal

pub total_size-requires : goal.total_size-requires
total_size-requires c = omega (arith, total_part size_of c.args.claims.now c.args.at, sizes_fit c.args.amount c.args.claims.now c.requires.shareable)

pub returns : goal.returns
returns c =
    let left = c.saturating_sub-left.ensures ∙ ap (λ n. c.args.amount - n) c.total_size.ensures in
    c.min.ensures ∙ ap (min (size_of (get_or c.args.claims.now c.args.at no_claim))) left ∙ sym (turn_at c.args.amount c.args.claims.now c.args.at c.requires.within)
