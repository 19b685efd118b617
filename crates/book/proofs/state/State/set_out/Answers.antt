use Rattle.std.proofs.Common.{sym, subst}
use Rattle.rules.specs.Calls.{Entering}
use Rattle.rules.specs.Model.{with_last_id}
use Rattle.rules.specs.Sound.{Sound}
use Rattle.rules.proofs.CallsKeep.{entry_fits, counted_sound}
use Rattle.book.specs.Entries.{entering}
use Rattle.book.proofs.state.State.set_out.Goals as goal

pub trade-requires-clause-sound : goal.trade-requires-clause-sound
trade-requires-clause-sound g c =
    let m = c.args.self.now in
    let u : Entering = entering c.args.order.now c.args.lent.now in
    subst (λ x. Sound (with_last_id c.args.order.now.id x)) (sym c.self.view_is) (counted_sound u m c.requires.sound (entry_fits u m c.requires.sound c.requires.accepted))
