use Rattle.std.proofs.Common.{◌<◌, sym, ap, ◌∙◌, subst}
use Rattle.sharing.specs.Totals.{total}
use Rattle.rules.specs.Level.{size_of}
use Rattle.book.specs.Sides.{OneSide}
use Rattle.book.proofs.Contracts.{side_contracts}
use Rattle.book.proofs.state.State.available_to.Goals as goal

pub available-requires : goal.available-requires
available-requires c =
    let there = c.entries.ensures ∙ ap (λ (s : OneSide). s.entries) c.side-other.ensures in
    subst (λ es. total size_of es < 4294967296) (sym there) (side_contracts c.other.result c.args.self.now c.requires)
