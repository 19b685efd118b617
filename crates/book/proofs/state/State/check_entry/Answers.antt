use Rattle.std.proofs.Common.{sym, ◌∙◌, subst, rules}
use Rattle.book.specs.Entries.{entering, Admits}
use Rattle.book.proofs.Entered.{admitted}
use Rattle.book.proofs.state.State.check_entry.Goals as goal

pub returns : goal.returns
returns c =
    subst (Admits (entering c.args.order.now c.args.lent.now) c.args.self.now) (sym c.ok_or.ensures.value)
    (admitted (entering c.args.order.now c.args.lent.now) c.args.self.now c.cap_for.result c.cap_for.ensures (sym c.terms_clash.ensures ∙ c.if-terms_clash.false) (λ last. search rules) (λ last. search rules))
