use Rattle.std.proofs.Common.{◌≡◌, ◌-◌, false, get_or, Ok, sym, ap, ◌∙◌, subst}
use Rattle.std.specs.List.{remove}
use Rattle.rules.specs.declared.terms.Routed.{Routed}
use Rattle.rules.specs.Calls.{return_of}
use Rattle.rules.specs.Model.{Model, with_out}
use Rattle.rules.specs.Outcome.Outcome.{done}
use Rattle.rules.specs.Sound.{Sound}
use Rattle.rules.specs.Trade.{sized, trade}
use Rattle.book.specs.Answers.{Settles}
use Rattle.book.specs.Books.{model}
use Rattle.book.specs.Entries.{Tapes}
use Rattle.book.specs.Returns.{returning}
use Rattle.book.proofs.Returned.{gone_sound, back_done}
use Rattle.rules.proofs.Defaults.{no_row}
use Rattle.book.proofs.state.State.give_back.Given as given
use Rattle.book.proofs.state.State.give_back.Goals as goal
use Rattle.book.proofs.state.State.give_back.Goals.{After-remove}

-- the book has lost the row
without : (g : given.Over) (c : After-remove g) → with_out c.remove.new.self.items (model c.self.inside) ≡ with_out (remove c.args.self.now.out c.in_ok-at.at) c.args.self.now
without g c = (λ t. with_out (c.remove.ensures.items t) (model c.self.inside)) ∙ ap (λ (x : Model). with_out (remove x.out c.in_ok-at.at) x) c.self.view_is

-- the row that was read
abbrev read : (g : given.Over) (c : After-remove g) → Routed
read g c = get_or c.deref.result.now c.in_ok-at.at no_row

-- what comes back trades in it
back : (g : given.Over) (c : After-remove g) → return_of (g.R.Rule.meaning c.args.rule.now) (returning c.args.ticket.now c.args.executed c.args.lent.now) c.args.self.now
    ≡ done (trade (g.R.Rule.meaning c.args.rule.now) (sized ((read g c).size - c.args.executed) (read g c)) false (with_out c.remove.new.self.items (model c.self.inside)))
back g c =
    let rows = c.deref.ensures.0 ∙ ap (λ (x : Model). x.out) c.self.view_is in
    back_done (returning c.args.ticket.now c.args.executed c.args.lent.now) c.args.self.now c.in_ok-at.at c.requires c.in_ok-at.ensures (g.R.Rule.meaning c.args.rule.now) (read g c) _
    (ap (λ rs. get_or rs c.in_ok-at.at no_row) rows) (without g c)

pub trade-out-requires-clause-sound : goal.trade-out-requires-clause-sound
trade-out-requires-clause-sound g c =
    let at = goal.at.trade-out-requires-clause-sound g c in
    subst Sound (sym (without g at.After-remove)) (gone_sound (returning c.args.ticket.now c.args.executed c.args.lent.now) c.args.self.now c.in_ok-at.at c.requires c.in_ok-at.ensures)

pub returns-clause-outcome : goal.returns-clause-outcome
returns-clause-outcome g c =
    let row = (goal.at.returns-clause-outcome g c).After-remove in
    subst (λ o. Settles {A = Unit {0}} o c.args.self.now (Ok tt) c.trade-out.new.self (λ d a. Unit {0})) (sym (back g row)) (c.trade-out.ensures.book, tt)

pub returns-clause-tapes : goal.returns-clause-tapes
returns-clause-tapes g c =
    let row = (goal.at.returns-clause-tapes g c).After-remove in
    subst (λ o. Tapes o c.args.lent.now c.trade-out.new.lent) (sym (back g row)) c.trade-out.ensures.writes
