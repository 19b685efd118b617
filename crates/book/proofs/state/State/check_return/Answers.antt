use Rattle.std.proofs.Common.{◌≡◌, ℕ, ◌<◌, ◌≤◌, length, get_or, Some, None, Option, ok_or, sym, ap, ◌∙◌, subst, arith}
use Rattle.std.specs.Result.{result_ok, result_err}
use Rattle.std.proofs.lemmas.List.{get_or_default}
use Rattle.std.proofs.lemmas.Option.{same_Some}
use Rattle.std.proofs.lemmas.Result.{err_from_is_err_and}
use Rattle.rules.specs.declared.numbers.Refusal.TheVariants.{NotOutHere}
use Rattle.rules.specs.declared.terms.Routed.{Routed}
use Rattle.rules.specs.Model.{Model}
use Rattle.rules.specs.Outcome.{row_with}
use Rattle.rules.specs.Outcome.Outcome.{refused}
use Rattle.book.specs.Returns.{returning}
use Rattle.book.proofs.Finding.{found_at, not_found}
use Rattle.book.proofs.Returned.{none_out, all_pass}
use Rattle.rules.proofs.Defaults.{no_row}
use Rattle.book.proofs.Standings.{row_at, seen}
use Rattle.book.proofs.state.State.check_return.Goals as goal
use Rattle.book.proofs.state.State.check_return.Goals.{After-ok_or}

-- the search is among the orders out
among : (c : After-ok_or) (o : Option ℕ) → c.find.result ≡ o → row_at c.args.ticket.now.id c.args.self.now c.args.self.now.out ≡ o
among c o is = seen _ _ _ c.find.ensures c.deref.ensures.0 (ap (λ x. x.out) c.self.view_is) is

-- the row that it finds
there : (c : After-ok_or) (k : ℕ) → result_ok c.ok_or.result ≡ Some k → (d : Routed) → (k < length c.args.self.now.out) × (row_with c.args.ticket.now.id c.args.self.now.out ≡ Some (get_or c.args.self.now.out k d))
there c k is d = found_at (λ (r : Routed). r.id) c.args.ticket.now.id c.args.self.now.out k d (among c (Some k) (c.ok_or.ensures.ok_part ∙ is))

-- the state's series is that of its model
same_series : (c : After-ok_or) → c.self.inside.series ≡ c.args.self.now.opening.series
same_series c = ap (λ (x : Model). x.opening.series) c.self.view_is

pub returns-in_err-at : goal.returns-in_err-at
returns-in_err-at c =
    let m = c.args.self.now in
    let at = (goal.at.returns-in_err-at c).After-ok_or in
    let why = err_from_is_err_and c.from_residual-in_err-at.result c.from_residual-in_err-at.ensures.1 in
    let none = c.ok_or.ensures.ok_part ∙ ap result_ok c.in_err-at.was in
    let told = same_Some _ _ (ap result_err (sym (ap (λ o. ok_or o NotOutHere) none) ∙ sym c.ok_or.ensures.value ∙ c.in_err-at.was)) in
    rw (why.1, why.2) (λ rule. none_out rule (returning c.args.ticket.now c.args.executed c.args.lent.now) m c.in_ok-check_lent.ensures (not_found (λ (r : Routed). r.id) c.args.ticket.now.id m.out (among at None none)) ∙ ap refused told)

pub returns : goal.returns
returns c =
    let m = c.args.self.now in
    let at = (goal.at.returns c).After-ok_or in
    let row = there at c.in_ok-at.at (ap result_ok c.in_ok-at.was) in
    let within = (row no_row).0 in
    let enough = subst (λ rows. c.args.executed ≤ (get_or rows c.in_ok-at.at no_row).size) (c.deref-2.ensures.0 ∙ ap (λ (x : Model). x.out) c.self.view_is) c.if-executed-deref.false in
    (within, λ d. ((row d).1, all_pass (returning c.args.ticket.now c.args.executed c.args.lent.now) m c.in_ok-check_lent.ensures (get_or m.out c.in_ok-at.at d) (c.if-ticket-self.false ∙ same_series at) (omega (arith, enough, ap (λ (r : Routed). r.size) (get_or_default m.out c.in_ok-at.at d no_row within)))))
