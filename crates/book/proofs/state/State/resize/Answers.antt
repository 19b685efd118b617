use Rattle.std.proofs.Common.{◌+◌, sym, ap, ◌∙◌, arith}
use Rattle.rules.specs.Calls.{enlarged}
use Rattle.rules.specs.Model.{Model, entries, with_entries, with_last_time, ranked_in}
use Rattle.book.proofs.Resized.{settles_smaller, settles_larger}
use Rattle.book.proofs.state.State.resize.Goals as goal

pub returns-then-size-e : goal.returns-then-size-e
returns-then-size-e c =
    let size = sym c.valid_size.ensures ∙ c.if-not-valid_size.false in
    settles_smaller _ _ _ c.in_ok-own.own c.if-firm-eq0.false size c.requires c.in_ok-own.ensures c.if-size-e.true c.replace.ensures

pub returns : goal.returns
returns c =
    let size = sym c.valid_size.ensures ∙ c.if-not-valid_size.false in
    let last = ap (λ (x : Model). x.counters.last_time) c.self.view_is in
    let own = c.in_ok-own.own in
    let gone = c.remove.new.self in
    settles_larger _ _ _ own c.if-firm-eq0.false size c.requires c.in_ok-own.ensures gone (omega (arith, c.if-size-e.false)) (sym c.last_time_reached.ensures ∙ c.if-last_time_reached.false) c.remove.ensures (c.insert.ensures ∙ ap (λ t. with_last_time (t + 1) (with_entries own.side (ranked_in own.side (enlarged c.args.size (t + 1) own.entry) (entries own.side gone)) gone)) last)
