use Rattle.std.proofs.Common.{◌≡◌, length, ap, arith}
use Rattle.rules.specs.declared.terms.Routed.{Routed}
use Rattle.rules.specs.Trade.{sized, traded}
use Rattle.book.specs.Endings.{meant}
use Rattle.matching.proofs.Written.{length_after}
use Rattle.book.proofs.Ends.{routed_may, rests_room, lines_within, left_out, traded_on}
use Rattle.book.proofs.state.State.trade.Given as given
use Rattle.book.proofs.state.State.trade.Goals as goal
use Rattle.book.proofs.state.State.trade.Goals.{After-meet}

-- what is left of the order
abbrev left : (g : given.Over) (c : After-meet g) → Routed
left g c = sized c.meet.result c.args.order.now

left_is : (g : given.Over) (c : After-meet g) → left g c ≡ sized (traded (g.R.Rule.meaning c.args.rule.now) c.args.order.now c.args.self.now).balance c.args.order.now
left_is g c = ap (λ n. sized n c.args.order.now) c.meet.ensures.balance

pub write-requires : goal.write-requires
write-requires g c =
    let met = c.meet.ensures.writes in
    let few = lines_within (g.R.Rule.meaning c.args.rule.now) c.args.order.now c.args.self.now c.requires.sound in
    record { room = omega (arith, met.lines, length_after met (omega (arith, few, c.requires.room.tape)), few, c.requires.room.tape) }

pub settle-requires-clause-rows : goal.settle-requires-clause-rows
settle-requires-clause-rows g c = λ is.
    let o = left g (goal.at.settle-requires-clause-rows g c).After-meet in
    omega (arith, c.requires.rows (routed_may o c.args.may_route o.size c.meet.new.self (meant c.end_of-end.result) c.end_of-end.ensures is), ap length (left_out (g.R.Rule.meaning c.args.rule.now) c.args.order.now c.args.self.now c.meet.ensures.after))

pub settle-requires-clause-room : goal.settle-requires-clause-room
settle-requires-clause-room g c = let o = left g (goal.at.settle-requires-clause-room g c).After-meet in rests_room o c.args.may_route o.size c.meet.new.self (meant c.end_of-end.result) c.end_of-end.ensures

pub returns : goal.returns
returns g c =
    let rule = g.R.Rule.meaning c.args.rule.now in
    traded_on rule c.args.order.now c.args.self.now c.meet.ensures.after c.args.may_route (left_is g (goal.at.returns g c).After-meet) c.end_of-end.ensures
    c.meet.ensures.writes c.line.ensures c.write.ensures.writes (omega (arith, c.requires.room.tape, lines_within rule c.args.order.now c.args.self.now c.requires.sound)) c.settle.ensures c.gone_out.ensures
