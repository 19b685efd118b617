use Rattle.std.proofs.Common.{length, take, ap, arith}
use Rattle.std.proofs.lemmas.List.{length-take}
use Rattle.rules.specs.Walk.{runs}
use Rattle.rules.proofs.AllPrices.{all_prices}
use Rattle.rules.proofs.Leaves.{runs_are_whole}
use Rattle.book.proofs.Puts.{left_in_order}
use Rattle.book.proofs.book_side.BookSide.meet.Goals as goal

pub invariant_of-self : goal.invariant_of-self
invariant_of-self g c =
    let l = c.self.inside.list in
    let es = take l.len l.places.now in
    let o = c.args.order.now in
    let tradable = rw (← c.self.view_is) at c.requires.tradable in
    let whole = all_prices (g.R.Rule.meaning c.args.rule.now) (g.met.R.Rule.lawful c.args.rule.now) o c.national_best-national.result c.self.inside.away o.size (runs es) tradable in
    let leaves = c.walk_first-walked.ensures in
    record {
      within = omega (arith, leaves.left, ap length leaves.entries, length-take c.walk_first-walked.result.left c.walk_first-walked.new.places);
      in_order = rw leaves.entries (left_in_order l.ranking (rw (runs_are_whole es) at whole.leaves) c.self.invariant.in_order);
    }
