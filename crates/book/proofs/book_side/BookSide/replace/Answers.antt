use Rattle.std.proofs.Common.{rules, take, arith}
use Rattle.std.proofs.SliceLists.{take-set}
use Rattle.std.proofs.lemmas.List.{length-set}
use Rattle.book.proofs.Puts.{set_in_order}
use Rattle.book.proofs.book_side.BookSide.replace.Goals as goal

pub returns : goal.returns
returns c = search (rules, take-set, length-set)

pub invariant_of-self : goal.invariant_of-self
invariant_of-self c =
    let l = c.self.inside.list in
    let e = c.args.e in
    record {
      within = omega (arith, c.self.invariant.within, length-set l.places.now c.args.at e);
      in_order = rw take-set (set_in_order l.ranking e (take l.len l.places.now) c.args.at (rw (← c.self.view_is) at c.requires.rank) c.self.invariant.in_order);
    }
