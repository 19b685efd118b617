use Rattle.ranked.specs.Ranked.{ahead}
use Rattle.rules.specs.Ranks.{rank_of, rank_before}
use Rattle.book.proofs.Puts.{within_removed}
use Rattle.book.proofs.book_side.BookSide.remove.Goals as goal

pub invariant_of-self : goal.invariant_of-self
invariant_of-self c =
    let l = c.self.inside.list in
    let after = c.remove.ensures in
    record {
      within = within_removed c.remove.result l.len c.args.at l.places.now _ _ c.self.invariant.within (rw (← c.self.view_is) at c.requires) after.places after.len;
      in_order = rw after.ranking (after.keeps (ahead rank_before (λ _. rank_of) l.ranking) c.self.invariant.in_order);
    }
