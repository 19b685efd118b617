use Rattle.std.proofs.Common.{◌≡◌, ◌≤◌, length, take}
use Rattle.rules.specs.Model.{ranked_in}
use Rattle.book.proofs.Puts.{put}
use Rattle.book.proofs.book_side.BookSide.insert.Goals as goal
use Rattle.book.proofs.book_side.BookSide.insert.Goals.{After-insert}

-- the entry has come to its place
there : (c : After-insert) → let l = c.self.inside.list in let list = c.insert.new.self in (list.len ≤ length list.places.now) × (length list.places.now ≡ length l.places.now) × (take list.len list.places.now ≡ ranked_in l.ranking c.args.e (take l.len l.places.now))
there c =
    let l = c.self.inside.list in
    let after = c.insert.ensures in
    put l.ranking c.args.e l.places.now l.len c.self.invariant.within (rw (← c.self.view_is) at c.requires) c.insert.result _ _ after.cases after.places after.len

pub invariant_of-self : goal.invariant_of-self
invariant_of-self c = record { within = (there (goal.at.invariant_of-self c).After-insert).0; in_order = c.insert.ensures.sorted }

pub returns : goal.returns
returns c =
    let is = there (goal.at.returns c).After-insert in
    rw (← c.self.view_is) (λ t. record { side = c.insert.ensures.ranking t; entries = is.2 t; places = is.1 t; away = c.self.inside.away })
