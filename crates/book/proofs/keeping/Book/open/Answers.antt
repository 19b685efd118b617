use Rattle.std.proofs.Common.{sym, subst}
use Rattle.rules.specs.Sound.{Sound}
use Rattle.laws.proofs.Every.{opened_sound}
use Rattle.book.specs.Books.{opening_call}
use Rattle.book.proofs.keeping.Book.open.Goals as goal
use Rattle.book.proofs.keeping.Book.open.Goals.{After-new}

-- what is opened is sound
sound : (c : After-new) → Sound c.new.result
sound c = subst Sound (sym c.new.ensures) (opened_sound (opening_call c.args.bids.now c.args.offers.now c.args.tick c.args.series) c.requires)

pub invariant_of-result : goal.invariant_of-result
invariant_of-result c = sound (goal.at.invariant_of-result c).After-new

pub returns-clause-sound : goal.returns-clause-sound
returns-clause-sound c = sound (goal.at.returns-clause-sound c).After-new
