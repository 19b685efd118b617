use Rattle.book.proofs.Settled.{stays_lawful}
use Rattle.book.proofs.keeping.Book.market.Goals as goal

pub returns-clause-lawful : goal.returns-clause-lawful
returns-clause-lawful c = stays_lawful _ _
