use Rattle.laws.proofs.Every.{every_history}
use Rattle.laws.proofs.every_history_is_lawful.Goals as goal

pub returns : goal.returns
returns c = every_history
