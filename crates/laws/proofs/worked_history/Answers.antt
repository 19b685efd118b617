use Rattle.laws.proofs.WorkedHistory.{worked_history}
use Rattle.laws.proofs.worked_history.Goals as goal

pub returns : goal.returns
returns c = worked_history
