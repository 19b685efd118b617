use Rattle.laws.specs.Histories.{longer}
use Rattle.laws.proofs.Every.{every_history}
use Rattle.laws.proofs.every_call_stays_lawful.Goals as goal

pub returns : goal.returns
returns c = λ m k h reached. every_history (longer k h)
