use Rattle.rules.proofs.CallsKeep.{kept}
use Rattle.rules.proofs.Runs.{always_tradable}
use Rattle.rules.proofs.laws.every_call_keeps_the_book_sound.Goals as goal

pub returns : goal.returns
returns c = record { kept = kept; tradable = always_tradable }
