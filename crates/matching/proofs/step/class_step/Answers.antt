use Rattle.rules.specs.Ranks.{class_number}
use Rattle.matching.proofs.Makers.{class_shareable}
use Rattle.matching.proofs.step.class_step.Goals as goal

pub step-requires-clause-shareable : goal.step-requires-clause-shareable
step-requires-clause-shareable g c = class_shareable (class_number c.args.class) _ _ c.requires.tradable
