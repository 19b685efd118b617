use Rattle.std.proofs.Common.{◌≡◌, ◌∙◌, arith}
use Rattle.std.proofs.lemmas.Grind.{common_steps}
use Rattle.rules.specs.Caps.{collar_of}
use Rattle.rules.proofs.Collars.{rulebook_gives}
use Rattle.rules.proofs.terms.Side.collar.Goals as goal

pub returns-in-Sell-clause-rulebook : goal.returns-in-Sell-clause-rulebook
returns-in-Sell-clause-rulebook c =
    let value : c.unwrap_or.result ≡ collar_of c.args.self c.args.tick c.args.limit c.args.reference = grind (arith, common_steps) in
    λ tick price. value ∙ rulebook_gives c.args.self c.args.tick c.args.limit c.args.reference tick price
