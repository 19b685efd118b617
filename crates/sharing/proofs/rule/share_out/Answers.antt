use Rattle.std.proofs.Common.{◌≡◌, ◌^◌, ◌<◌, min, sym, ap, ◌∙◌, subst, rules, arith}
use Rattle.std.specs.List.{sum_by}
use Rattle.sharing.specs.Claims.{Shareable, size_of, allotment_of}
use Rattle.sharing.specs.Totals.{total}
use Rattle.sharing.proofs.Shared.{shareable_again, shared_total, total_sum}
use Rattle.sharing.proofs.rule.share_out.Given as given
use Rattle.sharing.proofs.rule.share_out.Goals as goal
use Rattle.sharing.proofs.rule.share_out.Goals.{After-share}

-- the allotments that the rule wrote add up
allotted_in_all : (g : given.Over) (c : After-share g) → sum_by allotment_of c.share.new.claims ≡ min c.args.amount (total size_of c.args.claims.now)
allotted_in_all g c =
    sym (total_sum allotment_of c.share.new.claims)
    ∙ ap (total allotment_of) c.share.ensures
    ∙ shared_total (g.R.Rule.meaning c.args.rule.now) (g.met.R.Rule.lawful c.args.rule.now) c.args.amount c.args.claims.now c.requires

pub sum-requires-clause-fits : goal.sum-requires-clause-fits
sum-requires-clause-fits g c =
    let fits : sum_by allotment_of c.share.new.claims < 2 ^ 32 = omega (arith, allotted_in_all g (goal.at.sum-requires-clause-fits g c).After-share, c.requires.small) in
    search rules

pub returns-clause-value : goal.returns-clause-value
returns-clause-value g c =
    let chain : c.sum.result ≡ sum_by allotment_of c.share.new.claims = search rules in
    chain ∙ allotted_in_all g (goal.at.returns-clause-value g c).After-share

pub returns-clause-again : goal.returns-clause-again
returns-clause-again g c =
    subst (Shareable c.args.amount) (sym c.share.ensures) (shareable_again c.args.amount ((g.R.Rule.meaning c.args.rule.now).allotments c.args.amount c.args.claims.now) c.args.claims.now c.requires)
