use Rattle.std.proofs.Common.{◌∙◌, inl, inr, ⊎_elim, arith}
use Rattle.rules.specs.Guarantee.{group_amount}
use Rattle.matching.specs.Parts.{group_test}
use Rattle.matching.proofs.Deals.{asks, next}
use Rattle.matching.proofs.Makers.{Meets, Guaranteed, Rests, group_less, within_4, shareable_4, stands, shareable_5, acted, asks_only, rested}
use Rattle.matching.proofs.price.makers.Given as given
use Rattle.matching.proofs.price.makers.Goals as goal
use Rattle.matching.proofs.price.makers.Goals.{After-group_at-group, After-for_the_group-amount, Joined-else-at_best}

-- the order comes to the makers
-- Stays written out in the two records below as well: what is known at the three points is of three types.
meets : (g : given.Over) (c : After-group_at-group g) → Meets (g.R.Rule.meaning c.args.rule.now) c.args.at_best c.args.directed c.args.balance c.args.run.now c.args.lent.now (group_test c.group_at-group.result)
meets g c = record { lawful = g.met.R.Rule.lawful c.args.rule.now; asks = c.requires; group = c.group_at-group.ensures }

-- and the group has its amount
guaranteed : (g : given.Over) (c : After-for_the_group-amount g) → Guaranteed (g.R.Rule.meaning c.args.rule.now) c.args.at_best c.args.directed c.args.balance c.args.run.now c.args.lent.now (group_test c.group_at-group.result) c.for_the_group-amount.result
guaranteed g c = record {
  meets = record { lawful = g.met.R.Rule.lawful c.args.rule.now; asks = c.requires; group = c.group_at-group.ensures };
  best = c.if-at_best.true;
  some = c.if-balance-gt0.true;
  shown = omega (arith, c.shown-shows.ensures, c.if-shows-gt0.true);
  amount = c.for_the_group-amount.ensures ∙ (λ i. group_amount c.args.balance (c.shown-shows.ensures i) (c.shown-all.ensures i));
}

-- or there is no guarantee
rests : (g : given.Over) (c : Joined-else-at_best g) → Rests (g.R.Rule.meaning c.args.rule.now) c.args.at_best c.args.directed c.args.balance c.args.run.now c.args.lent.now (group_test c.group_at-group.result)
rests g c = record {
  meets = record { lawful = g.met.R.Rule.lawful c.args.rule.now; asks = c.requires; group = c.group_at-group.ensures };
  why = ⊎_elim (λ h. inr (inr (omega (arith, h.2, c.shown-shows.ensures)))) (λ more. ⊎_elim (λ h. inr (inl (omega (arith, h.1)))) (λ h. inl h) more) c.else-at_best.either;
}

pub for_the_group-amount-requires : goal.for_the_group-amount-requires
for_the_group-amount-requires g c =
    omega (arith, group_less (meets g (goal.at.for_the_group-amount-requires g c).After-group_at-group), c.shown-shows.ensures, c.shown-all.ensures, c.if-shows-gt0.true)

pub step-left-requires : goal.step-left-requires
step-left-requires g c =
    let has = guaranteed g (goal.at.step-left-requires g c).After-for_the_group-amount in
    record { shareable = shareable_4 has; amount = within_4 has; room = (asks (stands has)).room }

pub step-requires : goal.step-requires
step-requires g c =
    let has = guaranteed g (goal.at.step-requires g c).After-for_the_group-amount in
    let its = asks (next (stands has) c.step-left.ensures) in
    record { shareable = shareable_5 has its; amount = omega arith; room = its.room }

pub class_step-requires : goal.class_step-requires
class_step-requires g c = asks_only (rests g (goal.at.class_step-requires g c).Joined-else-at_best)

pub returns-then-shows-gt0 : goal.returns-then-shows-gt0
returns-then-shows-gt0 g c =
    let has = guaranteed g (goal.at.returns-then-shows-gt0 g c).After-for_the_group-amount in
    acted has (next (next (stands has) c.step-left.ensures) c.step.ensures)

pub returns-else-at_best : goal.returns-else-at_best
returns-else-at_best g c = rested (rests g (goal.at.returns-else-at_best g c).Joined-else-at_best) c.class_step.ensures
