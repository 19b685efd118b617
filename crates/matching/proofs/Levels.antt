-- One price: its steps, and where an order stands before the first. Assumes nothing.
use Rattle.std.proofs.Common.{◌≡◌, ℕ, Bool, not, List, [], ◌∷◌, map, length, filter, refl, arith}
use Rattle.sharing.specs.Rules.{by_time}
use Rattle.sharing.specs.Sharing.{Sharing, Lawful}
use Rattle.sharing.specs.InTurn.{by_time_lawful}
use Rattle.rules.specs.declared.tape.Step.TheVariants.{CustomerMarketOrders, OtherMarketOrders, CustomerLimitOrders}
use Rattle.rules.specs.declared.terms.Entry.{Entry}
use Rattle.rules.specs.declared.terms.Routed.{Routed}
use Rattle.rules.specs.Checks.{is_barred}
use Rattle.rules.specs.Laws.{Tradable}
use Rattle.rules.specs.Level.{Deal, makers, barred_line, unbarred, level}
use Rattle.rules.proofs.Chain.{step_1, step_2, step_3}
use Rattle.rules.proofs.Leaves.{level_short}
use Rattle.rules.proofs.Steps.{unbarred_tradable, class_tradable}
use Rattle.matching.specs.declared.lent.Lent.{Lent}
use Rattle.matching.specs.Parts.{live}
use Rattle.matching.specs.Tapes.{Room, Writes}
use Rattle.matching.proofs.Deals.{step_all_adds, makers_adds, Stands}

-- the steps at a price
abbrev pub steps : Sharing → Routed → Bool → List (Deal → Deal)
steps rule o at_best = step_1 ∷ step_2 rule ∷ step_3 ∷ makers rule at_best o.directed ∷ []

module _ (rule : Sharing) (o : Routed) (at_best : Bool) {b : ℕ} {run run1 : List Entry} {lent lent1 : Lent} where
  -- an order stands without the barred entries before the first step
  pub begins : Lawful rule → Tradable b run → Room (length run) (length run) lent → live run1 ≡ filter (λ e. not (is_barred o.firm o.own_firm_mark e)) run → length run1 ≡ length run → Writes (map barred_line (filter (is_barred o.firm o.own_firm_mark) run)) lent lent1 → Stands (steps rule o at_best) run lent (unbarred o b run) run1 lent1 b
  unfolding unbarred level
  begins lawful ok room entries places writes =
      let ok_0 = unbarred_tradable o b run ok in
      let ok_1 = class_tradable CustomerMarketOrders 1 by_time by_time_lawful _ ok_0 in
      let ok_2 = class_tradable OtherMarketOrders 2 rule lawful _ ok_1 in
      let ok_3 = class_tradable CustomerLimitOrders 3 by_time by_time_lawful _ ok_2 in
      record {
        steps = ((step_all_adds _ _ _, ok_0), ((step_all_adds _ _ _, ok_1), ((step_all_adds _ _ _, ok_2), ((makers_adds rule at_best o.directed, ok_3), tt))));
        room = record { sheet = room.sheet; tape = omega (arith, level_short rule o at_best b run, room.tape) };
        dealt = record { left = refl; entries = entries; places = places; writes = writes };
      }
