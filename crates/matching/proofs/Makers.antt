-- What steps 4 and 5 may ask of a rule, and that they have room. Assumes nothing.
use Rattle.std.proofs.Common.{◌≡◌, ℕ, ◌^◌, ◌<◌, ◌≤◌, Bool, true, false, ◌&&◌, leb, ◌⊎◌, List, [], ◌∷◌, map, length, filter, Option, sym, refl, ap, ◌∙◌, arith}
use Rattle.std.specs.List.{AllByRecursion}
use Rattle.std.proofs.ByRecursion.{All-weaker}
use Rattle.std.proofs.lemmas.Bool.Decides.{nat_tests}
use Rattle.std.proofs.lemmas.Bool.{cond-true, cond-false, eqb-true, le-leb}
use Rattle.sharing.specs.Claims.{Shareable}
use Rattle.sharing.specs.Rules.{by_time}
use Rattle.sharing.specs.InTurn.{by_time_lawful}
use Rattle.sharing.specs.Sharing.{Sharing, Lawful}
use Rattle.sharing.specs.Totals.{total}
use Rattle.sharing.specs.Allotted.{total_few}
use Rattle.rules.specs.declared.tape.Step.TheVariants.{GuaranteedQuotes, OtherInterest}
use Rattle.rules.specs.declared.terms.Entry.{Entry}
use Rattle.rules.specs.Guarantee.{group_amount}
use Rattle.rules.specs.Laws.{Tradable}
use Rattle.rules.specs.Level.{size_of, claim_of, Deal, step, step_all, in_class, in_group, acts, makers}
use Rattle.rules.specs.Ranks.{class_of}
use Rattle.rules.proofs.Chain.{beside}
use Rattle.rules.proofs.OnePrice.{group_class, group_one, beside_one, no_more, amount_within, fourth_ok}
use Rattle.rules.proofs.Steps.{step_shareable}
use Rattle.rules.proofs.Held.{Sized}
use Rattle.matching.specs.declared.lent.Lent.{Lent}
use Rattle.matching.specs.Deals.{bare, Asks, Dealt}
use Rattle.matching.specs.Parts.{live, shown_by}
use Rattle.matching.proofs.Deals.{step_all_adds, step_adds, Stands}
use Rattle.matching.proofs.Shown.{shown_is, shown_fits}
use Rattle.matching.proofs.Written.{writes_none}

-- what those who pass a test show at a price fits 32 bits
pub few_contracts : (t : Entry → Bool) (run : List Entry) → length (live run) ≤ 256 → AllByRecursion Sized (live run) → shown_by t run < 2 ^ 32
few_contracts t run few sized = let es = live run in shown_fits t run (omega (arith, total_few size_of 99999 es (All-weaker Sized (λ e. size_of e ≤ 99999) (λ e h. h.1) es sized)))

-- a rule may be asked about a class
pub class_shareable : (k : ℕ) (b : ℕ) (es : List Entry) → Tradable b es → Shareable b (map claim_of (filter (in_class k) es))
class_shareable k b es ok = step_shareable OtherInterest (in_class k) by_time by_time_lawful b (bare b es) k (λ e h. eqb-true (class_of e) k h) ok ok.small

-- an order comes to the makers at a price, of whom a group has the guarantee
pub record Meets (rule : Sharing) (at_best : Bool) (directed : Option ℕ) (b : ℕ) (run : List Entry) (lent : Lent) (g : Entry → Bool) : Type 0 where
  pub lawful : Lawful rule
  pub asks : Asks (makers rule at_best directed) run lent b
  pub group : g ≡ in_group directed (live run)

-- where the guarantee acts, by an amount
pub record Guaranteed (rule : Sharing) (at_best : Bool) (directed : Option ℕ) (b : ℕ) (run : List Entry) (lent : Lent) (g : Entry → Bool) (a : ℕ) : Type 0 where
  pub meets : Meets rule at_best directed b run lent g
  pub best : at_best ≡ true
  pub some : 0 < b
  pub shown : 0 < shown_by g run
  pub amount : a ≡ group_amount b (shown_by g run) (shown_by (in_class 4) run)

-- and where it does not
pub record Rests (rule : Sharing) (at_best : Bool) (directed : Option ℕ) (b : ℕ) (run : List Entry) (lent : Lent) (g : Entry → Bool) : Type 0 where
  pub meets : Meets rule at_best directed b run lent g
  pub why : (at_best ≡ false) ⊎ ((b < 1) ⊎ (shown_by g run < 1))

-- what those who pass a test show, and the makers' deal before its first line
abbrev shows : (Entry → Bool) → List Entry → ℕ
shows t run = total size_of (filter t (live run))

abbrev here : ℕ → List Entry → Deal
here b run = bare b (live run)

module _ {rule : Sharing} {at_best : Bool} {directed : Option ℕ} {b : ℕ} {run : List Entry} {lent : Lent} {g : Entry → Bool} where
  module _ (meets : Meets rule at_best directed b run lent g) where
    in_fourth : (e : Entry) → g e ≡ true → in_class 4 e ≡ true
    in_fourth e h = group_class directed (live run) e (ap (λ f. f e) (sym meets.group) ∙ h)

    pub group_less : shown_by g run ≤ shown_by (in_class 4) run
    group_less = omega (arith, no_more g in_fourth (live run), shown_is g run, shown_is (in_class 4) run)

    acts_as : acts at_best directed (here b run) ≡ (at_best && (leb 1 b && leb 1 (shows g run)))
    acts_as = ap (λ h. at_best && (leb 1 b && leb 1 (shows h run))) (sym meets.group)

  module _ {a : ℕ} (has : Guaranteed rule at_best directed b run lent g a) where
    abbrev fourth : Deal → Deal
    fourth = step GuaranteedQuotes g rule a

    abbrev fifth : Deal → Deal
    fifth = step_all OtherInterest (beside g) rule

    some_shown : 0 < shows g run
    some_shown = omega (arith, has.shown, shown_is g run)

    amount_is : a ≡ group_amount b (shows g run) (shows (in_class 4) run)
    amount_is = has.amount ∙ (λ t. group_amount b (shown_is g run t) (shown_is (in_class 4) run t))

    acting : acts at_best directed (here b run) ≡ true
    acting = acts_as has.meets ∙ (λ t. has.best t && (le-leb 1 b (omega (arith, has.some)) t && le-leb 1 (shows g run) some_shown t))

    makers_act : makers rule at_best directed (here b run) ≡ fifth (fourth (here b run))
    unfolding makers
    makers_act =
        cond-true (acts at_best directed (here b run)) _ _ acting
        ∙ (λ t. step_all OtherInterest (beside (sym has.meets.group t)) rule (step GuaranteedQuotes (sym has.meets.group t) rule (group_amount b (shows (sym has.meets.group t) run) (shows (in_class 4) run)) (here b run)))
        ∙ ap (λ n. fifth (step GuaranteedQuotes g rule n (here b run))) (sym amount_is)

    pub within_4 : a ≤ b
    within_4 = amount_within g (in_fourth has.meets) rule has.meets.lawful (here b run) has.meets.asks.tradable has.some some_shown a amount_is

    pub shareable_4 : Shareable a (map claim_of (filter g (live run)))
    shareable_4 =
        let ok = has.meets.asks.tradable in
        step_shareable GuaranteedQuotes g rule has.meets.lawful a (here b run) 4 (group_one g (in_fourth has.meets)) ok (omega (arith, within_4, ok.small))

    -- the group, and then the others
    pub stands : Stands (fourth ∷ fifth ∷ []) run lent (here b run) run lent b
    stands =
        let ok = has.meets.asks.tradable in
        record {
          steps = ((step_adds GuaranteedQuotes g rule a, ok), ((step_all_adds OtherInterest (beside g) rule, fourth_ok g (in_fourth has.meets) rule has.meets.lawful (here b run) ok has.some some_shown a amount_is), tt));
          room = rw makers_act at has.meets.asks.room;
          dealt = record { left = refl; entries = refl; places = refl; writes = writes_none lent };
        }

    pub shareable_5 : {run1 : List Entry} {lent1 : Lent} {b1 : ℕ} → Asks fifth run1 lent1 b1 → Shareable b1 (map claim_of (filter (beside g) (live run1)))
    shareable_5 {run1} {lent1} {b1} its = let ok = its.tradable in step_shareable OtherInterest (beside g) rule has.meets.lawful b1 (bare b1 (live run1)) 4 (beside_one g (in_fourth has.meets)) ok ok.small

    pub acted : {run1 : List Entry} {lent1 : Lent} {b1 : ℕ} → Stands [] run lent (fifth (fourth (here b run))) run1 lent1 b1 → Dealt (makers rule at_best directed (here b run)) run run1 lent lent1 b1
    acted done = rw makers_act done.dealt

  -- where the guarantee does not act: one step
  module _ (rests : Rests rule at_best directed b run lent g) where
    abbrev only : Deal → Deal
    only = step_all OtherInterest (in_class 4) rule

    resting : acts at_best directed (here b run) ≡ false
    resting = acts_as rests.meets ∙ grind (arith, nat_tests, rests.why, shown_is g run)

    makers_rest : makers rule at_best directed (here b run) ≡ only (here b run)
    unfolding makers
    makers_rest = cond-false (acts at_best directed (here b run)) _ _ resting

    pub asks_only : Asks only run lent b
    asks_only = let asks = rests.meets.asks in record { tradable = asks.tradable; room = rw makers_rest at asks.room }

    pub rested : {run1 : List Entry} {lent1 : Lent} {b1 : ℕ} → Dealt (only (here b run)) run run1 lent lent1 b1 → Dealt (makers rule at_best directed (here b run)) run run1 lent lent1 b1
    rested done = rw makers_rest done
