-- What stands at a price when the steps begin, and one step under any lawful rule. Assumes nothing.
use Rattle.std.proofs.Common.{◌≡◌, ℕ, ◌+◌, ◌-◌, ◌<◌, ◌≤◌, min, Bool, true, false, not, eqb, List, [], ◌∷◌, map, length, filter, refl, ap, ◌∙◌, subst, arith}
use mathlib.Core.List.{map-map}
use Rattle.std.specs.List.{AllZip}
use Rattle.std.proofs.lemmas.List.Elements.{length_all_zip}
use Rattle.std.proofs.ByRecursion.{all_kept_by, All-map}
use Rattle.std.proofs.lemmas.Bool.{eqb-true}
use Rattle.std.proofs.lemmas.Bool.Decides.{nat_tests}
use Rattle.std.proofs.lemmas.List.{length-map}
use Rattle.sharing.specs.Claims as claims
use Rattle.sharing.specs.Claims.{Shareable}
use Rattle.sharing.specs.Sharing.{Sharing, Lawful}
use Rattle.sharing.specs.Totals.{total}
use Rattle.sharing.specs.Allotted.{total_append}
use Rattle.sharing.specs.ToppedUp.{total_map}
use Rattle.sharing.proofs.Shared.{as_many}
use Rattle.rules.specs.declared.tape.Line.{Line}
use Rattle.rules.specs.declared.tape.Step.{Step}
use Rattle.rules.specs.declared.terms.Entry.{Entry}
use Rattle.rules.specs.declared.terms.Routed.{Routed}
use Rattle.rules.specs.Checks.{is_barred}
use Rattle.rules.specs.Laws.{traded_in, taken_from, holding, Tradable}
use Rattle.rules.specs.Level.{size_of, claim_of, spread, resized, fills, Deal, step, in_class, barred_line, unbarred, step_all}
use Rattle.rules.specs.Ranks.{class_of}
use Rattle.rules.proofs.Held.{Sized, held, held_kept, held_left, given_away, given_within, spread_within, total_fills, taken_fills, sized_left, length_left, by_time_left, by_time_kept, length_kept, ascending_kept}

-- what may trade at a price still may where the barred entries are gone
pub unbarred_tradable : (o : Routed) (b : ℕ) (run : List Entry) → Tradable b run → Tradable (unbarred o b run).balance (unbarred o b run).run
unfolding unbarred
unbarred_tradable o b run ok =
    let free : Entry → Bool = λ e. not (is_barred o.firm o.own_firm_mark e) in
    record {
      few = omega (arith, length_kept free run, ok.few);
      small = ok.small;
      sized = all_kept_by free Sized run ok.sized;
      timed = by_time_kept free run ok.timed;
    }

-- where the line of a barred entry says of it what the entry says of itself, a sum over the lines and those left is one over all
pub barred_split : (f : Line → ℕ) (g : Entry → ℕ) → ((e : Entry) → f (barred_line e) ≡ g e) → (barred : Entry → Bool) (es : List Entry) → total f (map barred_line (filter barred es)) + total g (filter (λ e. not (barred e)) es) ≡ total g es
barred_split f g same barred [] = refl
barred_split f g same barred (e ∷ es) = grind (arith, nat_tests, same e, barred_split f g same barred es)

module _ (k : Step) (test : Entry → Bool) (rule : Sharing) (lawful : Lawful rule) (amount : ℕ) (d : Deal)
    (class : ℕ) (one : (e : Entry) → test e ≡ true → class_of e ≡ class) (ok : Tradable d.balance d.run) (small : amount < 100000) where
  numbers : List ℕ
  numbers = rule.allotments amount (map claim_of (filter test d.run))

  -- a rule may be asked about the claims of a step
  pub step_shareable : Shareable amount (map claim_of (filter test d.run))
  step_shareable = record {
    few = omega (arith, length-map (filter test d.run) claim_of, length_kept test d.run, ok.few);
    small = small;
    sized = All-map (λ c. (1 ≤ c.size) × (c.size ≤ 99999)) claim_of (filter test d.run) (all_kept_by test Sized d.run ok.sized);
    timed = ascending_kept test class one d.run ok.timed;
  }

  -- what the step gives
  gives : total (λ n. n) numbers ≡ min amount (held test d.run)
  unfolding numbers
  gives = lawful.adds_up amount (map claim_of (filter test d.run)) step_shareable ∙ ap (min amount) (total_map claim_of claims.size_of (filter test d.run) ∙ held_kept test d.run)

  within : AllZip ◌≤◌ numbers (map size_of (filter test d.run))
  unfolding numbers
  within = subst (AllZip ◌≤◌ (rule.allotments amount (map claim_of (filter test d.run)))) (map-map claims.size_of claim_of (filter test d.run)) (lawful.within amount (map claim_of (filter test d.run)) step_shareable)

  long : length numbers ≡ length (filter test d.run)
  unfolding numbers
  long = as_many rule lawful amount (map claim_of (filter test d.run)) step_shareable ∙ length-map (filter test d.run) claim_of

  gave : List ℕ
  gave = spread test numbers d.run

  gave_within : AllZip ◌≤◌ gave (map size_of d.run)
  unfolding gave
  gave_within = spread_within test numbers d.run within

  abbrev pub after : Deal
  after = step k test rule amount d

  pub balance_after : after.balance ≡ d.balance - min amount (held test d.run)
  unfolding step numbers
  balance_after = ap (λ n. d.balance - n) gives

  -- entries that are not in the step hold what they held
  pub held_apart : (q : Entry → Bool) → ((n : ℕ) (e : Entry) → q (resized n e) ≡ q e) → ((e : Entry) → test e ≡ true → q e ≡ false) → held q after.run ≡ held q d.run
  unfolding step numbers gave
  held_apart q steady apart = omega (arith, held_left q steady gave d.run gave_within, given_away test q apart numbers d.run)

  -- where all of the step's entries count, what was given is gone
  pub held_within : (q : Entry → Bool) → ((n : ℕ) (e : Entry) → q (resized n e) ≡ q e) → ((e : Entry) → test e ≡ true → q e ≡ true) → held q after.run + min amount (held test d.run) ≡ held q d.run
  unfolding step numbers gave
  held_within q steady wider = omega (arith, held_left q steady gave d.run gave_within, given_within test q wider numbers d.run long, gives)

  pub traded_after : total traded_in after.lines ≡ total traded_in d.lines + min amount (held test d.run)
  unfolding step numbers gave
  traded_after =
      total_append traded_in d.lines (fills k gave d.run)
      ∙ ap (λ n. total traded_in d.lines + n) (total_fills k gave d.run (length_all_zip ◌≤◌ gave (map size_of d.run) gave_within ∙ length-map d.run size_of) ∙ given_within test (λ _. true) (λ e h. refl) numbers d.run long ∙ gives)

  -- each entry lost what the lines that name it say
  pub accounts_after : (i : ℕ) → holding i after.run + total (taken_from i) after.lines ≡ holding i d.run + total (taken_from i) d.lines
  unfolding step numbers gave
  accounts_after i =
      let lines = total_append (taken_from i) d.lines (fills k gave d.run) in
      let taken = taken_fills i k gave d.run (length_all_zip ◌≤◌ gave (map size_of d.run) gave_within ∙ length-map d.run size_of) in
      omega (arith, lines, taken, held_left (λ e. eqb e.id i) (λ n e. refl) gave d.run gave_within)

  pub tradable_after : Tradable after.balance after.run
  unfolding step numbers gave
  tradable_after = record {
    few = omega (arith, length_left gave d.run, ok.few);
    small = omega (arith, ok.small, balance_after);
    sized = sized_left gave d.run ok.sized;
    timed = by_time_left gave d.run ok.timed;
  }

-- a step of one class at the whole balance leaves what may trade
pub class_tradable : (k : Step) (class : ℕ) (rule : Sharing) → Lawful rule → (d : Deal) → Tradable d.balance d.run → Tradable (step_all k (in_class class) rule d).balance (step_all k (in_class class) rule d).run
class_tradable k class rule lawful d ok = tradable_after k (in_class class) rule lawful d.balance d class (λ e h. eqb-true (class_of e) class h) ok ok.small
