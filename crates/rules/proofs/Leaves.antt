-- What is left of entries, and how many lines name one. Assumes nothing.
use Rattle.std.proofs.Common.{◌≡◌, ℕ, ◌+◌, ◌≤◌, Bool, true, not, ◌&&◌, eqb, List, [], ◌∷◌, ◌++◌, map, length, filter, Option, refl, ap, ◌∙◌, arith}
use Rattle.std.proofs.lemmas.Bool.Decides.{nat_tests}
use Rattle.std.proofs.lemmas.Bool.{cond_both}
use Rattle.sharing.specs.Rules.{by_time}
use Rattle.sharing.specs.Sharing.{Sharing}
use Rattle.sharing.specs.Totals.{one_if, count}
use Rattle.sharing.specs.Allotted.{total_append}
use Rattle.rules.specs.declared.tape.Line.{Line}
use Rattle.rules.specs.declared.tape.Line.TheVariants.{Fill}
use Rattle.rules.specs.declared.tape.Step.{Step}
use Rattle.rules.specs.declared.tape.Step.TheVariants.{CustomerMarketOrders, OtherMarketOrders, CustomerLimitOrders, GuaranteedQuotes, OtherInterest}
use Rattle.rules.specs.declared.terms.Entry.{Entry}
use Rattle.rules.specs.declared.terms.Routed.{Routed}
use Rattle.rules.specs.Checks.{is_barred}
use Rattle.rules.specs.Laws.{names, LeftOf, RunsAreWhole}
use Rattle.rules.specs.Level.{claim_of, first_or_0, but_first, spread, resized, fills, Deal, step, in_class, in_group, for_group, makers, barred_line, unbarred, level}
use Rattle.rules.specs.Walk.{into_runs, runs, flat}
pub use Rattle.rules.proofs.LeftOver.{left_refl, left_trans, left_append, left_kept, left_given, count_left}
use Rattle.rules.proofs.Chain.{beside, deal_0, deal_1, deal_2, deal_3, makers_by, level_by}
use Rattle.rules.proofs.OnePrice.{group_class, group_steady}
use Rattle.rules.proofs.Steps.{barred_split}

pub step_leaves : (k : Step) (test : Entry → Bool) (rule : Sharing) (amount : ℕ) (d : Deal) → LeftOf d.run (step k test rule amount d).run
unfolding step
step_leaves k test rule amount d = left_given _ d.run

-- a test of lines and one of entries that agree on a fill and on a cancel of a barred entry, whatever is left of it
pub record Agree (named : Line → Bool) (mine : Entry → Bool) : Type 0 where
  pub fill : (e : Entry) (n : ℕ) (k : Step) → named (Fill e.id e.firm n e.price k) ≡ mine e
  pub barred : (e : Entry) → named (barred_line e) ≡ mine e
  pub steady : (n : ℕ) (e : Entry) → mine (resized n e) ≡ mine e

-- a step has no more such lines than such entries that pass its test
module _ (named : Line → Bool) (mine : Entry → Bool) (agree : Agree named mine) where
  fills_once : (k : Step) (test : Entry → Bool) (ns : List ℕ) (es : List Entry) → count named (fills k (spread test ns es) es) ≤ count (λ e. test e && mine e) es
  fills_once k test ns [] = omega arith
  fills_once k test ns (e ∷ es) = grind (arith, nat_tests, agree.fill e (first_or_0 ns) k, fills_once k test (but_first ns) es, fills_once k test ns es)

  step_picked : (k : Step) (test : Entry → Bool) (rule : Sharing) (amount : ℕ) (d : Deal) → count named (step k test rule amount d).lines ≤ count named d.lines + count (λ e. test e && mine e) d.run
  unfolding step
  step_picked k test rule amount d =
      let ns = rule.allotments amount (map claim_of (filter test d.run)) in
      omega (arith, total_append (λ l. one_if (named l)) d.lines (fills k (spread test ns d.run) d.run), fills_once k test ns d.run)

-- the lines that name an id, and the entries with it
by_id : (i : ℕ) → Agree (names i) (λ e. eqb e.id i)
by_id i = record { fill = λ e n k. refl; barred = λ e. refl; steady = λ n e. refl }

pub step_once : (i : ℕ) (k : Step) (test : Entry → Bool) (rule : Sharing) (amount : ℕ) (d : Deal) → count (names i) (step k test rule amount d).lines ≤ count (names i) d.lines + count (λ e. test e && eqb e.id i) d.run
step_once i = step_picked (names i) (λ e. eqb e.id i) (by_id i)

into_whole : (e : Entry) (rs : List (List Entry)) → flat (into_runs e rs) ≡ e ∷ flat rs
into_whole e [] = refl
into_whole e ([] ∷ rs) = refl
into_whole e ((f ∷ fs) ∷ rs) = cond_both (eqb e.price f.price) ((e ∷ f ∷ fs) ∷ rs) ((e ∷ []) ∷ (f ∷ fs) ∷ rs) (λ l. flat l ≡ e ∷ f ∷ (fs ++ flat rs)) (λ _. refl) (λ _. refl)

pub runs_are_whole : RunsAreWhole
runs_are_whole [] = refl
runs_are_whole (e ∷ es) = into_whole e (runs es) ∙ ap (λ l. e ∷ l) (runs_are_whole es)

count_two : (c g q : Entry → Bool) → ((e : Entry) → g e ≡ true → c e ≡ true) → (es : List Entry) → count (λ e. g e && q e) es + count (λ e. (c e && not (g e)) && q e) es ≤ count (λ e. c e && q e) es
count_two c g q only [] = omega arith
count_two c g q only (e ∷ es) = grind (arith, nat_tests, only e, count_two c g q only es)

-- the entries of a class among those that a test picks
abbrev of_class : (Entry → Bool) → ℕ → Entry → Bool
of_class mine k e = in_class k e && mine e

count_classes : (mine : Entry → Bool) (es : List Entry) → ((count (of_class mine 1) es + count (of_class mine 2) es) + count (of_class mine 3) es) + count (of_class mine 4) es ≡ count mine es
count_classes mine [] = refl
count_classes mine (e ∷ es) = grind (arith, nat_tests, count_classes mine es)

module _ (named : Line → Bool) (mine : Entry → Bool) (agree : Agree named mine) where
  makers_picked : (rule : Sharing) (at_best : Bool) (directed : Option ℕ) (d : Deal) → count named (makers rule at_best directed d).lines ≤ count named d.lines + count (of_class mine 4) d.run
  makers_picked rule at_best directed d =
      let group = in_group directed d.run in
      let others = beside group in
      let fourth = step GuaranteedQuotes group rule (for_group directed d) d in
      makers_by (λ e. count named e.lines ≤ count named d.lines + count (of_class mine 4) d.run) rule at_best directed d
      (λ _.
      let fewer_left = count_left (λ e. others e && mine e) (λ n e. λ t. (in_class 4 e && not (group_steady directed d.run n e t)) && agree.steady n e t) (step_leaves GuaranteedQuotes group rule (for_group directed d) d) in
      omega (arith, step_picked named mine agree OtherInterest others rule fourth.balance fourth, step_picked named mine agree GuaranteedQuotes group rule (for_group directed d) d, fewer_left, count_two (in_class 4) group mine (group_class directed d.run) d.run))
      (λ _. step_picked named mine agree OtherInterest (in_class 4) rule d.balance d)

  count_barred : (barred : Entry → Bool) (es : List Entry) → count named (map barred_line (filter barred es)) + count mine (filter (λ e. not (barred e)) es) ≡ count mine es
  count_barred = barred_split (λ l. one_if (named l)) (λ e. one_if (mine e)) (λ e. ap one_if (agree.barred e))

pub makers_once : (i : ℕ) (rule : Sharing) (at_best : Bool) (directed : Option ℕ) (d : Deal) → count (names i) (makers rule at_best directed d).lines ≤ count (names i) d.lines + count (of_class (λ e. eqb e.id i) 4) d.run
makers_once i = makers_picked (names i) (λ e. eqb e.id i) (by_id i)

count_all : {X : Type 0} (xs : List X) → count (λ _. true) xs ≡ length xs
count_all [] = refl
count_all (x ∷ xs) = omega (arith, count_all xs)

module _ (rule : Sharing) (o : Routed) (at_best : Bool) (balance : ℕ) (run : List Entry) where
  pub level_leaves : LeftOf run (level rule o at_best balance run).run
  unfolding unbarred
  level_leaves =
      level_by (λ d. LeftOf run d.run) (λ k test r amount d h. left_trans h (step_leaves k test r amount d))
      rule o at_best balance run (left_kept (λ e. not (is_barred o.firm o.own_firm_mark e)) run)

  module _ (named : Line → Bool) (mine : Entry → Bool) (agree : Agree named mine) where
    of_class_left : (k : ℕ) {es fs : List Entry} → LeftOf es fs → count (of_class mine k) fs ≤ count (of_class mine k) es
    of_class_left k = count_left (of_class mine k) (λ n e. ap (λ b. in_class k e && b) (agree.steady n e))

    level_lines : count named (level rule o at_best balance run).lines ≤ count named (unbarred o balance run).lines + count mine (unbarred o balance run).run
    unfolding level
    level_lines =
        let e0 = deal_0 rule o balance run in
        let e1 = deal_1 rule o balance run in
        let e2 = deal_2 rule o balance run in
        let e3 = deal_3 rule o balance run in
        let to_1 = step_leaves CustomerMarketOrders (in_class 1) by_time e0.balance e0 in
        let to_2 = left_trans to_1 (step_leaves OtherMarketOrders (in_class 2) rule e1.balance e1) in
        let to_3 = left_trans to_2 (step_leaves CustomerLimitOrders (in_class 3) by_time e2.balance e2) in
        let s1 = step_picked named mine agree CustomerMarketOrders (in_class 1) by_time e0.balance e0 in
        let s2 = step_picked named mine agree OtherMarketOrders (in_class 2) rule e1.balance e1 in
        let s3 = step_picked named mine agree CustomerLimitOrders (in_class 3) by_time e2.balance e2 in
        let s4 = makers_picked named mine agree rule at_best o.directed e3 in
        omega (arith, count_classes mine e0.run, of_class_left 2 to_1, of_class_left 3 to_2, of_class_left 4 to_3)

    level_picked : count named (level rule o at_best balance run).lines ≤ count mine run
    unfolding unbarred
    level_picked = omega (arith, level_lines, count_barred named mine agree (is_barred o.firm o.own_firm_mark) run)

  pub level_once : (i : ℕ) → count (names i) (level rule o at_best balance run).lines ≤ count (λ e. eqb e.id i) run
  level_once i = level_picked (names i) (λ e. eqb e.id i) (by_id i)

  -- no more lines than entries
  pub level_short : length (level rule o at_best balance run).lines ≤ length run
  level_short =
      let some = level_picked (λ _. true) (λ _. true) (record { fill = λ e n k. refl; barred = λ e. refl; steady = λ n e. refl }) in
      omega (arith, count_all (level rule o at_best balance run).lines, count_all run)
