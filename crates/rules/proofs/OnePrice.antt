-- One price under any lawful rule: the order or the price is exhausted. Assumes nothing.
use Rattle.std.proofs.Common.{◌≡◌, ℕ, ◌+◌, ◌-◌, ◌*◌, ◌/◌, ◌<◌, ◌≤◌, min, Bool, true, false, cond, not, ◌&&◌, eqb, ltb, leb, List, [], ◌∷◌, map, Some, None, filter, Option, sym, refl, ap, ◌∙◌, subst, inl, inr, ⊎_elim, mul-le-mul_right, mul_comm, add-mul, mul-le-mul_left, mul-add, arith}
use native.Mathlib.Nat.{div-le_of_le-mul}
use Rattle.std.specs.List.{AllByRecursion}
use Rattle.std.proofs.lemmas.Nat.{le-div}
use Rattle.std.proofs.lemmas.Bool.Decides.{nat_tests}
use Rattle.std.proofs.lemmas.Bool.{and_parts, and_right, eqb-true, ne_eqb, cond_both, leb-true, cases_lt}
use Rattle.sharing.specs.Rules.{by_time}
use Rattle.sharing.specs.Sharing.{Sharing, Lawful}
use Rattle.sharing.specs.Totals.{total, count}
use Rattle.sharing.specs.InTurn.{by_time_lawful}
use Rattle.rules.specs.declared.tape.Step.{Step}
use Rattle.rules.specs.declared.tape.Step.TheVariants.{CustomerMarketOrders, OtherMarketOrders, CustomerLimitOrders, GuaranteedQuotes, OtherInterest}
use Rattle.rules.specs.declared.terms.Entry.{Entry}
use Rattle.rules.specs.Checks.{is_barred}
use Rattle.rules.specs.Guarantee.{guaranteed, group_amount}
use Rattle.rules.specs.Laws.{traded_in, taken_from, holding, Tradable, OnePrice}
use Rattle.rules.specs.Level.{size_of, resized, Deal, step, in_class, quote_of, specialist, in_group, for_group, makers, barred_line, unbarred, level}
use Rattle.rules.specs.Ranks.{class_of}
use Rattle.rules.proofs.Chain.{beside, deal_0, deal_1, deal_2, deal_3, makers_by}
use Rattle.rules.proofs.Held.{Sized, held, held_kept}
use Rattle.rules.proofs.Steps.{unbarred_tradable, barred_split, balance_after, held_apart, held_within, traded_after, accounts_after, tradable_after, class_tradable}

-- a balance was offered to all of one class
record Offers (class : ℕ) (d e : Deal) : Type 0 where
  pub pays : e.balance ≡ d.balance - min d.balance (held (in_class class) d.run)
  pub takes : held (in_class class) e.run + min d.balance (held (in_class class) d.run) ≡ held (in_class class) d.run
  pub leaves : (j : ℕ) → (j ≡ class → ⊥) → held (in_class j) e.run ≡ held (in_class j) d.run
  pub lines : total traded_in e.lines ≡ total traded_in d.lines + min d.balance (held (in_class class) d.run)
  pub accounts : (i : ℕ) → holding i e.run + total (taken_from i) e.lines ≡ holding i d.run + total (taken_from i) d.lines
  pub ok : Tradable e.balance e.run

class_apart : (k j : ℕ) → (j ≡ k → ⊥) → (e : Entry) → in_class k e ≡ true → in_class j e ≡ false
class_apart k j differ e here = ne_eqb (class_of e) j (λ same. differ (sym same ∙ eqb-true (class_of e) k here))

-- steps 1, 2 and 3, and step 5 where no guarantee acts
whole_class : (s : Step) (k : ℕ) (rule : Sharing) → Lawful rule → (d : Deal) → Tradable d.balance d.run → Offers k d (step s (in_class k) rule d.balance d)
whole_class s k rule lawful d ok =
    let one : (e : Entry) → in_class k e ≡ true → class_of e ≡ k = λ e here. eqb-true (class_of e) k here in
    record {
      pays = balance_after s (in_class k) rule lawful d.balance d k one ok ok.small;
      takes = held_within s (in_class k) rule lawful d.balance d k one ok ok.small (in_class k) (λ n e. refl) (λ e here. here);
      leaves = λ j differ. held_apart s (in_class k) rule lawful d.balance d k one ok ok.small (in_class j) (λ n e. refl) (class_apart k j differ);
      lines = traded_after s (in_class k) rule lawful d.balance d k one ok ok.small;
      accounts = accounts_after s (in_class k) rule lawful d.balance d k one ok ok.small;
      ok = class_tradable s k rule lawful d ok;
    }

-- the share of the group leaves no more than the others show
share_covers : (r t s : ℕ) → t ≤ s → r < s → r + t ≤ r * t / s + s
share_covers r t s le lt =
    ⊎_elim
    (λ short. omega arith)
    (λ over.
    let x = r + t - s in
    let a = s - r in
    let b = s - t in
    let rs : r ≡ x + b = omega arith in
    let ts : t ≡ x + a = omega arith in
    let ss : s ≡ x + (a + b) = omega arith in
    let product : x * s ≤ r * t =
    subst (λ n. n ≤ r * t) (ap (λ n. x * n) (sym ss)) (subst (λ n. x * (x + (a + b)) ≤ n) (λ i. sym rs i * sym ts i)
    (omega (arith, mul-add x x (a + b), mul-add x a b, add-mul x b (x + a), mul-add x x a, mul-add b x a, mul_comm x b))) in
    omega (arith, le-div x (r * t) s (omega arith) product))
    (cases_lt (r + t) s)

two_fifths : (r : ℕ) → 1 ≤ r → guaranteed r ≤ r
two_fifths r some = omega arith

pub share_within : (r t s : ℕ) → t ≤ s → r * t / s ≤ r
share_within r t s le = div-le_of_le-mul s (subst (λ n. r * t ≤ n) (mul_comm r s) (mul-le-mul_left r le))

-- in all, the group and the others get the lesser of the balance and what they show
pub group_and_others : (r t s : ℕ) → 1 ≤ r → 1 ≤ t → t ≤ s → group_amount r t s + min (r - group_amount r t s) (s - t) ≡ min r s
group_and_others r t s some shown le =
    ⊎_elim
    (λ lt. omega (arith, share_covers r t s le lt, two_fifths r some, share_within r t s le))
    (λ ge. omega (arith, two_fifths r some, share_within r t s le, le-div t (r * t) s (omega arith) (subst (λ n. n ≤ r * t) (mul_comm s t) (subst (λ n. s * t ≤ n) refl (mul-le-mul_right t ge)))))
    (cases_lt r s)

pub held_mono : (p q : Entry → Bool) → ((e : Entry) → p e ≡ true → q e ≡ true) → (es : List Entry) → held p es ≤ held q es
held_mono p q wider [] = omega arith
held_mono p q wider (e ∷ es) = grind (arith, nat_tests, wider e, held_mono p q wider es)

-- what a test splits adds up
pub held_split : (q p : Entry → Bool) → ((e : Entry) → p e ≡ true → q e ≡ true) → (es : List Entry) → held p es + held (λ e. q e && not (p e)) es ≡ held q es
held_split q p inside [] = refl
held_split q p inside (e ∷ es) = grind (arith, nat_tests, inside e, held_split q p inside es)

-- the group is part of the fourth class, whatever its entries hold
module _ (directed : Option ℕ) (es : List Entry) where
  pub group_class : (e : Entry) → in_group directed es e ≡ true → in_class 4 e ≡ true
  group_class = by directed
    where
      quotes : (f : ℕ) (e : Entry) → quote_of f e ≡ true → in_class 4 e ≡ true
      quotes f e h = (and_parts (in_class 4 e) _ h).0

      specialists : (e : Entry) → specialist e ≡ true → in_class 4 e ≡ true
      specialists e h = (and_parts (in_class 4 e) _ h).0

      by : (o : Option ℕ) → (e : Entry) → in_group o es e ≡ true → in_class 4 e ≡ true
      by None = specialists
      by (Some f) = cond_both (ltb 0 (count (quote_of f) es)) (quote_of f) specialist (λ g. (e : Entry) → g e ≡ true → in_class 4 e ≡ true) (λ _. quotes f) (λ _. specialists)

  pub group_steady : (n : ℕ) (e : Entry) → in_group directed es (resized n e) ≡ in_group directed es e
  group_steady = by directed
    where
      by : (o : Option ℕ) → (n : ℕ) (e : Entry) → in_group o es (resized n e) ≡ in_group o es e
      by None = λ n e. refl
      by (Some f) = cond_both (ltb 0 (count (quote_of f) es)) (quote_of f) specialist (λ g. (n : ℕ) (e : Entry) → g (resized n e) ≡ g e) (λ _ n e. refl) (λ _ n e. refl)

-- a group within the fourth class, and the others
module _ (group : Entry → Bool) (inside : (e : Entry) → group e ≡ true → in_class 4 e ≡ true) where
  pub group_one : (e : Entry) → group e ≡ true → class_of e ≡ 4
  group_one e h = eqb-true (class_of e) 4 (inside e h)

  beside_fourth : (e : Entry) → beside group e ≡ true → in_class 4 e ≡ true
  beside_fourth e h = (and_parts (in_class 4 e) (not (group e)) h).0

  pub beside_one : (e : Entry) → beside group e ≡ true → class_of e ≡ 4
  beside_one e h = eqb-true (class_of e) 4 (beside_fourth e h)

  pub no_more : (es : List Entry) → total size_of (filter group es) ≤ total size_of (filter (in_class 4) es)
  no_more es = omega (arith, held_kept group es, held_kept (in_class 4) es, held_mono group (in_class 4) inside es)

  module _ (rule : Sharing) (lawful : Lawful rule) (d : Deal) (ok : Tradable d.balance d.run) (some : 1 ≤ d.balance) (shown : 1 ≤ total size_of (filter group d.run))
      (amount : ℕ) (is : amount ≡ group_amount d.balance (total size_of (filter group d.run)) (total size_of (filter (in_class 4) d.run))) where
    shown_is : total size_of (filter group d.run) ≡ held group d.run
    shown_is = held_kept group d.run

    all_is : total size_of (filter (in_class 4) d.run) ≡ held (in_class 4) d.run
    all_is = held_kept (in_class 4) d.run

    in_all : amount + min (d.balance - amount) (total size_of (filter (in_class 4) d.run) - total size_of (filter group d.run)) ≡ min d.balance (total size_of (filter (in_class 4) d.run))
    in_all = (λ t. is t + min (d.balance - is t) (total size_of (filter (in_class 4) d.run) - total size_of (filter group d.run)))
        ∙ group_and_others d.balance (total size_of (filter group d.run)) (total size_of (filter (in_class 4) d.run)) some shown (no_more d.run)

    pub amount_within : amount ≤ d.balance
    amount_within = omega (arith, in_all)

    amount_shown : amount ≤ total size_of (filter group d.run)
    amount_shown = omega (arith, is)

    pub amount_small : amount < 100000
    amount_small = omega (arith, amount_within, ok.small)

    -- step 4
    abbrev fourth : Deal
    fourth = step GuaranteedQuotes group rule amount d

    pub fourth_ok : Tradable fourth.balance fourth.run
    fourth_ok = tradable_after GuaranteedQuotes group rule lawful amount d 4 group_one ok amount_small

    fourth_pays : fourth.balance ≡ d.balance - amount
    fourth_pays = balance_after GuaranteedQuotes group rule lawful amount d 4 group_one ok amount_small ∙ omega (arith, amount_shown, shown_is)

    fourth_takes : held (in_class 4) fourth.run + amount ≡ held (in_class 4) d.run
    fourth_takes = omega (arith, held_within GuaranteedQuotes group rule lawful amount d 4 group_one ok amount_small (in_class 4) (λ n e. refl) inside, amount_shown, shown_is)

    -- step 5, where the group is the same whatever its entries hold
    module _ (steady : (n : ℕ) (e : Entry) → group (resized n e) ≡ group e) where
      others_steady : (n : ℕ) (e : Entry) → beside group (resized n e) ≡ beside group e
      others_steady n e = ap (λ b. in_class 4 e && not b) (steady n e)

      others_apart : (e : Entry) → group e ≡ true → beside group e ≡ false
      others_apart e h = ap (λ b. in_class 4 e && not b) h ∙ and_right (in_class 4 e) false refl

      fourth_others : held (beside group) fourth.run ≡ held (in_class 4) d.run - held group d.run
      fourth_others = omega (arith, held_apart GuaranteedQuotes group rule lawful amount d 4 group_one ok amount_small (beside group) others_steady others_apart, held_split (in_class 4) group inside d.run)

      abbrev fifth : Deal
      fifth = step OtherInterest (beside group) rule fourth.balance fourth

      fifth_gives : amount + min fourth.balance (held (beside group) fourth.run) ≡ min d.balance (held (in_class 4) d.run)
      fifth_gives = omega (arith, in_all, fourth_pays, fourth_others, shown_is, all_is)

      guaranteed_offer : Offers 4 d fifth
      guaranteed_offer = record {
        pays = omega (arith, balance_after OtherInterest (beside group) rule lawful fourth.balance fourth 4 beside_one fourth_ok fourth_ok.small, fourth_pays, fifth_gives);
        takes = omega (arith, held_within OtherInterest (beside group) rule lawful fourth.balance fourth 4 beside_one fourth_ok fourth_ok.small (in_class 4) (λ n e. refl) beside_fourth, fourth_takes, fifth_gives);
        leaves = λ j differ.
            held_apart OtherInterest (beside group) rule lawful fourth.balance fourth 4 beside_one fourth_ok fourth_ok.small (in_class j) (λ n e. refl) (λ e h. class_apart 4 j differ e (beside_fourth e h))
            ∙ held_apart GuaranteedQuotes group rule lawful amount d 4 group_one ok amount_small (in_class j) (λ n e. refl) (λ e h. class_apart 4 j differ e (inside e h));
        lines = omega (arith, traded_after OtherInterest (beside group) rule lawful fourth.balance fourth 4 beside_one fourth_ok fourth_ok.small, traded_after GuaranteedQuotes group rule lawful amount d 4 group_one ok amount_small, fifth_gives, amount_shown, shown_is);
        accounts = λ i. accounts_after OtherInterest (beside group) rule lawful fourth.balance fourth 4 beside_one fourth_ok fourth_ok.small i ∙ accounts_after GuaranteedQuotes group rule lawful amount d 4 group_one ok amount_small i;
        ok = tradable_after OtherInterest (beside group) rule lawful fourth.balance fourth 4 beside_one fourth_ok fourth_ok.small;
      }

-- steps 4 and 5 offer the balance to the fourth class
makers_offer : (rule : Sharing) → Lawful rule → (at_best : Bool) (directed : Option ℕ) (d : Deal) → Tradable d.balance d.run → Offers 4 d (makers rule at_best directed d)
makers_offer rule lawful at_best directed d ok =
    makers_by (Offers 4 d) rule at_best directed d
    (λ yes.
    let group = in_group directed d.run in
    let meets = (and_parts at_best _ yes).1 in
    let both = and_parts (leb 1 d.balance) _ meets in
    guaranteed_offer group (group_class directed d.run) rule lawful d ok (leb-true 1 d.balance both.0) (leb-true 1 (total size_of (filter group d.run)) both.1) (for_group directed d) refl (group_steady directed d.run))
    (λ _. whole_class OtherInterest 4 rule lawful d ok)

-- every entry is of one of four classes
by_class : (es : List Entry) → total size_of es ≡ ((held (in_class 1) es + held (in_class 2) es) + held (in_class 3) es) + held (in_class 4) es
by_class [] = refl
by_class (e ∷ es) = grind (arith, nat_tests, by_class es)

nothing_left : (es : List Entry) → AllByRecursion Sized es → total size_of es ≡ 0 → es ≡ []
nothing_left [] sized none = refl
nothing_left (e ∷ es) sized none = absurd (omega (arith, sized.0.0))

barred_lines : (es : List Entry) → total traded_in (map barred_line es) ≡ 0
barred_lines [] = refl
barred_lines (e ∷ es) = omega (arith, barred_lines es)

-- four offers in turn: what was given is the lesser of the balance and all that stood there
module _ (d0 d1 d2 d3 d4 : Deal) (s1 : Offers 1 d0 d1) (s2 : Offers 2 d1 d2) (s3 : Offers 3 d2 d3) (s4 : Offers 4 d3 d4) where
  second : held (in_class 2) d1.run ≡ held (in_class 2) d0.run
  second = s1.leaves 2 (λ e. omega arith)

  third : held (in_class 3) d2.run ≡ held (in_class 3) d0.run
  third = s2.leaves 3 (λ e. omega arith) ∙ s1.leaves 3 (λ e. omega arith)

  last : held (in_class 4) d3.run ≡ held (in_class 4) d0.run
  last = s3.leaves 4 (λ e. omega arith) ∙ s2.leaves 4 (λ e. omega arith) ∙ s1.leaves 4 (λ e. omega arith)

  left_1 : held (in_class 1) d4.run ≡ held (in_class 1) d1.run
  left_1 = s4.leaves 1 (λ e. omega arith) ∙ s3.leaves 1 (λ e. omega arith) ∙ s2.leaves 1 (λ e. omega arith)

  left_2 : held (in_class 2) d4.run ≡ held (in_class 2) d2.run
  left_2 = s4.leaves 2 (λ e. omega arith) ∙ s3.leaves 2 (λ e. omega arith)

  left_3 : held (in_class 3) d4.run ≡ held (in_class 3) d3.run
  left_3 = s4.leaves 3 (λ e. omega arith)

  -- what each class gave
  abbrev g1 : ℕ
  g1 = min d0.balance (held (in_class 1) d0.run)

  abbrev g2 : ℕ
  g2 = min d1.balance (held (in_class 2) d1.run)

  abbrev g3 : ℕ
  g3 = min d2.balance (held (in_class 3) d2.run)

  abbrev g4 : ℕ
  g4 = min d3.balance (held (in_class 4) d3.run)

  paid : d4.balance ≡ d0.balance - min d0.balance (total size_of d0.run)
  paid = omega (arith, s1.pays, s2.pays, s3.pays, s4.pays, second, third, last, by_class d0.run)

  gave_4 : ((g1 + g2) + g3) + g4 ≡ min d0.balance (total size_of d0.run)
  gave_4 = omega (arith, s1.pays, s2.pays, s3.pays, s4.pays, second, third, last, by_class d0.run)

  given : total traded_in d4.lines ≡ total traded_in d0.lines + min d0.balance (total size_of d0.run)
  given = omega (arith, s1.lines, s2.lines, s3.lines, s4.lines, gave_4)

  left : total size_of d4.run + min d0.balance (total size_of d0.run) ≡ total size_of d0.run
  left = omega (arith, by_class d4.run, by_class d0.run, gave_4, left_1, left_2, left_3, s1.takes, s2.takes, s3.takes, s4.takes, second, third, last)

pub one_price : OnePrice
unfolding level unbarred
one_price rule lawful o at_best balance run ok =
    let free : Entry → Bool = λ e. not (is_barred o.firm o.own_firm_mark e) in
    let d0 = deal_0 rule o balance run in
    let d1 = deal_1 rule o balance run in
    let d2 = deal_2 rule o balance run in
    let d3 = deal_3 rule o balance run in
    let d4 = makers rule at_best o.directed d3 in
    let s1 = whole_class CustomerMarketOrders 1 by_time by_time_lawful d0 (unbarred_tradable o balance run ok) in
    let s2 = whole_class OtherMarketOrders 2 rule lawful d1 s1.ok in
    let s3 = whole_class CustomerLimitOrders 3 by_time by_time_lawful d2 s2.ok in
    let s4 = makers_offer rule lawful at_best o.directed d3 s3.ok in
    let barred_accounts : (i : ℕ) → holding i d0.run + total (taken_from i) d0.lines ≡ holding i run = λ i. omega (arith, barred_split (taken_from i) (λ e. cond (eqb e.id i) e.size 0) (λ e. refl) (is_barred o.firm o.own_firm_mark) run) in
    let none = barred_lines (filter (is_barred o.firm o.own_firm_mark) run) in
    let lines = given d0 d1 d2 d3 d4 s1 s2 s3 s4 in
    let balances = paid d0 d1 d2 d3 d4 s1 s2 s3 s4 in
    let rest = left d0 d1 d2 d3 d4 s1 s2 s3 s4 in
    record {
      adds_up = omega (arith, none, lines);
      pays = omega (arith, none, lines, balances);
      accounts = λ i. s4.accounts i ∙ s3.accounts i ∙ s2.accounts i ∙ s1.accounts i ∙ barred_accounts i;
      ends = ⊎_elim
          (λ fewer. inl (omega (arith, balances)))
          (λ enough. inr (nothing_left d4.run s4.ok.sized (omega (arith, rest))))
          (cases_lt balance (total size_of (filter free run)));
    }
