-- What one price does, told by five rounds. Assumes nothing.
use Rattle.std.proofs.Common.{◌≡◌, ℕ, ◌+◌, ◌-◌, ◌<◌, ◌≤◌, min, Bool, true, false, not, ◌&&◌, leb, ◌⊎◌, List, [], ◌∷◌, ◌++◌, map, length, filter, Option, sym, refl, ap, ◌∙◌, subst, ⊎_elim, arith}
use Rattle.std.proofs.lemmas.List.{append-nil}
use Rattle.std.proofs.lemmas.List.Elements.{filter_agree}
use Rattle.std.proofs.lemmas.Bool.{both_ways, and_parts, eqb-true, leb-true, not-true}
use Rattle.sharing.specs.Rules.{by_time}
use Rattle.sharing.specs.Sharing.{Sharing, Lawful}
use Rattle.sharing.specs.Totals.{total}
use Rattle.sharing.specs.InTurn.{by_time_lawful}
use Rattle.rules.specs.declared.tape.Line.{Line}
use Rattle.rules.specs.declared.tape.Step.{Step}
use Rattle.rules.specs.declared.tape.Step.TheVariants.{CustomerMarketOrders, OtherMarketOrders, CustomerLimitOrders, GuaranteedQuotes, OtherInterest}
use Rattle.rules.specs.declared.terms.Entry.{Entry}
use Rattle.rules.specs.declared.terms.Routed.{Routed}
use Rattle.rules.specs.Checks.{is_barred}
use Rattle.rules.specs.Guarantee.{group_amount}
use Rattle.rules.specs.Laws.{Tradable}
use Rattle.rules.specs.Level.{size_of, claim_of, fills, Deal, step, in_class, quote_of, in_group, acts, for_group, makers, step_all, barred_line, unbarred, level}
use Rattle.rules.specs.Ranks.{class_of}
use Rattle.rules.proofs.Chain.{beside, deal_0, deal_1, deal_2, deal_3, makers_by}
use Rattle.rules.proofs.Held.{held_kept}
use Rattle.rules.proofs.OnePrice.{group_class, group_steady, group_one, beside_one, no_more, share_within, group_and_others, held_split}
use Rattle.rules.proofs.Steps.{unbarred_tradable}
use Rattle.laws.proofs.Lists.{every}
use Rattle.laws.proofs.Rounds.{none_pass, ComesTo, next, group_same}
use Rattle.laws.proofs.Shares.{Shared, long, shared}

-- what the guaranteed group shows, and what its class shows
abbrev pub group_size : Option ℕ → List Entry → ℕ
group_size directed run = total size_of (filter (in_group directed run) run)

abbrev pub class_size : List Entry → ℕ
class_size run = total size_of (filter (in_class 4) run)

-- the group where the guarantee acts, and nobody where it does not
module _ (a : Bool) (directed : Option ℕ) (run : List Entry) where
  abbrev pub acting_group : Entry → Bool
  acting_group e = a && in_group directed run e

  -- the entries of steps 4 and 5
  abbrev pub fourth : List Entry
  fourth = filter acting_group run

  abbrev pub fifth : List Entry
  fifth = filter (beside acting_group) run

  pub acting_class : (e : Entry) → acting_group e ≡ true → in_class 4 e ≡ true
  acting_class e h = group_class directed run e (and_parts a (in_group directed run e) h).1

pub amount_small : (r t s : ℕ) → t ≤ s → r < 100000 → group_amount r t s < 100000
amount_small r t s le small = omega (arith, share_within r t s le)

pub none_kept : (es : List Entry) → filter (λ e. false) es ≡ []
none_kept es = none_pass (λ e. false) es (every (λ e. false ≡ false) (λ e. refl) es)

all_fifth : (c : Bool) → c ≡ (c && true)
all_fifth true = refl
all_fifth false = refl

no_numbers : (ns : List ℕ) → length ns ≡ 0 → ns ≡ []
no_numbers [] none = refl
no_numbers (n ∷ ns) none = absurd (omega arith)

-- an entry of a class in front of this one
abbrev Past : ℕ → Entry → Type 0
Past c e = class_of e < c

abbrev class_numbers : Sharing → List Entry → ℕ → ℕ → List ℕ
class_numbers rule run b c = rule.allotments b (map claim_of (filter (in_class c) run))

module _ (rule : Sharing) (lawful : Lawful rule) (b0 : ℕ) (run : List Entry) (ok : Tradable b0 run) (b : ℕ) (le : b ≤ b0) (c : ℕ) where
  class_shared : Shared rule b (filter (in_class c) run) (class_numbers rule run b c)
  class_shared = shared rule lawful b0 run ok b (omega (arith, ok.small)) (in_class c) c (λ e h. eqb-true (class_of e) c h)

  -- a step of the whole class, after those of the classes in front
  class_next : (k : Step) (lines : List Line) (d : Deal) → ComesTo run (Past c) b lines d → ComesTo run (Past (c + 1)) (b - total (λ n. n) (class_numbers rule run b c)) (lines ++ fills k (class_numbers rule run b c) (filter (in_class c) run)) (step_all k (in_class c) rule d)
  class_next k lines d at =
      let after = next run (Past c) b lines d at k (in_class c) rule d.balance b at.balance (λ n e. refl) (λ e h was. omega (arith, eqb-true (class_of e) c h)) (long rule b (filter (in_class c) run) (class_numbers rule run b c) class_shared) in
      record {
        balance = after.balance;
        tape = after.tape;
        sized = after.sized;
        same = λ q still away. after.same q still (λ e yes. ⊎_elim (λ was. away e yes (omega arith)) (λ here. away e yes (omega (arith, eqb-true (class_of e) c here))));
      }

module _ (rule : Sharing) (lawful : Lawful rule) (directed : Option ℕ) (b0 : ℕ) (run : List Entry) (ok : Tradable b0 run) (b : ℕ) (le : b ≤ b0) where
  abbrev pub group_gets : ℕ
  group_gets = group_amount b (group_size directed run) (class_size run)

  abbrev pub fourths : Bool → List ℕ
  fourths a = rule.allotments group_gets (map claim_of (fourth a directed run))

  pub fourth_shared : (a : Bool) → Shared rule group_gets (fourth a directed run) (fourths a)
  fourth_shared a =
      shared rule lawful b0 run ok group_gets (amount_small b (group_size directed run) (class_size run) (no_more (in_group directed run) (group_class directed run) run) (omega (arith, ok.small)))
      (acting_group a directed run) 4 (group_one (acting_group a directed run) (acting_class a directed run))

  abbrev pub rest : Bool → ℕ
  rest a = b - total (λ n. n) (fourths a)

  abbrev pub fifths : Bool → List ℕ
  fifths a = rule.allotments (rest a) (map claim_of (fifth a directed run))

  pub fifth_shared : (a : Bool) → Shared rule (rest a) (fifth a directed run) (fifths a)
  fifth_shared a = shared rule lawful b0 run ok (rest a) (omega (arith, ok.small)) (beside (acting_group a directed run)) 4 (beside_one (acting_group a directed run) (acting_class a directed run))

  none_fourth : fourths false ≡ []
  none_fourth = no_numbers (fourths false) (long rule group_gets (fourth false directed run) (fourths false) (fourth_shared false) ∙ ap length (none_kept run))

  module _ (lines : List Line) (d : Deal) (at : ComesTo run (Past 4) b lines d) where
    -- the balance and the lines after steps 4 and 5
    abbrev Told : Bool → Deal → Type 0
    Told a e = (e.balance ≡ rest a - total (λ n. n) (fifths a)) × (e.lines ≡ (lines ++ fills GuaranteedQuotes (fourths a) (fourth a directed run)) ++ fills OtherInterest (fifths a) (fifth a directed run))

    later : (e : Entry) → in_class 4 e ≡ true → Past 4 e → ⊥
    later e h was = omega (arith, eqb-true (class_of e) 4 h)

    groups : in_group directed d.run ≡ in_group directed run
    groups = group_same directed d.run run (λ firm. at.same (quote_of firm) (λ n e. refl) (λ e h. later e (and_parts (in_class 4 e) _ h).0))

    kept_group : filter (in_group directed d.run) d.run ≡ filter (in_group directed run) run
    kept_group = ap (λ (g : Entry → Bool). filter g d.run) groups ∙ at.same (in_group directed run) (group_steady directed run) (λ e h. later e (group_class directed run e h))

    kept_class : filter (in_class 4) d.run ≡ filter (in_class 4) run
    kept_class = at.same (in_class 4) (λ n e. refl) later

    abbrev step_4 : (Entry → Bool) → Deal
    step_4 g = step GuaranteedQuotes g rule (for_group directed d) d

    abbrev both : (Entry → Bool) → Deal
    both g = step OtherInterest (beside g) rule (step_4 g).balance (step_4 g)

    with_group : Told true (both (in_group directed run))
    with_group =
        let g = in_group directed run in
        let inside = group_class directed run in
        let steady = group_steady directed run in
        let amounts : for_group directed d ≡ group_gets = λ t. group_amount (at.balance t) (total size_of (kept_group t)) (total size_of (kept_class t)) in
        let one = next run (Past 4) b lines d at GuaranteedQuotes g rule (for_group directed d) group_gets amounts steady (λ e h. later e (inside e h)) (long rule group_gets (filter g run) (fourths true) (fourth_shared true)) in
        let two = next run (λ e. Past 4 e ⊎ (g e ≡ true)) (rest true) (lines ++ fills GuaranteedQuotes (fourths true) (filter g run)) (step_4 g) one OtherInterest (beside g) rule
        (step_4 g).balance (rest true) one.balance
        (λ n e. ap (λ c. in_class 4 e && not c) (steady n e))
        (λ e h. let parts = and_parts (in_class 4 e) (not (g e)) h in ⊎_elim (later e parts.0) (both_ways (g e) (not-true (g e) parts.1)))
        (long rule (rest true) (fifth true directed run) (fifths true) (fifth_shared true)) in
        (two.balance, two.tape)

    without : Told false (step_all OtherInterest (in_class 4) rule d)
    without =
        let same : filter (in_class 4) run ≡ fifth false directed run = filter_agree (in_class 4) (λ e. in_class 4 e && true) (λ e. all_fifth (in_class 4 e)) run in
        let left : b ≡ rest false = omega (arith, ap (total (λ n. n)) none_fourth) in
        let numbers : class_numbers rule run b 4 ≡ fifths false = λ t. rule.allotments (left t) (map claim_of (same t)) in
        let one = class_next rule lawful b0 run ok b le 4 OtherInterest lines d at in
        let empty : lines ≡ lines ++ fills GuaranteedQuotes (fourths false) (fourth false directed run) = sym (append-nil lines) ∙ ap (λ l. lines ++ fills GuaranteedQuotes l (fourth false directed run)) (sym none_fourth) in
        (one.balance ∙ (λ t. left t - total (λ n. n) (numbers t)), one.tape ∙ (λ t. empty t ++ fills OtherInterest (numbers t) (same t)))

    pub makers_told : (at_best : Bool) → Told (at_best && (leb 1 b && leb 1 (group_size directed run))) (makers rule at_best directed d)
    makers_told at_best =
        let accords : acts at_best directed d ≡ (at_best && (leb 1 b && leb 1 (group_size directed run))) = λ t. at_best && (leb 1 (at.balance t) && leb 1 (total size_of (kept_group t))) in
        makers_by (Told (at_best && (leb 1 b && leb 1 (group_size directed run)))) rule at_best directed d
        (λ yes. subst (λ c. Told c (both (in_group directed d.run))) (sym yes ∙ accords) (subst (λ g. Told true (both g)) (sym groups) with_group))
        (λ no. subst (λ c. Told c (step_all OtherInterest (in_class 4) rule d)) (sym no ∙ accords) without)

-- the five rounds at a price: their numbers, and the balance after each
pub record Five (rule : Sharing) (directed : Option ℕ) (at_best : Bool) (b0 : ℕ) (run : List Entry) : Type 0 where
  pub n1 : List ℕ
  pub b1 : ℕ
  pub n2 : List ℕ
  pub b2 : ℕ
  pub n3 : List ℕ
  pub b3 : ℕ
  pub a : Bool
  pub n4 : List ℕ
  pub b4 : ℕ
  pub n5 : List ℕ
  pub b5 : ℕ
  pub turn1 : n1 ≡ by_time.allotments b0 (map claim_of (filter (in_class 1) run))
  pub turn3 : n3 ≡ by_time.allotments b2 (map claim_of (filter (in_class 3) run))
  pub is_a : a ≡ (at_best && (leb 1 b3 && leb 1 (group_size directed run)))
  pub s1 : Shared by_time b0 (filter (in_class 1) run) n1
  pub s2 : Shared rule b1 (filter (in_class 2) run) n2
  pub s3 : Shared by_time b2 (filter (in_class 3) run) n3
  pub s4 : Shared rule (group_amount b3 (group_size directed run) (class_size run)) (fourth a directed run) n4
  pub s5 : Shared rule b4 (fifth a directed run) n5
  pub p1 : b1 ≡ b0 - total (λ n. n) n1
  pub p2 : b2 ≡ b1 - total (λ n. n) n2
  pub p3 : b3 ≡ b2 - total (λ n. n) n3
  pub p4 : b4 ≡ b3 - total (λ n. n) n4
  pub p5 : b5 ≡ b4 - total (λ n. n) n5
  -- where anything is left, steps 4 and 5 gave all that there was
  pub spent : 1 ≤ b5 → (total (λ n. n) n4 ≡ total size_of (fourth a directed run)) × (total (λ n. n) n5 ≡ total size_of (fifth a directed run))

-- the lines of the rounds, one after another
module _ {rule : Sharing} {directed : Option ℕ} {at_best : Bool} {b0 : ℕ} {run : List Entry} (f : Five rule directed at_best b0 run) (lines : List Line) where
  abbrev pub lines_1 : List Line
  lines_1 = lines ++ fills CustomerMarketOrders f.n1 (filter (in_class 1) run)

  abbrev pub lines_2 : List Line
  lines_2 = lines_1 ++ fills OtherMarketOrders f.n2 (filter (in_class 2) run)

  abbrev pub lines_3 : List Line
  lines_3 = lines_2 ++ fills CustomerLimitOrders f.n3 (filter (in_class 3) run)

  abbrev pub lines_4 : List Line
  lines_4 = lines_3 ++ fills GuaranteedQuotes f.n4 (fourth f.a directed run)

  abbrev pub lines_5 : List Line
  lines_5 = lines_4 ++ fills OtherInterest f.n5 (fifth f.a directed run)

module _ (directed : Option ℕ) (run : List Entry) (at_best : Bool) (b : ℕ) where
  spending : (a : Bool) → (at_best && (leb 1 b && leb 1 (group_size directed run))) ≡ a → (n4 n5 : ℕ) → n4 ≡ min (group_amount b (group_size directed run) (class_size run)) (total size_of (fourth a directed run)) → n5 ≡ min (b - n4) (total size_of (fifth a directed run)) → 1 ≤ (b - n4) - n5 →
      (n4 ≡ total size_of (fourth a directed run)) × (n5 ≡ total size_of (fifth a directed run))
  spending true is n4 n5 four five more =
      let meets = and_parts (leb 1 b) (leb 1 (group_size directed run)) (and_parts at_best (leb 1 b && leb 1 (group_size directed run)) is).1 in
      let g = in_group directed run in
      let split : group_size directed run + total size_of (filter (beside g) run) ≡ class_size run = (λ t. held_kept g run t + held_kept (beside g) run t) ∙ held_split (in_class 4) g (group_class directed run) run ∙ sym (held_kept (in_class 4) run) in
      let in_all = group_and_others b (group_size directed run) (class_size run) (leb-true 1 b meets.0) (leb-true 1 (group_size directed run) meets.1) (no_more g (group_class directed run) run) in
      let last : n5 ≡ total size_of (filter (beside g) run) = omega (arith, split, in_all, four, five, more) in
      (omega (arith, split, in_all, four, five, more), last)
  spending false is n4 n5 four five more =
      let none = ap (total size_of) (none_kept run) in
      (omega (arith, four, none), omega (arith, four, five, none, more))

-- what one price does to entries, of which these are not barred
pub record LevelTold (rule : Sharing) (o : Routed) (at_best : Bool) (b0 : ℕ) (all run : List Entry) : Type 0 where
  pub five : Five rule o.directed at_best b0 run
  pub balance : (level rule o at_best b0 all).balance ≡ five.b5
  pub lines : (level rule o at_best b0 all).lines ≡ lines_5 five (map barred_line (filter (is_barred o.firm o.own_firm_mark) all))

module _ (rule : Sharing) (lawful : Lawful rule) (o : Routed) (at_best : Bool) (b0 : ℕ) (all : List Entry) where
  unbarred_told : Tradable b0 (deal_0 rule o b0 all).run → LevelTold rule o at_best b0 all (deal_0 rule o b0 all).run
  unfolding level unbarred
  unbarred_told ok =
      let run = (deal_0 rule o b0 all).run in
      let start = (deal_0 rule o b0 all).lines in
      let n1 = class_numbers by_time run b0 1 in
      let b1 = b0 - total (λ n. n) n1 in
      let n2 = class_numbers rule run b1 2 in
      let b2 = b1 - total (λ n. n) n2 in
      let n3 = class_numbers by_time run b2 3 in
      let b3 = b2 - total (λ n. n) n3 in
      let le_0 : b0 ≤ b0 = omega arith in
      let le_1 : b1 ≤ b0 = omega arith in
      let le_2 : b2 ≤ b0 = omega arith in
      let le_3 : b3 ≤ b0 = omega arith in
      let z0 : ComesTo run (Past 1) b0 start (deal_0 rule o b0 all) = record { balance = refl; tape = refl; sized = ok.sized; same = λ q still away. refl } in
      let z1 = class_next by_time by_time_lawful b0 run ok b0 le_0 1 CustomerMarketOrders start (deal_0 rule o b0 all) z0 in
      let lines1 = start ++ fills CustomerMarketOrders n1 (filter (in_class 1) run) in
      let z2 = class_next rule lawful b0 run ok b1 le_1 2 OtherMarketOrders lines1 (deal_1 rule o b0 all) z1 in
      let lines2 = lines1 ++ fills OtherMarketOrders n2 (filter (in_class 2) run) in
      let z3 = class_next by_time by_time_lawful b0 run ok b2 le_2 3 CustomerLimitOrders lines2 (deal_2 rule o b0 all) z2 in
      let lines3 = lines2 ++ fills CustomerLimitOrders n3 (filter (in_class 3) run) in
      let told = makers_told rule lawful o.directed b0 run ok b3 le_3 lines3 (deal_3 rule o b0 all) z3 at_best in
      let a = at_best && (leb 1 b3 && leb 1 (group_size o.directed run)) in
      let s4 = fourth_shared rule lawful o.directed b0 run ok b3 le_3 a in
      let s5 = fifth_shared rule lawful o.directed b0 run ok b3 le_3 a in
      let n4 = fourths rule lawful o.directed b0 run ok b3 le_3 a in
      let b4 = rest rule lawful o.directed b0 run ok b3 le_3 a in
      let n5 = fifths rule lawful o.directed b0 run ok b3 le_3 a in
      let b5 = b4 - total (λ n. n) n5 in
      record {
        five = record {
          n1 = n1;
          b1 = b1;
          n2 = n2;
          b2 = b2;
          n3 = n3;
          b3 = b3;
          a = a;
          n4 = n4;
          b4 = b4;
          n5 = n5;
          b5 = b5;
          turn1 = refl;
          turn3 = refl;
          is_a = refl;
          s1 = class_shared by_time by_time_lawful b0 run ok b0 le_0 1;
          s2 = class_shared rule lawful b0 run ok b1 le_1 2;
          s3 = class_shared by_time by_time_lawful b0 run ok b2 le_2 3;
          s4 = s4;
          s5 = s5;
          p1 = refl;
          p2 = refl;
          p3 = refl;
          p4 = refl {a = b4};
          p5 = refl {a = b5};
          spent = spending o.directed run at_best b3 a refl (total (λ n. n) n4) (total (λ n. n) n5) s4.adds_up s5.adds_up;
        };
        balance = told.0;
        lines = told.1;
      }

  pub level_told : Tradable b0 all → (run : List Entry) → filter (λ e. not (is_barred o.firm o.own_firm_mark e)) all ≡ run → LevelTold rule o at_best b0 all run
  unfolding unbarred
  level_told ok run same = subst (LevelTold rule o at_best b0 all) same (unbarred_told (unbarred_tradable o b0 all ok))
