-- A price to which an order came, read from the tape of its call. Assumes nothing.
use Rattle.std.proofs.Common.{◌≡◌, ℕ, ◌+◌, ◌<◌, ◌≤◌, min, Bool, true, cond, not, ◌&&◌, eqb, ltb, leb, List, ◌++◌, map, length, filter, sym, ap, ◌∙◌, subst, arith}
use Rattle.std.specs.List.{AllZip, AllByRecursion}
use Rattle.std.proofs.ByRecursion.{All-weaker, all_kept_by, kept_by_passes}
use Rattle.std.proofs.lemmas.Bool.Decides.{nat_tests}
use Rattle.std.proofs.lemmas.Bool.{false≢true, and_parts, eqb-true}
use Rattle.sharing.specs.Rules.{by_time}
use Rattle.sharing.specs.Sharing.{Sharing}
use Rattle.sharing.specs.Totals.{total}
use Rattle.sharing.specs.Allotted.{total_append}
use Rattle.sharing.specs.ToppedUp.{total_map}
use Rattle.rules.specs.declared.tape.Line.{Line}
use Rattle.rules.specs.declared.tape.Step.{Step}
use Rattle.rules.specs.declared.tape.Step.TheVariants.{CustomerMarketOrders, OtherMarketOrders, CustomerLimitOrders, GuaranteedQuotes, OtherInterest}
use Rattle.rules.specs.declared.terms.Entry.{Entry}
use Rattle.rules.specs.Guarantee.{guaranteed, group_amount}
use Rattle.rules.specs.Laws.{traded_in}
use Rattle.rules.specs.Level.{size_of, claim_of, fills, in_class, in_group}
use Rattle.rules.specs.Numbers.{step_number}
use Rattle.rules.specs.Ranks.{is_customer}
use Rattle.rules.specs.Sides.{other_side, is_better}
use Rattle.rules.proofs.Chain.{beside}
use Rattle.laws.specs.Accounts.{got}
use Rattle.laws.specs.Makers.{gets, is_shared, Served}
use Rattle.laws.specs.Scenes.{Scene, is_free, earlier, free_at, is_national, is_guaranteed, guaranteed_at, balance_at, they_show, all_show, reaches_makers, step_of, claimants, shared_amount}
use Rattle.laws.proofs.Levels.{acting_group, acting_class, fourth, fifth, Five, lines_1, lines_2, lines_3, lines_4, lines_5}
use Rattle.laws.proofs.Rounds.{kept_same}
use Rattle.laws.proofs.Shares.{long, each_trans, each_total}
use Rattle.laws.proofs.Tapes.{Priced, all_priced, better_earlier, worse_later, earlier_fills, each_gets}
use Rattle.laws.proofs.Turns.{Part}

-- the order came to a price with a balance; the tape is what was before, the lines of the rounds, and what came after
pub record Visit (sc : Scene) (p b0 : ℕ) : Type 0 where
  pub five : Five sc.rule sc.directed (is_national sc p) b0 (free_at sc p)
  pub front : List Line
  pub start : List Line
  pub back : List Line
  pub tape : sc.tape ≡ (front ++ lines_5 five start) ++ back
  pub brings : total traded_in front + b0 ≡ sc.brings
  pub better : AllByRecursion (Priced (λ q. is_better (other_side sc.side) q p ≡ true)) front
  pub none : AllByRecursion (Priced (λ q. ⊥)) start
  pub worse : AllByRecursion (Priced (λ q. is_better (other_side sc.side) p q ≡ true)) back

-- the step of an entry by whether it is a Market Order, a customer's and guaranteed
abbrev pub step_by : Bool → Bool → Bool → Step
step_by m c x = cond m (cond c CustomerMarketOrders OtherMarketOrders) (cond c CustomerLimitOrders (cond x GuaranteedQuotes OtherInterest))

abbrev pub class_by : Bool → Bool → ℕ
class_by m c = cond m (cond c 1 2) (cond c 3 4)

-- steps 1, 2 and 3 are those of their classes
pub test_class : (k : ℕ) → k < 4 → (m c x : Bool) → eqb (step_number (step_by m c x)) k ≡ eqb (class_by m c) k
test_class k front m c x = grind (arith, nat_tests, front)

pub test_4 : (m c x : Bool) → (x ≡ true → eqb (class_by m c) 4 ≡ true) → eqb (step_number (step_by m c x)) 4 ≡ x
test_4 m c x only = grind (arith, nat_tests, only)

pub test_5 : (m c x : Bool) → eqb (step_number (step_by m c x)) 5 ≡ (eqb (class_by m c) 4 && not x)
test_5 m c x = grind (arith, nat_tests)

-- floors of an amount and entries, told in other words
floors_as : (rule : Sharing) (f : Entry → ℕ) (a b : ℕ) (cs ds : List Entry) → a ≡ b → cs ≡ ds → AllZip ◌≤◌ (rule.floors b (map claim_of ds)) (map f ds) → AllZip ◌≤◌ (rule.floors a (map claim_of cs)) (map f cs)
floors_as rule f a b cs ds same alike h = subst (λ n. AllZip ◌≤◌ (rule.floors n (map claim_of cs)) (map f cs)) (sym same) (subst (λ l. AllZip ◌≤◌ (rule.floors b (map claim_of l)) (map f l)) (sym alike) h)

module _ (sc : Scene) (p b0 : ℕ) (v : Visit sc p b0) where
  pub at_p : AllByRecursion (λ e. e.price ≡ p) (free_at sc p)
  at_p = All-weaker (λ e. (eqb e.price p && is_free sc e) ≡ true) (λ e. e.price ≡ p) (λ e h. eqb-true e.price p (and_parts (eqb e.price p) (is_free sc e) h).0) (free_at sc p) (kept_by_passes (λ e. eqb e.price p && is_free sc e) sc.standing)

  -- the fills of the rounds. Stays: names shared with c1 to c5 of Fairness take as many lines in Levels, and arguments
  abbrev f1 : List Line
  f1 = fills CustomerMarketOrders v.five.n1 (filter (in_class 1) (free_at sc p))

  abbrev f2 : List Line
  f2 = fills OtherMarketOrders v.five.n2 (filter (in_class 2) (free_at sc p))

  abbrev f3 : List Line
  f3 = fills CustomerLimitOrders v.five.n3 (filter (in_class 3) (free_at sc p))

  abbrev f4 : List Line
  f4 = fills GuaranteedQuotes v.five.n4 (fourth v.five.a sc.directed (free_at sc p))

  abbrev f5 : List Line
  f5 = fills OtherInterest v.five.n5 (fifth v.five.a sc.directed (free_at sc p))

  sums : (g : Line → ℕ) → total g sc.tape ≡ (total g v.front + (((((total g v.start + total g f1) + total g f2) + total g f3) + total g f4) + total g f5)) + total g v.back
  sums g =
      omega (
        arith,
        ap (total g) v.tape,
        total_append g (v.front ++ lines_5 v.five v.start) v.back,
        total_append g v.front (lines_5 v.five v.start),
        total_append g (lines_4 v.five v.start) f5,
        total_append g (lines_3 v.five v.start) f4,
        total_append g (lines_2 v.five v.start) f3,
        total_append g (lines_1 v.five v.start) f2,
        total_append g v.start f1,
      )

  pub long_1 : length v.five.n1 ≡ length (filter (in_class 1) (free_at sc p))
  long_1 = long by_time b0 (filter (in_class 1) (free_at sc p)) v.five.n1 v.five.s1

  pub long_2 : length v.five.n2 ≡ length (filter (in_class 2) (free_at sc p))
  long_2 = long sc.rule v.five.b1 (filter (in_class 2) (free_at sc p)) v.five.n2 v.five.s2

  pub long_3 : length v.five.n3 ≡ length (filter (in_class 3) (free_at sc p))
  long_3 = long by_time v.five.b2 (filter (in_class 3) (free_at sc p)) v.five.n3 v.five.s3

  pub long_4 : length v.five.n4 ≡ length (fourth v.five.a sc.directed (free_at sc p))
  long_4 = long sc.rule _ (fourth v.five.a sc.directed (free_at sc p)) v.five.n4 v.five.s4

  pub long_5 : length v.five.n5 ≡ length (fifth v.five.a sc.directed (free_at sc p))
  long_5 = long sc.rule v.five.b4 (fifth v.five.a sc.directed (free_at sc p)) v.five.n5 v.five.s5

  abbrev sum : List ℕ → ℕ
  sum ns = total (λ n. n) ns

  pub kept_at : (q : Entry → Bool) → AllByRecursion (λ e. e.price ≡ p) (filter q (free_at sc p))
  kept_at q = all_kept_by q (λ e. e.price ≡ p) (free_at sc p) at_p

  -- the earlier fills, round by round
  reading : (k : ℕ) → total (earlier sc p k) sc.tape ≡ total traded_in v.front + ((((cond (ltb 1 k) (sum v.five.n1) 0 + cond (ltb 2 k) (sum v.five.n2) 0) + cond (ltb 3 k) (sum v.five.n3) 0) + cond (ltb 4 k) (sum v.five.n4) 0) + cond (ltb 5 k) (sum v.five.n5) 0)
  reading k =
      let e0 = better_earlier sc p k v.front v.better in
      let es = worse_later sc p k v.start (all_priced (λ q. ⊥) (λ q. is_better (other_side sc.side) p q ≡ true) (λ q h. absurd h) v.start v.none) in
      let e1 = earlier_fills sc p k CustomerMarketOrders v.five.n1 (filter (in_class 1) (free_at sc p)) long_1 (kept_at (in_class 1)) in
      let e2 = earlier_fills sc p k OtherMarketOrders v.five.n2 (filter (in_class 2) (free_at sc p)) long_2 (kept_at (in_class 2)) in
      let e3 = earlier_fills sc p k CustomerLimitOrders v.five.n3 (filter (in_class 3) (free_at sc p)) long_3 (kept_at (in_class 3)) in
      let e4 = earlier_fills sc p k GuaranteedQuotes v.five.n4 (fourth v.five.a sc.directed (free_at sc p)) long_4 (kept_at (acting_group v.five.a sc.directed (free_at sc p))) in
      let e5 = earlier_fills sc p k OtherInterest v.five.n5 (fifth v.five.a sc.directed (free_at sc p)) long_5 (kept_at (beside (acting_group v.five.a sc.directed (free_at sc p)))) in
      let e6 = worse_later sc p k v.back v.worse in
      omega (arith, sums (earlier sc p k), e0, es, e1, e2, e3, e4, e5, e6)

  balance_2 : balance_at sc p 2 ≡ v.five.b1
  balance_2 = omega (arith, reading 2, v.brings, v.five.p1)

  balance_4 : balance_at sc p 4 ≡ v.five.b3
  balance_4 = omega (arith, reading 4, v.brings, v.five.p1, v.five.p2, v.five.p3)

  balance_5 : balance_at sc p 5 ≡ v.five.b4
  balance_5 = omega (arith, reading 5, v.brings, v.five.p1, v.five.p2, v.five.p3, v.five.p4)

  -- the guarantee acts where a balance reaches the makers
  reached : reaches_makers sc p ≡ v.five.a
  reached = (λ t. is_national sc p && (leb 1 (balance_4 t) && leb 1 (they_show sc p))) ∙ sym v.five.is_a

  abbrev marked : Entry → Bool
  marked = acting_group v.five.a sc.directed (free_at sc p)

  marks : (e : Entry) → e.price ≡ p → (reaches_makers sc e.price && is_guaranteed sc e.price e) ≡ marked e
  marks e same = (λ t. reaches_makers sc (same t) && is_guaranteed sc (same t) e) ∙ (λ t. reached t && in_group sc.directed (free_at sc p) e)

  stepping : (k : Step) (e : Entry) → e.price ≡ p → eqb (step_number (step_of sc e)) (step_number k) ≡ eqb (step_number (step_by e.market (is_customer e.kind) (marked e))) (step_number k)
  stepping k e same = ap (λ x. eqb (step_number (step_by e.market (is_customer e.kind) x)) (step_number k)) (marks e same)

  claimed : (k : Step) (q : Entry → Bool) → ((e : Entry) → eqb (step_number (step_by e.market (is_customer e.kind) (marked e))) (step_number k) ≡ q e) → claimants sc p k ≡ filter q (free_at sc p)
  claimed k q same = kept_same (λ e. eqb (step_number (step_of sc e)) (step_number k)) q (free_at sc p) (All-weaker (λ e. e.price ≡ p) (λ e. eqb (step_number (step_of sc e)) (step_number k) ≡ q e) (λ e h. stepping k e h ∙ same e) (free_at sc p) at_p)

  pub claimed_1 : claimants sc p CustomerMarketOrders ≡ filter (in_class 1) (free_at sc p)
  claimed_1 = claimed CustomerMarketOrders (in_class 1) (λ e. test_class 1 (omega arith) e.market (is_customer e.kind) (marked e))

  pub claimed_2 : claimants sc p OtherMarketOrders ≡ filter (in_class 2) (free_at sc p)
  claimed_2 = claimed OtherMarketOrders (in_class 2) (λ e. test_class 2 (omega arith) e.market (is_customer e.kind) (marked e))

  pub claimed_3 : claimants sc p CustomerLimitOrders ≡ filter (in_class 3) (free_at sc p)
  claimed_3 = claimed CustomerLimitOrders (in_class 3) (λ e. test_class 3 (omega arith) e.market (is_customer e.kind) (marked e))

  pub claimed_4 : claimants sc p GuaranteedQuotes ≡ fourth v.five.a sc.directed (free_at sc p)
  claimed_4 = claimed GuaranteedQuotes marked (λ e. test_4 e.market (is_customer e.kind) (marked e) (acting_class v.five.a sc.directed (free_at sc p) e))

  pub claimed_5 : claimants sc p OtherInterest ≡ fifth v.five.a sc.directed (free_at sc p)
  claimed_5 = claimed OtherInterest (beside marked) (λ e. test_5 e.market (is_customer e.kind) (marked e))

  part_2 : Part f2 sc.tape
  part_2 i = omega (arith, sums (got i))

  part_4 : Part f4 sc.tape
  part_4 i = omega (arith, sums (got i))

  part_5 : Part f5 sc.tape
  part_5 i = omega (arith, sums (got i))

  gets_4 : AllZip ◌≤◌ v.five.n4 (map (gets sc) (fourth v.five.a sc.directed (free_at sc p)))
  gets_4 = each_gets GuaranteedQuotes sc.tape v.five.n4 (fourth v.five.a sc.directed (free_at sc p)) long_4 part_4

  met : reaches_makers sc p ≡ true → min (they_show sc p) (guaranteed (balance_at sc p 4)) ≤ total (gets sc) (guaranteed_at sc p)
  met reaches =
      let acting : v.five.a ≡ true = sym reached ∙ reaches in
      let same : fourth v.five.a sc.directed (free_at sc p) ≡ guaranteed_at sc p = ap (λ b. fourth b sc.directed (free_at sc p)) acting in
      let all = each_total v.five.n4 (map (gets sc) (fourth v.five.a sc.directed (free_at sc p))) gets_4 in
      omega (arith, ap (λ b. min (they_show sc p) (guaranteed b)) balance_4, v.five.s4.adds_up, ap (total size_of) same, all, total_map (gets sc) (λ n. n) (fourth v.five.a sc.directed (free_at sc p)), ap (total (gets sc)) same)

  floored : (k : Step) → is_shared k ≡ true → AllZip ◌≤◌ (sc.rule.floors (shared_amount sc p k) (map claim_of (claimants sc p k))) (map (gets sc) (claimants sc p k))
  floored CustomerMarketOrders never = absurd (false≢true never)
  floored OtherMarketOrders _ =
      let cs = filter (in_class 2) (free_at sc p) in
      floors_as sc.rule (gets sc) (balance_at sc p 2) v.five.b1 (claimants sc p OtherMarketOrders) cs balance_2 claimed_2
      (each_trans (sc.rule.floors v.five.b1 (map claim_of cs)) v.five.n2 (map (gets sc) cs) v.five.s2.above (each_gets OtherMarketOrders sc.tape v.five.n2 cs long_2 part_2))
  floored CustomerLimitOrders never = absurd (false≢true never)
  floored GuaranteedQuotes _ =
      let cs = fourth v.five.a sc.directed (free_at sc p) in
      floors_as sc.rule (gets sc) (group_amount (balance_at sc p 4) (they_show sc p) (all_show sc p)) (group_amount v.five.b3 (they_show sc p) (all_show sc p)) (claimants sc p GuaranteedQuotes) cs (ap (λ b. group_amount b (they_show sc p) (all_show sc p)) balance_4) claimed_4
      (each_trans (sc.rule.floors (group_amount v.five.b3 (they_show sc p) (all_show sc p)) (map claim_of cs)) v.five.n4 (map (gets sc) cs) v.five.s4.above gets_4)
  floored OtherInterest _ =
      let cs = fifth v.five.a sc.directed (free_at sc p) in
      floors_as sc.rule (gets sc) (balance_at sc p 5) v.five.b4 (claimants sc p OtherInterest) cs balance_5 claimed_5
      (each_trans (sc.rule.floors v.five.b4 (map claim_of cs)) v.five.n5 (map (gets sc) cs) v.five.s5.above (each_gets OtherInterest sc.tape v.five.n5 cs long_5 part_5))

  pub visit_served : Served sc p
  visit_served = record { guarantee = met; floors = floored }
