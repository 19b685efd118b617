-- At a price to which an order came each fill is fair. Assumes nothing.
use Rattle.std.proofs.Common.{◌≡◌, ℕ, ◌+◌, ◌-◌, ◌≤◌, Bool, true, false, cond, not, ◌&&◌, ◌||◌, eqb, ltb, leb, ◌⊎◌, List, [], ◌∷◌, ◌++◌, map, filter, Option, sym, refl, ap, ◌∙◌, subst, inl, inr, ⊎_elim, arith}
use Rattle.std.specs.List.{AllByRecursion}
use Rattle.std.proofs.ByRecursion.{All-weaker, all_kept_by, kept_by_passes}
use Rattle.std.proofs.lemmas.Bool.Decides.{nat_tests}
use Rattle.std.proofs.lemmas.Bool.{and_parts, and_from, eqb-true, eq-eqb, leb-true, cases_Bool, not_from_false}
use Rattle.sharing.specs.Claims.{Ascending}
use Rattle.sharing.specs.Rules.{by_time}
use Rattle.sharing.specs.Sharing.{Sharing}
use Rattle.sharing.specs.Totals.{total}
use Rattle.rules.specs.declared.tape.Line.{Line}
use Rattle.rules.specs.declared.tape.Line.TheVariants.{Fill, Cancel, Filled, Rest, Route}
use Rattle.rules.specs.declared.tape.Step.{Step}
use Rattle.rules.specs.declared.tape.Step.TheVariants.{CustomerMarketOrders, OtherMarketOrders, CustomerLimitOrders, GuaranteedQuotes, OtherInterest}
use Rattle.rules.specs.declared.terms.Entry.{Entry}
use Rattle.rules.specs.Laws.{ByTime}
use Rattle.rules.specs.Level.{size_of, claim_of, fills, in_class}
use Rattle.rules.specs.Numbers.{step_number}
use Rattle.rules.specs.Prices.{in_cap, not_better_away}
use Rattle.rules.specs.Ranks.{class_of}
use Rattle.rules.specs.Sides.{other_side, is_better}
use Rattle.rules.proofs.Chain.{beside}
use Rattle.rules.proofs.Held.{ascending_kept}
use Rattle.rules.proofs.OnePrice.{group_one, beside_one}
use Rattle.laws.specs.Priority.{Among, NothingLeft, FairLine, EachAfter}
use Rattle.laws.specs.Scenes.{Scene, is_free, is_eligible, within_reach, free_at, is_national, step_of, claimants}
use Rattle.laws.proofs.Levels.{acting_group, acting_class, fourth, fifth, none_kept, lines_1, lines_2, lines_3, lines_4, lines_5}
use Rattle.laws.proofs.ById.{all_among}
use Rattle.laws.proofs.Lists.{all_both, all_and}
use Rattle.laws.proofs.Shares.{Shared, long, whole}
use Rattle.laws.proofs.Tapes.{Priced, whole_gone, each_append}
use Rattle.laws.proofs.Turns.{kept_back, Part, part_front, part_back, part_trans, part_inside, before, Passed, passed_more, Claims, round_fair, ToCome, turn_fair}
use Rattle.laws.proofs.Visits.{Visit, kept_at, long_4, long_5, claimed_1, claimed_2, claimed_3, claimed_4, claimed_5}

-- a tape without fills
pub no_fill : (sc : Scene) (front ls : List Line) → AllByRecursion (Priced (λ q. ⊥)) ls → EachAfter (FairLine sc) front ls
no_fill sc front [] h = tt
no_fill sc front (Fill id firm size price step ∷ ls) h = absurd h.0
no_fill sc front (Cancel id firm size cause ∷ ls) h = (tt, no_fill sc (front ++ Cancel id firm size cause ∷ []) ls h.1)
no_fill sc front (Filled id firm ∷ ls) h = (tt, no_fill sc (front ++ Filled id firm ∷ []) ls h.1)
no_fill sc front (Rest id firm size price ∷ ls) h = (tt, no_fill sc (front ++ Rest id firm size price ∷ []) ls h.1)
no_fill sc front (Route id firm size ∷ ls) h = (tt, no_fill sc (front ++ Route id firm size ∷ []) ls h.1)

step_named : ℕ → Step
step_named n = cond (eqb n 1) CustomerMarketOrders (cond (eqb n 2) OtherMarketOrders (cond (eqb n 3) CustomerLimitOrders (cond (eqb n 4) GuaranteedQuotes OtherInterest)))

named_by : (k : Step) → step_named (step_number k) ≡ k
unfolding step_named
named_by CustomerMarketOrders = refl
named_by OtherMarketOrders = refl
named_by CustomerLimitOrders = refl
named_by GuaranteedQuotes = refl
named_by OtherInterest = refl

same_step : (j k : Step) → eqb (step_number j) (step_number k) ≡ true → j ≡ k
same_step j k h = sym (named_by j) ∙ ap step_named (eqb-true (step_number j) (step_number k) h) ∙ named_by k

-- one class more
class_more : (better level : Bool) (class c : ℕ) → (better || (level && ltb class (c + 1))) ≡ true → ((better || (level && ltb class c)) ≡ true) ⊎ ((level ≡ true) × (class ≡ c))
class_more better level class c h = ⊎_elim inl (λ out. inr (grind (arith, nat_tests, h, out), grind (arith, nat_tests, h, out))) (cases_Bool (better || (level && ltb class c)))

acting : (a : Bool) (directed : Option ℕ) (run : List Entry) → 1 ≤ total size_of (fourth a directed run) → a ≡ true
acting true directed run some = refl
acting false directed run some = absurd (omega (arith, ap (total size_of) (none_kept run)))

module _ (sc : Scene) (p b0 : ℕ) (v : Visit sc p b0) (capped : in_cap sc.side sc.cap p ≡ true) (nearest : not_better_away sc.side sc.away p ≡ true)
    (timed : ByTime (free_at sc p)) (first : 1 ≤ b0 → Passed sc p capped nearest v.front 1) where
  claims_of : (k : Step) (c : ℕ) (q : Entry → Bool) → claimants sc p k ≡ filter q (free_at sc p) → ((e : Entry) → q e ≡ true → class_of e ≡ c) → AllByRecursion (Claims sc p capped nearest k c) (filter q (free_at sc p))
  claims_of k c q same one =
      let test : Entry → Bool = λ e. eqb (step_number (step_of sc e)) (step_number k) in
      let stands = all_kept_by q (λ e. Among e sc.standing) (free_at sc p) (all_kept_by (λ e. eqb e.price p && is_free sc e) (λ e. Among e sc.standing) sc.standing (all_among sc.standing)) in
      let steps = subst (AllByRecursion (λ e. test e ≡ true)) same (kept_by_passes test (free_at sc p)) in
      let passes = kept_by_passes q (free_at sc p) in
      all_both (λ e. Among e sc.standing × (test e ≡ true)) (λ e. (e.price ≡ p) × (q e ≡ true)) (Claims sc p capped nearest k c)
      (λ e h g. record { stands = h.0; stepped = same_step (step_of sc e) k h.1; priced = g.0; classed = one e g.1 })
      (filter q (free_at sc p))
      (all_and (λ e. Among e sc.standing) (λ e. test e ≡ true) (filter q (free_at sc p)) stands steps)
      (all_and (λ e. e.price ≡ p) (λ e. q e ≡ true) (filter q (free_at sc p)) (kept_at sc p b0 v q) passes)

  -- what holds of the entries at the price that are not barred
  eligible_at : (P : Entry → Type 0) → AllByRecursion P (free_at sc p) → AllByRecursion (λ e. is_eligible sc e ≡ true → e.price ≡ p → P e) sc.standing
  eligible_at P h =
      All-weaker (λ e. (eqb e.price p && is_free sc e) ≡ true → P e) (λ e. is_eligible sc e ≡ true → e.price ≡ p → P e)
      (λ e f able same. f (and_from (eqb e.price p) (is_free sc e) (eq-eqb e.price p same) (and_parts (within_reach sc e.price) (is_free sc e) able).1))
      sc.standing (kept_back P (λ e. eqb e.price p && is_free sc e) sc.standing h)

  advance : (xs ys : List Line) → Part xs ys → (c : ℕ) → Passed sc p capped nearest xs c → AllByRecursion (λ e. class_of e ≡ c → NothingLeft ys e) (free_at sc p) → Passed sc p capped nearest ys (c + 1)
  advance xs ys part c passed gone =
      all_both (λ e. is_eligible sc e ≡ true → before sc p capped nearest c e ≡ true → NothingLeft ys e) (λ e. is_eligible sc e ≡ true → e.price ≡ p → class_of e ≡ c → NothingLeft ys e)
      (λ e. is_eligible sc e ≡ true → before sc p capped nearest (c + 1) e ≡ true → NothingLeft ys e)
      (λ e was now able h.
      ⊎_elim (was able) (λ x. now able (eqb-true e.price p x.0) x.1) (class_more (is_better (other_side sc.side) e.price p) (eqb e.price p) (class_of e) c h))
      sc.standing (passed_more sc p capped nearest xs ys part c passed) (eligible_at (λ e. class_of e ≡ c → NothingLeft ys e) gone)

  class_gone : (c : ℕ) (ys : List Line) → AllByRecursion (NothingLeft ys) (filter (in_class c) (free_at sc p)) → AllByRecursion (λ e. class_of e ≡ c → NothingLeft ys e) (free_at sc p)
  class_gone c ys h = All-weaker (λ e. in_class c e ≡ true → NothingLeft ys e) (λ e. class_of e ≡ c → NothingLeft ys e) (λ e f same. f (eq-eqb (class_of e) c same)) (free_at sc p) (kept_back (NothingLeft ys) (in_class c) (free_at sc p) h)

  to_come : (lines : List Line) (c : ℕ) → ToCome sc p capped nearest lines c (filter (in_class c) (free_at sc p))
  to_come lines c =
      let cs = filter (in_class c) (free_at sc p) in
      All-weaker (λ e. is_eligible sc e ≡ true → e.price ≡ p → in_class c e ≡ true → Among e cs) (λ e. is_eligible sc e ≡ true → e.price ≡ p → class_of e ≡ c → NothingLeft lines e ⊎ Among e cs)
      (λ e f able same class. inr (f able same (eq-eqb (class_of e) c class)))
      sc.standing (eligible_at (λ e. in_class c e ≡ true → Among e cs) (kept_back (λ e. Among e cs) (in_class c) (free_at sc p) (all_among cs)))

  ascends : (c : ℕ) → Ascending (map claim_of (filter (in_class c) (free_at sc p)))
  ascends c = ascending_kept (in_class c) c (λ e h. eqb-true (class_of e) c h) (free_at sc p) timed

  abbrev z0 : List Line
  z0 = v.front ++ v.start

  abbrev z1 : List Line
  z1 = v.front ++ lines_1 v.five v.start

  abbrev z2 : List Line
  z2 = v.front ++ lines_2 v.five v.start

  abbrev z3 : List Line
  z3 = v.front ++ lines_3 v.five v.start

  abbrev z4 : List Line
  z4 = v.front ++ lines_4 v.five v.start

  abbrev z5 : List Line
  z5 = v.front ++ lines_5 v.five v.start

  -- the entries of the rounds. Stays: names shared with f1 to f5 of Visits take as many lines in Levels, and arguments
  abbrev c1 : List Entry
  c1 = filter (in_class 1) (free_at sc p)

  abbrev c2 : List Entry
  c2 = filter (in_class 2) (free_at sc p)

  abbrev c3 : List Entry
  c3 = filter (in_class 3) (free_at sc p)

  abbrev group : Entry → Bool
  group = acting_group v.five.a sc.directed (free_at sc p)

  inside : (e : Entry) → group e ≡ true → in_class 4 e ≡ true
  inside = acting_class v.five.a sc.directed (free_at sc p)

  abbrev c4 : List Entry
  c4 = fourth v.five.a sc.directed (free_at sc p)

  abbrev c5 : List Entry
  c5 = fifth v.five.a sc.directed (free_at sc p)

  passed_0 : 1 ≤ b0 → Passed sc p capped nearest z0 1
  passed_0 some = passed_more sc p capped nearest v.front z0 (part_front v.front v.start) 1 (first some)

  -- the lines of a round are part of those up to it
  inner : (k : Step) (xs : List Line) (ns : List ℕ) (cs : List Entry) → Part (fills k ns cs) (v.front ++ (xs ++ fills k ns cs))
  inner k xs ns cs = part_trans (fills k ns cs) (xs ++ fills k ns cs) (v.front ++ (xs ++ fills k ns cs)) (part_back xs (fills k ns cs)) (part_back v.front (xs ++ fills k ns cs))

  outer : (k : Step) (xs : List Line) (ns : List ℕ) (cs : List Entry) → Part (v.front ++ xs) (v.front ++ (xs ++ fills k ns cs))
  outer k xs ns cs = part_inside v.front xs (xs ++ fills k ns cs) (part_front xs (fills k ns cs))

  -- where the round of a class left something, the class is passed
  class_passed : (k : Step) (c : ℕ) (rule : Sharing) (b b' : ℕ) (xs : List Line) (ns : List ℕ) → let cs = filter (in_class c) (free_at sc p) in
      Shared rule b cs ns → b' ≡ b - total (λ n. n) ns → (1 ≤ b → Passed sc p capped nearest (v.front ++ xs) c) → 1 ≤ b' → Passed sc p capped nearest (v.front ++ (xs ++ fills k ns cs)) (c + 1)
  class_passed k c rule b b' xs ns s pays so_far some =
      let cs = filter (in_class c) (free_at sc p) in
      let after = v.front ++ (xs ++ fills k ns cs) in
      let full = whole rule b cs ns s (omega (arith, s.adds_up, pays)) in
      advance (v.front ++ xs) after (outer k xs ns cs) c (so_far (omega (arith, pays)))
      (class_gone c after (whole_gone k after ns cs (long rule b cs ns s) full (inner k xs ns cs)))

  passed_1 : 1 ≤ v.five.b1 → Passed sc p capped nearest z1 2
  passed_1 = class_passed CustomerMarketOrders 1 by_time b0 v.five.b1 v.start v.five.n1 v.five.s1 v.five.p1 passed_0

  passed_2 : 1 ≤ v.five.b2 → Passed sc p capped nearest z2 3
  passed_2 = class_passed OtherMarketOrders 2 sc.rule v.five.b1 v.five.b2 (lines_1 v.five v.start) v.five.n2 v.five.s2 v.five.p2 passed_1

  passed_3 : 1 ≤ v.five.b3 → Passed sc p capped nearest z3 4
  passed_3 = class_passed CustomerLimitOrders 3 by_time v.five.b2 v.five.b3 (lines_2 v.five v.start) v.five.n3 v.five.s3 v.five.p3 passed_2

  -- where something is left after all steps, the fourth class has nothing left
  last_gone : 1 ≤ v.five.b5 → AllByRecursion (λ e. class_of e ≡ 4 → NothingLeft z5 e) (free_at sc p)
  last_gone some =
      let all = v.five.spent some in
      let full_4 = whole sc.rule _ c4 v.five.n4 v.five.s4 all.0 in
      let full_5 = whole sc.rule v.five.b4 c5 v.five.n5 v.five.s5 all.1 in
      let part_4 : Part (fills GuaranteedQuotes v.five.n4 c4) z5 = part_trans (fills GuaranteedQuotes v.five.n4 c4) z4 z5 (inner GuaranteedQuotes (lines_3 v.five v.start) v.five.n4 c4) (outer OtherInterest (lines_4 v.five v.start) v.five.n5 c5) in
      let gone_4 = whole_gone GuaranteedQuotes z5 v.five.n4 c4 (long_4 sc p b0 v) full_4 part_4 in
      let gone_5 = whole_gone OtherInterest z5 v.five.n5 c5 (long_5 sc p b0 v) full_5 (inner OtherInterest (lines_4 v.five v.start) v.five.n5 c5) in
      all_both (λ e. group e ≡ true → NothingLeft z5 e) (λ e. beside group e ≡ true → NothingLeft z5 e) (λ e. class_of e ≡ 4 → NothingLeft z5 e)
      (λ e h k class. ⊎_elim h (λ out. k (and_from (in_class 4 e) (not (group e)) (eq-eqb (class_of e) 4 class) (not_from_false (group e) out))) (cases_Bool (group e)))
      (free_at sc p) (kept_back (NothingLeft z5) group (free_at sc p) gone_4) (kept_back (NothingLeft z5) (beside group) (free_at sc p) gone_5)

  pub visit_passed : 1 ≤ v.five.b5 → Passed sc p capped nearest z5 5
  visit_passed some =
      let part : Part z3 z5 = part_trans z3 z4 z5 (outer GuaranteedQuotes (lines_3 v.five v.start) v.five.n4 c4) (outer OtherInterest (lines_4 v.five v.start) v.five.n5 c5) in
      advance z3 z5 part 4 (passed_3 (omega (arith, v.five.p4, v.five.p5))) (last_gone some)

  -- a round by time
  fair_turn : (k : Step) (c : ℕ) (b : ℕ) (xs : List Line) (ns : List ℕ) → let cs = filter (in_class c) (free_at sc p) in
      ns ≡ by_time.allotments b (map claim_of cs) → claimants sc p k ≡ cs → (1 ≤ b → Passed sc p capped nearest (v.front ++ xs) c) → EachAfter (FairLine sc) (v.front ++ xs) (fills k ns cs)
  fair_turn k c b xs ns turn claimed passed =
      let cs = filter (in_class c) (free_at sc p) in
      let so_far = v.front ++ xs in
      subst (λ ms. EachAfter (FairLine sc) so_far (fills k ms cs)) (sym turn)
      (turn_fair sc p capped nearest k c b so_far cs (ascends c) (claims_of k c (in_class c) claimed (λ e h. eqb-true (class_of e) c h)) passed (λ _. to_come so_far c))

  fair_1 : EachAfter (FairLine sc) z0 (fills CustomerMarketOrders v.five.n1 c1)
  fair_1 = fair_turn CustomerMarketOrders 1 b0 v.start v.five.n1 v.five.turn1 (claimed_1 sc p b0 v) passed_0

  fair_2 : EachAfter (FairLine sc) z1 (fills OtherMarketOrders v.five.n2 c2)
  fair_2 =
      round_fair sc p capped nearest OtherMarketOrders 2 refl z1 v.five.n2 c2 (claims_of OtherMarketOrders 2 (in_class 2) (claimed_2 sc p b0 v) (λ e h. eqb-true (class_of e) 2 h))
      (λ some. passed_1 (omega (arith, v.five.s2.adds_up)))

  fair_3 : EachAfter (FairLine sc) z2 (fills CustomerLimitOrders v.five.n3 c3)
  fair_3 = fair_turn CustomerLimitOrders 3 v.five.b2 (lines_2 v.five v.start) v.five.n3 v.five.turn3 (claimed_3 sc p b0 v) passed_2

  fair_4 : EachAfter (FairLine sc) z3 (fills GuaranteedQuotes v.five.n4 c4)
  fair_4 =
      round_fair sc p capped nearest GuaranteedQuotes 4 refl z3 v.five.n4 c4
      (claims_of GuaranteedQuotes 4 group (claimed_4 sc p b0 v) (group_one group inside))
      (λ some.
      let acts = acting v.five.a sc.directed (free_at sc p) (omega (arith, v.five.s4.adds_up)) in
      let meets = (and_parts (is_national sc p) _ (sym v.five.is_a ∙ acts)).1 in
      passed_3 (leb-true 1 v.five.b3 (and_parts (leb 1 v.five.b3) _ meets).0))

  fair_5 : EachAfter (FairLine sc) z4 (fills OtherInterest v.five.n5 c5)
  fair_5 =
      round_fair sc p capped nearest OtherInterest 4 refl z4 v.five.n5 c5
      (claims_of OtherInterest 4 (beside group) (claimed_5 sc p b0 v) (beside_one group inside))
      (λ some.
      passed_more sc p capped nearest z3 z4 (outer GuaranteedQuotes (lines_3 v.five v.start) v.five.n4 c4) 4 (passed_3 (omega (arith, v.five.p4, v.five.s5.adds_up))))

  pub visit_fair : EachAfter (FairLine sc) v.front (lines_5 v.five v.start)
  visit_fair =
      let P = FairLine sc in
      let y0 = no_fill sc v.front v.start v.none in
      let y1 = each_append P v.front v.start (fills CustomerMarketOrders v.five.n1 c1) y0 fair_1 in
      let y2 = each_append P v.front (lines_1 v.five v.start) (fills OtherMarketOrders v.five.n2 c2) y1 fair_2 in
      let y3 = each_append P v.front (lines_2 v.five v.start) (fills CustomerLimitOrders v.five.n3 c3) y2 fair_3 in
      let y4 = each_append P v.front (lines_3 v.five v.start) (fills GuaranteedQuotes v.five.n4 c4) y3 fair_4 in
      each_append P v.front (lines_4 v.five v.start) (fills OtherInterest v.five.n5 c5) y4 fair_5
