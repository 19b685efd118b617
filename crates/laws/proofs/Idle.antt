-- A price to which an order may come but has nothing left to bring. Assumes nothing.
use Rattle.std.proofs.Common.{◌≡◌, ℕ, ◌<◌, ◌≤◌, Bool, true, false, not, ◌&&◌, eqb, leb, List, [], ◌∷◌, map, length, sym, ap, ◌∙◌, subst, arith}
use Rattle.std.specs.List.{AllZip}
use Rattle.std.proofs.ByRecursion.{All-weaker, kept_by_passes}
use Rattle.std.proofs.lemmas.Bool.Decides.{nat_tests}
use Rattle.std.proofs.lemmas.Bool.{false≢true, both_ways, and_parts, and_left, and_right, eqb-true}
use Rattle.sharing.specs.Claims.{Shareable}
use Rattle.sharing.specs.Sharing.{Lawful}
use Rattle.sharing.specs.Totals.{total}
use Rattle.rules.specs.declared.tape.Step.{Step}
use Rattle.rules.specs.declared.tape.Step.TheVariants.{CustomerMarketOrders, OtherMarketOrders, CustomerLimitOrders, GuaranteedQuotes, OtherInterest}
use Rattle.rules.specs.declared.terms.Entry.{Entry}
use Rattle.rules.specs.Laws.{Tradable}
use Rattle.rules.specs.Level.{claim_of, in_class}
use Rattle.rules.specs.Numbers.{step_number}
use Rattle.rules.specs.Ranks.{class_of, is_customer}
use Rattle.rules.proofs.OnePrice.{group_class, no_more}
use Rattle.laws.specs.Makers.{gets, is_shared, Served}
use Rattle.laws.specs.Scenes.{Scene, is_free, free_at, is_national, is_guaranteed, balance_at, they_show, all_show, reaches_makers, step_of, claimants, shared_amount}
use Rattle.laws.proofs.Levels.{amount_small}
use Rattle.laws.proofs.Rounds.{none_pass}
use Rattle.laws.proofs.Shares.{long, shared, each_trans}
use Rattle.laws.proofs.Visits.{step_by, test_class, test_5}

nothing_each : (f : Entry → ℕ) (ns : List ℕ) (cs : List Entry) → length ns ≡ length cs → total (λ n. n) ns ≡ 0 → AllZip ◌≤◌ ns (map f cs)
nothing_each f [] [] long none = tt
nothing_each f [] (e ∷ cs) long none = absurd (omega arith)
nothing_each f (n ∷ ns) [] long none = absurd (omega arith)
nothing_each f (n ∷ ns) (e ∷ cs) long none = (omega arith, nothing_each f ns cs (omega arith) (omega arith))

never_fourth : (m c x : Bool) → x ≡ false → eqb (step_number (step_by m c x)) 4 ≡ false
never_fourth m c x none = grind (arith, nat_tests)

module _ (sc : Scene) (lawful : Lawful sc.rule) (q : ℕ) (ok : Tradable 0 (free_at sc q)) (empty : (k : ℕ) → balance_at sc q k ≡ 0) where
  unreached : reaches_makers sc q ≡ false
  unreached = and_right (is_national sc q) _ (and_left (leb 1 (balance_at sc q 4)) (leb 1 (they_show sc q)) (ap (leb 1) (empty 4)))

  abbrev mark_of : Entry → Bool
  mark_of e = reaches_makers sc e.price && is_guaranteed sc e.price e

  -- a round that shares nothing
  idle_round : (k : Step) (c : ℕ) → ((e : Entry) → eqb (step_number (step_of sc e)) (step_number k) ≡ true → class_of e ≡ c) → (amount : ℕ) → amount ≡ 0 → AllZip ◌≤◌ (sc.rule.floors amount (map claim_of (claimants sc q k))) (map (gets sc) (claimants sc q k))
  idle_round k c one amount none =
      let cs = claimants sc q k in
      let s = shared sc.rule lawful 0 (free_at sc q) ok 0 (omega arith) (λ e. eqb (step_number (step_of sc e)) (step_number k)) c one in
      let ns = sc.rule.allotments 0 (map claim_of cs) in
      subst (λ n. AllZip ◌≤◌ (sc.rule.floors n (map claim_of cs)) (map (gets sc) cs)) (sym none)
      (each_trans (sc.rule.floors 0 (map claim_of cs)) ns (map (gets sc) cs) s.above (nothing_each (gets sc) ns cs (long sc.rule 0 cs ns s) (omega (arith, s.adds_up))))

  no_fourth : claimants sc q GuaranteedQuotes ≡ []
  no_fourth =
      none_pass (λ e. eqb (step_number (step_of sc e)) 4) (free_at sc q)
      (All-weaker (λ e. (eqb e.price q && is_free sc e) ≡ true) (λ e. eqb (step_number (step_of sc e)) 4 ≡ false)
      (λ e h. never_fourth e.market (is_customer e.kind) (mark_of e) (and_left (reaches_makers sc e.price) (is_guaranteed sc e.price e) (ap (reaches_makers sc) (eqb-true e.price q (and_parts (eqb e.price q) (is_free sc e) h).0) ∙ unreached)))
      (free_at sc q) (kept_by_passes (λ e. eqb e.price q && is_free sc e) sc.standing))

  no_claims : (amount : ℕ) → amount < 100000 → AllZip ◌≤◌ (sc.rule.floors amount []) []
  no_claims amount small =
      let fit : Shareable amount [] = record { few = omega arith; small = small; sized = tt; timed = tt } in
      each_trans (sc.rule.floors amount []) (sc.rule.allotments amount []) [] (lawful.above amount [] fit) (lawful.within amount [] fit)

  idle_floors : (k : Step) → is_shared k ≡ true → AllZip ◌≤◌ (sc.rule.floors (shared_amount sc q k) (map claim_of (claimants sc q k))) (map (gets sc) (claimants sc q k))
  idle_floors CustomerMarketOrders never = absurd (false≢true never)
  idle_floors OtherMarketOrders _ = idle_round OtherMarketOrders 2 (λ e h. eqb-true (class_of e) 2 (sym (test_class 2 (omega arith) e.market (is_customer e.kind) (mark_of e)) ∙ h)) (balance_at sc q 2) (empty 2)
  idle_floors CustomerLimitOrders never = absurd (false≢true never)
  idle_floors GuaranteedQuotes _ =
      subst (λ cs. AllZip ◌≤◌ (sc.rule.floors (shared_amount sc q GuaranteedQuotes) (map claim_of cs)) (map (gets sc) cs)) (sym no_fourth)
      (no_claims (shared_amount sc q GuaranteedQuotes) (amount_small (balance_at sc q 4) (they_show sc q) (all_show sc q) (no_more (is_guaranteed sc q) (group_class sc.directed (free_at sc q)) (free_at sc q)) (omega (arith, empty 4))))
  idle_floors OtherInterest _ = idle_round OtherInterest 4 (λ e h. eqb-true (class_of e) 4 (and_parts (in_class 4 e) (not (mark_of e)) (sym (test_5 e.market (is_customer e.kind) (mark_of e)) ∙ h)).0) (balance_at sc q 5) (empty 5)

  pub idle_served : Served sc q
  idle_served = record { guarantee = λ reaches. absurd (both_ways (reaches_makers sc q) unreached reaches); floors = idle_floors }
