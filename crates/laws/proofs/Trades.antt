-- What an order does on the other side keeps priority and price, and the makers' guarantee and floors. Assumes nothing.
use Rattle.std.proofs.Common.{◌≡◌, ℕ, ◌+◌, ◌<◌, ◌≤◌, true, false, ◌&&◌, eqb, List, [], ◌∷◌, ◌++◌, length, Option, sym, refl, ap, subst, ⊎_elim, arith}
use Rattle.std.specs.List.{AllByRecursion}
use Rattle.std.proofs.ByRecursion.{All-weaker}
use Rattle.std.proofs.lemmas.Bool.{both_ways, and_parts, and_cases}
use Rattle.sharing.specs.Sharing.{Sharing, Lawful}
use Rattle.sharing.specs.Totals.{one_if, total, count}
use Rattle.sharing.specs.Allotted.{total_append}
use Rattle.rules.specs.declared.numbers.Cause.{Cause}
use Rattle.rules.specs.declared.tape.Line.{Line}
use Rattle.rules.specs.declared.tape.Line.TheVariants.{Cancel}
use Rattle.rules.specs.declared.terms.Entry.{Entry}
use Rattle.rules.specs.declared.terms.Routed.{Routed}
use Rattle.rules.specs.declared.terms.Side.{Side}
use Rattle.rules.specs.Laws.{holding, names, Tradable}
use Rattle.rules.specs.Model.{best}
use Rattle.rules.specs.Prices.{national, in_reach}
use Rattle.rules.specs.Sides.{other_side}
use Rattle.rules.specs.Sound.{InRank}
use Rattle.rules.specs.Trade.{Ending, end_line}
use Rattle.rules.specs.Walk.{flat, runs, walk}
use Rattle.rules.proofs.AllPrices.{all_prices}
use Rattle.rules.proofs.Leaves.{runs_are_whole}
use Rattle.rules.proofs.Held.{Sized}
use Rattle.laws.specs.Accounts.{got}
use Rattle.laws.specs.Makers.{Served, GuaranteeAndFloors}
use Rattle.laws.specs.Priority.{Among, FairLine, PriorityAndPrice}
use Rattle.laws.specs.Scenes.{Scene, within_reach, least_available, may_come}
use Rattle.laws.proofs.Bounds.{got_taken, alone, walk_once, end_plain, end_got, end_names}
use Rattle.laws.proofs.ById.{all_among, own_holding, others_differ}
use Rattle.laws.proofs.Fairness.{no_fill}
use Rattle.laws.proofs.Lists.{all_both}
use Rattle.laws.proofs.BetterFirst.{BetterFirst, runs_better_first}
use Rattle.laws.proofs.Tapes.{each_append}
use Rattle.laws.proofs.Walks.{Goes, walk_goes}

-- the scene of an order at its entry or return
abbrev pub scene_for : Sharing → Routed → ℕ → Option ℕ → List Entry → List Line → Scene
scene_for rule o least away es tape = record { side = o.side; firm = o.firm; mark = o.own_firm_mark; directed = o.directed; cap = o.cap; brings = o.size; least = least; away = away; standing = es; rule = rule; tape = tape }

-- the tape of an order that trades and comes to an end
abbrev pub tape_for : Sharing → Routed → Option ℕ → List Entry → ℕ → Ending → List Line
tape_for rule o away es balance end = (walk rule o (national (other_side o.side) (best es) away) away o.size (runs es)).lines ++ end_line o balance end ∷ []

-- the other side as it stands
pub record ReadySide (s : Side) (es : List Entry) : Type 0 where
  pub ranked : InRank s es
  pub sized : AllByRecursion Sized es
  pub few : length es ≤ 256
  pub tradable : (b : ℕ) → b < 100000 → AllByRecursion (Tradable b) (runs es)
  pub unique : (i : ℕ) → count (λ e. eqb e.id i) es ≤ 1

module _ (rule : Sharing) (lawful : Lawful rule) (o : Routed) (least : ℕ) (away : Option ℕ) (es : List Entry)
    (small : o.size < 100000) (ready : ReadySide (other_side o.side) es) (fresh : count (λ e. eqb e.id o.id) es ≡ 0) where
  in_order : BetterFirst (other_side o.side) (runs es)
  in_order = runs_better_first (other_side o.side) es ready.ranked

  -- the scenes of the order: it trades, or its least size is missed
  abbrev scene : ℕ → Ending → Scene
  scene balance end = scene_for rule o least away es (tape_for rule o away es balance end)

  abbrev missed_scene : ℕ → Cause → Scene
  missed_scene size cause = scene_for rule o least away es (Cancel o.id o.firm size cause ∷ [])

  -- the lines of the prices
  abbrev lines : List Line
  lines = (walk rule o (national (other_side o.side) (best es) away) away o.size (runs es)).lines

  goes : (balance : ℕ) (end : Ending) → Goes rule lawful o least away es (scene balance end).tape small ready.ranked ready.sized ready.few [] lines (flat (runs es))
  goes balance end =
      walk_goes rule lawful o least away es (scene balance end).tape small ready.ranked ready.sized ready.few (runs es) o.size [] [] (end_line o balance end ∷ [])
      in_order (ready.tradable o.size small) (sym (runs_are_whole es)) tt refl (omega arith) tt (end_plain o balance end, tt) (λ _. tt)

  pub trade_priority : (balance : ℕ) (end : Ending) → PriorityAndPrice (scene balance end)
  trade_priority balance end =
      let sc = scene balance end in
      each_append (FairLine sc) [] lines (end_line o balance end ∷ []) (goes balance end).fair (no_fill sc lines (end_line o balance end ∷ []) (end_plain o balance end, tt))

  -- no entry gives more than it holds
  held : (balance : ℕ) (end : Ending) (e : Entry) → Among e es → total (got e.id) (scene balance end).tape ≤ e.size
  held balance end e among =
      let accounts = (all_prices rule lawful o (national (other_side o.side) (best es) away) away o.size (runs es) (ready.tradable o.size small)).accounts e.id in
      let whole = ap (holding e.id) (runs_are_whole es) in
      omega (arith, total_append (got e.id) lines (end_line o balance end ∷ []), end_got e.id o balance end, got_taken e.id lines, accounts, whole, own_holding e es among (ready.unique e.id))

  unnamed : (balance : ℕ) (end : Ending) (e : Entry) → Among e es → eqb o.id e.id ≡ false → in_reach o.side o.cap away e.price ≡ false → count (names e.id) (scene balance end).tape ≡ 0
  unnamed balance end e among other out =
      let q = λ (f : Entry). in_reach o.side o.cap away f.price in
      let once = walk_once rule o (national (other_side o.side) (best es) away) away e.id (other_side o.side) o.size (runs es) in_order in
      let whole = ap (count (λ f. q f && eqb f.id e.id)) (runs_are_whole es) in
      omega (arith, total_append (λ l. one_if (names e.id l)) lines (end_line o balance end ∷ []), ap one_if (end_names e.id o balance end other), once, whole, alone q e es among out (ready.unique e.id))

  pub trade_makers : (balance : ℕ) (end : Ending) → least_available (scene balance end) ≡ true → GuaranteeAndFloors (scene balance end)
  trade_makers balance end available =
      let sc = scene balance end in
      record {
        served = subst (AllByRecursion (λ e. may_come sc e.price ≡ true → Served sc e.price)) (runs_are_whole es)
            (All-weaker (λ e. within_reach sc e.price ≡ true → Served sc e.price) (λ e. may_come sc e.price ≡ true → Served sc e.price) (λ e h able. h (and_parts (within_reach sc e.price) (least_available sc) able).0) (flat (runs es)) (goes balance end).served);
        within = All-weaker (λ e. Among e es) (λ e. total (got e.id) (scene balance end).tape ≤ e.size) (held balance end) es (all_among es);
        apart = all_both (λ e. Among e es) (λ e. eqb o.id e.id ≡ false) (λ e. may_come sc e.price ≡ false → count (names e.id) (scene balance end).tape ≡ 0)
            (λ e among other out. ⊎_elim (unnamed balance end e among other) (λ missed. absurd (both_ways (least_available sc) missed available)) (and_cases (within_reach sc e.price) (least_available sc) out))
            es (all_among es) (others_differ (λ (x : Entry). x.id) o.id es fresh);
      }

  -- an order whose least size is missed is cancelled whole
  pub missed_priority : (size : ℕ) (cause : Cause) → PriorityAndPrice (missed_scene size cause)
  missed_priority size cause = (tt, tt)

  pub missed_makers : (size : ℕ) (cause : Cause) → least_available (missed_scene size cause) ≡ false → GuaranteeAndFloors (missed_scene size cause)
  missed_makers size cause missed =
      let sc = missed_scene size cause in
      let among = all_among es in
      record {
        served = All-weaker (λ e. Among e es) (λ e. may_come sc e.price ≡ true → Served sc e.price) (λ e _ able. absurd (both_ways (least_available sc) missed (and_parts (within_reach sc e.price) (least_available sc) able).1)) es among;
        within = All-weaker (λ e. Among e es) (λ e. total (got e.id) sc.tape ≤ e.size) (λ e _. omega arith) es among;
        apart = All-weaker (λ e. eqb o.id e.id ≡ false) (λ e. may_come sc e.price ≡ false → count (names e.id) sc.tape ≡ 0) (λ e other _. ap (λ b. one_if b + 0) other) es (others_differ (λ (x : Entry). x.id) o.id es fresh);
      }
