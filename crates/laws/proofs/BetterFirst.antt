-- The runs of a side in rank go from better prices to worse. Assumes nothing.
use Rattle.std.proofs.Common.{◌≡◌, ℕ, ◌<◌, ◌≤◌, Bool, true, false, ◌&&◌, eqb, List, [], ◌∷◌, length, Some, None, filter, Option, sym, ap, ◌∙◌, subst, arith}
use Rattle.std.specs.List.{AllByRecursion}
use Rattle.std.proofs.ByRecursion.{All-weaker, All-append, all_kept_by, kept_by_passes}
use Rattle.std.proofs.lemmas.Bool.{cond_both, eqb-true, and_parts}
use Rattle.std.proofs.lemmas.Bool.Decides.{nat_tests}
use Rattle.rules.specs.declared.terms.Entry.{Entry}
use Rattle.rules.specs.declared.terms.Side.{Side}
use Rattle.rules.specs.declared.terms.Side.TheVariants.{Buy, Sell}
use Rattle.rules.specs.Laws.{ByTime, Tradable}
use Rattle.rules.specs.Prices.{in_reach}
use Rattle.rules.specs.Ranks.{class_of, rank_of, rank_before}
use Rattle.rules.specs.Sides.{other_side, is_better}
use Rattle.rules.specs.Sound.{InRank}
use Rattle.rules.specs.Walk.{into_runs, runs, flat, at_price}
use Rattle.rules.proofs.Held.{Sized, length_kept}
use Rattle.rules.proofs.InRank.{in_rank_left}
use Rattle.rules.proofs.Leaves.{left_kept, runs_are_whole}
use Rattle.rules.proofs.Runs.{earlier_of}
use Rattle.laws.proofs.Lists.{all_both}

-- runs of one price each, the better prices first
abbrev pub BetterFirst : Side → List (List Entry) → Type 0
BetterFirst s [] = Unit {0}
BetterFirst s ([] ∷ rs) = ⊥
BetterFirst s ((e ∷ r) ∷ rs) = AllByRecursion (λ f. f.price ≡ e.price) r × AllByRecursion (λ f. is_better s e.price f.price ≡ true) (flat rs) × BetterFirst s rs

-- a test of the price of a run is one of each of its entries
pub run_price : (test : ℕ → Bool) (s : Side) (r : List Entry) (rs : List (List Entry)) → BetterFirst s (r ∷ rs) → at_price test r ≡ true → AllByRecursion (λ e. test e.price ≡ true) r × BetterFirst s rs
run_price test s [] rs st h = absurd st
run_price test s (e ∷ r) rs st h = ((h, All-weaker (λ f. f.price ≡ e.price) (λ f. test f.price ≡ true) (λ f same. ap test same ∙ h) r st.0), st.2)

better_price : (s : Side) (e f : Entry) → rank_before s (rank_of e) (rank_of f) ≡ true → eqb e.price f.price ≡ false → is_better s e.price f.price ≡ true
better_price Buy e f h differ = grind (arith, nat_tests)
better_price Sell e f h differ = grind (arith, nat_tests)

pub better_trans : (s : Side) (p q r : ℕ) → is_better s p q ≡ true → is_better s q r ≡ true → is_better s p r ≡ true
better_trans Buy p q r h k = grind (arith, nat_tests)
better_trans Sell p q r h k = grind (arith, nat_tests)

pub better_differ : (s : Side) (p q : ℕ) → is_better s p q ≡ true → eqb p q ≡ false
better_differ Buy p q h = grind (arith, nat_tests)
better_differ Sell p q h = grind (arith, nat_tests)

pub worse_differ : (s : Side) (p q : ℕ) → is_better s q p ≡ true → eqb p q ≡ false
worse_differ Buy p q h = grind (arith, nat_tests)
worse_differ Sell p q h = grind (arith, nat_tests)

-- a price better than one within reach is within reach
pub nearer : (s : Side) (cap : ℕ) (away : Option ℕ) (p q : ℕ) → is_better (other_side s) p q ≡ true → in_reach s cap away q ≡ true → in_reach s cap away p ≡ true
nearer Buy cap None p q h k = grind (arith, nat_tests)
nearer Sell cap None p q h k = grind (arith, nat_tests)
nearer Buy cap (Some x) p q h k = grind (arith, nat_tests)
nearer Sell cap (Some x) p q h k = grind (arith, nat_tests)

into_better_first : (s : Side) (e : Entry) (rs : List (List Entry)) → BetterFirst s rs → AllByRecursion (λ f. rank_before s (rank_of e) (rank_of f) ≡ true) (flat rs) → BetterFirst s (into_runs e rs)
into_better_first s e [] st ranked = (tt, tt, tt)
into_better_first s e ([] ∷ rs) st ranked = absurd st
into_better_first s e ((f ∷ fs) ∷ rs) st ranked =
    cond_both (eqb e.price f.price) _ _ (BetterFirst s)
    (λ level.
    let same = eqb-true e.price f.price level in (
      (sym same, All-weaker (λ g. g.price ≡ f.price) (λ g. g.price ≡ e.price) (λ g h. h ∙ sym same) fs st.0),
      All-weaker (λ g. is_better s f.price g.price ≡ true) (λ g. is_better s e.price g.price ≡ true) (λ g h. subst (λ p. is_better s p g.price ≡ true) (sym same) h) (flat rs) st.1,
      st.2,
    ))
    (λ differ.
    let better = better_price s e f ranked.0 differ in (
      tt,
      (
        better,
        All-append (λ g. is_better s e.price g.price ≡ true) fs (flat rs)
            (All-weaker (λ g. g.price ≡ f.price) (λ g. is_better s e.price g.price ≡ true) (λ g h. subst (λ p. is_better s e.price p ≡ true) (sym h) better) fs st.0)
            (All-weaker (λ g. is_better s f.price g.price ≡ true) (λ g. is_better s e.price g.price ≡ true) (λ g h. better_trans s e.price f.price g.price better h) (flat rs) st.1),
      ),
      st,
    ))

pub runs_better_first : (s : Side) (es : List Entry) → InRank s es → BetterFirst s (runs es)
runs_better_first s [] ranked = tt
runs_better_first s (e ∷ es) ranked = into_better_first s e (runs es) (runs_better_first s es ranked.1) (subst (AllByRecursion (λ f. rank_before s (rank_of e) (rank_of f) ≡ true)) (sym (runs_are_whole es)) ranked.0)

-- at one price those in rank are in order of time
level_by_time : (s : Side) (p : ℕ) (es : List Entry) → InRank s es → AllByRecursion (λ e. e.price ≡ p) es → ByTime es
level_by_time s p [] ranked level = tt
level_by_time s p (e ∷ es) ranked level = (
  all_both (λ f. rank_before s (rank_of e) (rank_of f) ≡ true) (λ f. f.price ≡ p) (λ f. class_of e ≡ class_of f → e.time < f.time) (λ f before at. earlier_of s e f before (level.0 ∙ sym at)) es ranked.0 level.1,
  level_by_time s p es ranked.1 level.1,
)

-- what stands at a price
pub at_tradable : (s : Side) (b : ℕ) → b < 100000 → (es : List Entry) → InRank s es → AllByRecursion Sized es → length es ≤ 256 → (p : ℕ) (free : Entry → Bool) → Tradable b (filter (λ e. eqb e.price p && free e) es)
at_tradable s b small es ranked sized few p free =
    let q : Entry → Bool = λ e. eqb e.price p && free e in
    record {
      few = omega (arith, length_kept q es);
      small = small;
      sized = all_kept_by q Sized es sized;
      timed = level_by_time s p (filter q es) (in_rank_left s (left_kept q es) ranked) (All-weaker (λ e. q e ≡ true) (λ e. e.price ≡ p) (λ e h. eqb-true e.price p (and_parts (eqb e.price p) (free e) h).0) (filter q es) (kept_by_passes q es));
    }
