-- In a sound side what stands at each price meets what the laws of a price ask. Assumes nothing.
use Rattle.std.proofs.Common.{◌≡◌, ℕ, ◌+◌, ◌<◌, ◌≤◌, true, eqb, List, [], ◌∷◌, length, sym, refl, ◌∙◌, subst, arith}
use Rattle.std.specs.List.{AllByRecursion}
use Rattle.std.proofs.ByRecursion.{All-weaker}
use Rattle.std.proofs.lemmas.Bool.{cond_both, eqb-true}
use Rattle.std.proofs.lemmas.Bool.Decides.{nat_tests}
use Rattle.ranked.proofs.Lists.{all_both}
use Rattle.rules.specs.declared.terms.Entry.{Entry}
use Rattle.rules.specs.declared.terms.Side.{Side}
use Rattle.rules.specs.declared.terms.Side.TheVariants.{Buy, Sell}
use Rattle.rules.specs.Laws.{ByTime, Tradable}
use Rattle.rules.specs.Model.{Model, Counters, entries}
use Rattle.rules.specs.Ranks.{class_of, rank_of, rank_before}
use Rattle.rules.specs.Sound.{InRank, GoodEntry, Sound, AlwaysTradable}
use Rattle.rules.specs.Walk.{into_runs, runs}
use Rattle.rules.proofs.Moves.{good_side}
use Rattle.rules.proofs.Held.{Sized}

-- of two entries at one price and of one class the first in rank is the earlier
pub earlier_of : (s : Side) (e f : Entry) → rank_before s (rank_of e) (rank_of f) ≡ true → e.price ≡ f.price → class_of e ≡ class_of f → e.time < f.time
earlier_of Buy e f before price class = grind (arith, nat_tests)
earlier_of Sell e f before price class = grind (arith, nat_tests)

-- a run of one price, in rank, no longer than n
record GoodRun (tick : ℕ) (c : Counters) (s : Side) (n : ℕ) (r : List Entry) : Type 0 where
  pub good : AllByRecursion (GoodEntry tick c) r
  pub timed : ByTime r
  pub short : length r ≤ n

-- each entry of a run has the price of its first
abbrev LevelPrice : List Entry → Type 0
LevelPrice [] = Unit {0}
LevelPrice (e ∷ es) = AllByRecursion (λ f. f.price ≡ e.price) es

-- what holds of each entry holds of each of each run
into_all : (P : Entry → Type 0) (e : Entry) (rs : List (List Entry)) → P e → AllByRecursion (AllByRecursion P) rs → AllByRecursion (AllByRecursion P) (into_runs e rs)
into_all P e [] p ps = ((p, tt), tt)
into_all P e ([] ∷ rs) p ps = ((p, tt), ps.1)
into_all P e ((f ∷ fs) ∷ rs) p ps = cond_both (eqb e.price f.price) ((e ∷ f ∷ fs) ∷ rs) ((e ∷ []) ∷ (f ∷ fs) ∷ rs) (AllByRecursion (AllByRecursion P)) (λ _. ((p, ps.0), ps.1)) (λ _. ((p, tt), ps))

pub all_runs : (P : Entry → Type 0) (es : List Entry) → AllByRecursion P es → AllByRecursion (AllByRecursion P) (runs es)
all_runs P [] ps = tt
all_runs P (e ∷ es) ps = into_all P e (runs es) ps.0 (all_runs P es ps.1)

module _ (tick : ℕ) (c : Counters) (s : Side) where
  abbrev Fine : ℕ → List Entry → Type 0
  Fine n r = GoodRun tick c s n r × LevelPrice r

  longer : (n : ℕ) (rs : List (List Entry)) → AllByRecursion (Fine n) rs → AllByRecursion (Fine (n + 1)) rs
  longer n rs fine = All-weaker (Fine n) (Fine (n + 1)) (λ r h. (record { good = h.0.good; timed = h.0.timed; short = omega (arith, h.0.short) }, h.1)) rs fine

  alone : (n : ℕ) (e : Entry) → GoodEntry tick c e → Fine (n + 1) (e ∷ [])
  alone n e good = (record { good = (good, tt); timed = (tt, tt); short = omega arith }, tt)

  into_fine : (n : ℕ) (e : Entry) (rs : List (List Entry)) → GoodEntry tick c e → AllByRecursion (AllByRecursion (λ g. rank_before s (rank_of e) (rank_of g) ≡ true)) rs → AllByRecursion (Fine n) rs → AllByRecursion (Fine (n + 1)) (into_runs e rs)
  into_fine n e [] good ranked fine = (alone n e good, tt)
  into_fine n e ([] ∷ rs) good ranked fine = (alone n e good, longer n rs fine.1)
  into_fine n e ((f ∷ fs) ∷ rs) good ranked fine =
      cond_both (eqb e.price f.price) ((e ∷ f ∷ fs) ∷ rs) ((e ∷ []) ∷ (f ∷ fs) ∷ rs) (AllByRecursion (Fine (n + 1)))
      (λ level.
      let price = eqb-true e.price f.price level in
      let here = fine.0 in
      let level_all : AllByRecursion (λ g. g.price ≡ f.price) (f ∷ fs) = (refl, here.1) in (
        (
          record {
            good = (good, here.0.good);
            timed = (
              all_both (λ g. g.price ≡ f.price) (λ g. rank_before s (rank_of e) (rank_of g) ≡ true) (λ g. class_of e ≡ class_of g → e.time < g.time)
                  (λ g at before. earlier_of s e g before (price ∙ sym at)) (f ∷ fs) level_all ranked.0,
              here.0.timed,
            );
            short = omega (arith, here.0.short);
          },
          All-weaker (λ g. g.price ≡ f.price) (λ g. g.price ≡ e.price) (λ g h. h ∙ sym price) (f ∷ fs) level_all,
        ),
        longer n rs fine.1,
      ))
      (λ _. (alone n e good, longer n ((f ∷ fs) ∷ rs) fine))

  runs_fine : (es : List Entry) → InRank s es → AllByRecursion (GoodEntry tick c) es → AllByRecursion (Fine (length es)) (runs es)
  runs_fine [] ranked good = tt
  runs_fine (e ∷ es) ranked good =
      let more = into_fine (length es) e (runs es) good.0 (all_runs (λ g. rank_before s (rank_of e) (rank_of g) ≡ true) es ranked.0) (runs_fine es ranked.1 good.1) in
      let long : length es + 1 ≡ length (e ∷ es) = omega arith in
      subst (λ n. AllByRecursion (Fine n) (into_runs e (runs es))) long more

pub places_few : (s : Side) (m : Model) → Sound m → length (entries s m) ≤ 256
places_few Buy m sound = omega (arith, sound.bids.few, sound.bid_places)
places_few Sell m sound = omega (arith, sound.offers.few, sound.offer_places)

pub always_tradable : AlwaysTradable
always_tradable m sound s balance small =
    let tick = m.opening.tick in
    let g = good_side s m sound in
    All-weaker (Fine tick m.counters s (length (entries s m))) (Tradable balance)
    (λ r h. record {
      few = omega (arith, h.0.short, places_few s m sound);
      small = small;
      sized = All-weaker (GoodEntry tick m.counters) Sized (λ e k. (k.some, k.size)) r h.0.good;
      timed = h.0.timed;
    })
    (runs (entries s m)) (runs_fine tick m.counters s (entries s m) g.ranked g.good)
