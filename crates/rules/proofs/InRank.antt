-- Sides stay in rank: after what is left, after an insertion, after entries go. Assumes nothing.
use Rattle.std.proofs.Common.{◌≡◌, ℕ, ◌<◌, true, List, [], ◌∷◌, arith}
use Rattle.std.specs.List.{AllByRecursion}
use Rattle.std.proofs.ByRecursion.{All-weaker}
use Rattle.std.proofs.lemmas.Bool.{cond_both, true_from_ne_false}
use Rattle.ranked.specs.Ranked.{ahead}
use Rattle.ranked.proofs.Orderly.{all_inserted_into}
use Rattle.rules.specs.declared.terms.Entry.{Entry}
use Rattle.rules.specs.declared.terms.Side.{Side}
use Rattle.rules.specs.Laws.{LeftOf}
use Rattle.rules.specs.Model.{ranked_in}
use Rattle.rules.specs.Ranks.{rank_of, rank_before}
use Rattle.rules.specs.Sound.{InRank}
use Rattle.rules.specs.TotalRanks.{same_time}
use Rattle.rules.specs.contracts.ranks.SideRankingEntry.TheImpl.Laws.{transitive-law}
use Rattle.rules.proofs.LeftOver.{each_left_of}

pub rank_transitive : (s : Side) (r t u : ℕ × ℕ × ℕ) → rank_before s r t ≡ true → rank_before s t u ≡ true → rank_before s r u ≡ true
rank_transitive = transitive-law

pub in_rank_left : (s : Side) {es fs : List Entry} → LeftOf es fs → InRank s es → InRank s fs
in_rank_left s g r = each_left_of (λ e f. rank_before s (rank_of e) (rank_of f) ≡ true) (λ n e f h. (h, h)) g r

-- an entry with a later time than all finds its place
pub in_rank_inserted : (s : Side) (e : Entry) (es : List Entry) → AllByRecursion (λ f. f.time < e.time) es → InRank s es → InRank s (ranked_in s e es)
in_rank_inserted s e [] later r = (tt, tt)
in_rank_inserted s e (f ∷ fs) later r =
    cond_both (rank_before s (rank_of e) (rank_of f)) (e ∷ f ∷ fs) (f ∷ ranked_in s e fs) (InRank s)
    (λ first. ((first, All-weaker (λ g. rank_before s (rank_of f) (rank_of g) ≡ true) (λ g. rank_before s (rank_of e) (rank_of g) ≡ true) (λ g h. rank_transitive s (rank_of e) (rank_of f) (rank_of g) first h) fs r.0), r))
    (λ behind.
    let ahead_of_it = true_from_ne_false (rank_before s (rank_of f) (rank_of e)) (λ neither. omega (arith, same_time s (rank_of e) (rank_of f) behind neither, later.0)) in
    (all_inserted_into (ahead rank_before (λ _. rank_of) s) (λ g. rank_before s (rank_of f) (rank_of g) ≡ true) e fs ahead_of_it r.0, in_rank_inserted s e fs later.1 r.1))
