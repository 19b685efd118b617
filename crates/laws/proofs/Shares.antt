-- What the entries of a round share, under any lawful rule. Assumes nothing.
use Rattle.std.proofs.Common.{◌≡◌, ℕ, ◌<◌, ◌≤◌, min, Bool, true, List, [], ◌∷◌, map, length, filter, sym, refl, ap, ◌∙◌, subst, arith}
use mathlib.Core.List.{map-map}
use Rattle.std.specs.List.{AllZip}
use Rattle.std.proofs.lemmas.List.Elements.{length_all_zip}
use Rattle.std.proofs.lemmas.List.{length-map}
use Rattle.sharing.specs.Claims as claims
use Rattle.sharing.specs.Claims.{Shareable}
use Rattle.sharing.specs.Sharing.{Sharing, Lawful}
use Rattle.sharing.specs.Totals.{total}
use Rattle.sharing.specs.ToppedUp.{total_map}
use Rattle.rules.specs.declared.tape.Step.TheVariants.{OtherInterest}
use Rattle.rules.specs.declared.terms.Entry.{Entry}
use Rattle.rules.specs.Laws.{Tradable}
use Rattle.rules.specs.Level.{size_of, claim_of}
use Rattle.rules.specs.Ranks.{class_of}
use Rattle.rules.proofs.Steps.{step_shareable}

-- numbers that a lawful rule gives to entries for an amount
pub record Shared (rule : Sharing) (amount : ℕ) (cs : List Entry) (ns : List ℕ) : Type 0 where
  pub adds_up : total (λ n. n) ns ≡ min amount (total size_of cs)
  pub within : AllZip ◌≤◌ ns (map size_of cs)
  pub above : AllZip ◌≤◌ (rule.floors amount (map claim_of cs)) ns

pub long : (rule : Sharing) (amount : ℕ) (cs : List Entry) (ns : List ℕ) → Shared rule amount cs ns → length ns ≡ length cs
long rule amount cs ns s = length_all_zip ◌≤◌ ns (map size_of cs) s.within ∙ length-map cs size_of

module _ (rule : Sharing) (lawful : Lawful rule) (b : ℕ) (run : List Entry) (ok : Tradable b run) (amount : ℕ) (small : amount < 100000)
    (test : Entry → Bool) (class : ℕ) (one : (e : Entry) → test e ≡ true → class_of e ≡ class) where
  pub shared : Shared rule amount (filter test run) (rule.allotments amount (map claim_of (filter test run)))
  shared =
      let cs = filter test run in
      let fit : Shareable amount (map claim_of cs) = step_shareable OtherInterest test rule lawful amount (record { balance = b; run = run; lines = [] }) class one ok small in
      record {
        adds_up = lawful.adds_up amount (map claim_of cs) fit ∙ ap (min amount) (total_map claim_of claims.size_of cs);
        within = subst (AllZip ◌≤◌ (rule.allotments amount (map claim_of cs))) (map-map claims.size_of claim_of cs) (lawful.within amount (map claim_of cs) fit);
        above = lawful.above amount (map claim_of cs) fit;
      }

pub each_total : (ns ms : List ℕ) → AllZip ◌≤◌ ns ms → total (λ n. n) ns ≤ total (λ n. n) ms
each_total [] [] le = omega arith
each_total [] (m ∷ ms) le = absurd le
each_total (n ∷ ns) [] le = absurd le
each_total (n ∷ ns) (m ∷ ms) le = omega (arith, le.0, each_total ns ms le.1)

-- numbers within others that add up to the same are the same
pub same_numbers : (ns ms : List ℕ) → AllZip ◌≤◌ ns ms → total (λ n. n) ns ≡ total (λ n. n) ms → ns ≡ ms
same_numbers [] [] le same = refl
same_numbers [] (m ∷ ms) le same = absurd le
same_numbers (n ∷ ns) [] le same = absurd le
same_numbers (n ∷ ns) (m ∷ ms) le same =
    let less = each_total ns ms le.1 in
    let first : n ≡ m = omega (arith, le.0) in
    (λ t. first t ∷ same_numbers ns ms le.1 (omega (arith, le.0)) t)

pub each_trans : (ns ms ks : List ℕ) → AllZip ◌≤◌ ns ms → AllZip ◌≤◌ ms ks → AllZip ◌≤◌ ns ks
each_trans [] [] [] le more = tt
each_trans [] [] (k ∷ ks) le more = absurd more
each_trans [] (m ∷ ms) ks le more = absurd le
each_trans (n ∷ ns) [] ks le more = absurd le
each_trans (n ∷ ns) (m ∷ ms) [] le more = absurd more
each_trans (n ∷ ns) (m ∷ ms) (k ∷ ks) le more = (omega (arith, le.0, more.0), each_trans ns ms ks le.1 more.1)

-- a round that gives all that its entries hold gives each its whole size
pub whole : (rule : Sharing) (amount : ℕ) (cs : List Entry) (ns : List ℕ) → Shared rule amount cs ns → total (λ n. n) ns ≡ total size_of cs → ns ≡ map size_of cs
whole rule amount cs ns s all = same_numbers ns (map size_of cs) s.within (all ∙ sym (total_map size_of (λ n. n) cs))
