-- A step from a sheet: the claims gathered, the numbers shared, and what they give. Assumes nothing.
use Rattle.std.proofs.Common.{◌≡◌, ℕ, ◌-◌, ◌≤◌, min, Bool, List, [], ◌∷◌, map, length, take, filter, sym, refl, ap, ◌∙◌, arith}
use mathlib.Core.List.{map-map}
use Rattle.std.specs.List.{AllZip}
use Rattle.std.proofs.lemmas.Bool.Decides.{nat_tests}
use Rattle.std.proofs.lemmas.List.{take-map}
use Rattle.sharing.specs.declared.claims.Claim.{Claim}
use Rattle.sharing.specs.Claims as claims
use Rattle.sharing.specs.Claims.{Shareable, allotted, allotment_of}
use Rattle.sharing.specs.Sharing.{Sharing, Lawful}
use Rattle.sharing.specs.Totals.{total}
use Rattle.sharing.proofs.Shared.{as_many}
use Rattle.rules.specs.declared.tape.Step.{Step}
use Rattle.rules.specs.declared.terms.Entry.{Entry}
use Rattle.rules.specs.Level.{size_of, claim_of, spread, left_after, fills, Deal, step}
use Rattle.rules.proofs.Held.{length_kept}
use Rattle.matching.specs.Deals.{bare}
use Rattle.matching.specs.Parts.{is_live, live}

-- only as many numbers are spread as entries pass
spread_front : (t : Entry → Bool) (ns : List ℕ) (es : List Entry) → spread t (take (length (filter t es)) ns) es ≡ spread t ns es
spread_front t ns [] = refl
spread_front t [] (e ∷ es) = grind (arith, nat_tests, spread_front t [] es)
spread_front t (n ∷ ns) (e ∷ es) = grind (arith, nat_tests, spread_front t ns es, spread_front t (n ∷ ns) es)

-- claims that have been allotted numbers hold them
allotments_of : (ns : List ℕ) (cs : List Claim) → length ns ≡ length cs → map allotment_of (allotted ns cs) ≡ ns
allotments_of [] [] long = refl
allotments_of [] (c ∷ cs) long = absurd (omega arith)
allotments_of (n ∷ ns) [] long = absurd (omega arith)
allotments_of (n ∷ ns) (c ∷ cs) long = ap (λ l. n ∷ l) (allotments_of ns cs (omega arith))

-- no more take part than a run has places
pub length_part : (t : Entry → Bool) (run : List Entry) → length (filter t (live run)) ≤ length run
length_part t run = omega (arith, length_kept t (live run), length_kept is_live run)

-- a sheet from which those who take part are paid as the step says
pub record FromSheet (k : Step) (t : Entry → Bool) (rule : Sharing) (amount balance : ℕ) (es : List Entry) (sheet : List Claim) (given : ℕ) : Type 0 where
  pub within : AllZip ◌≤◌ (map allotment_of (take (length (filter t es)) sheet)) (map size_of (filter t es))
  pub run : left_after (spread t (map allotment_of sheet) es) es ≡ (step k t rule amount (bare balance es)).run
  pub lines : fills k (spread t (map allotment_of sheet) es) es ≡ (step k t rule amount (bare balance es)).lines
  pub left : balance - given ≡ (step k t rule amount (bare balance es)).balance

-- a rule shares over the claims of the step, which stand at the front of the sheet
module _ (k : Step) (t : Entry → Bool) (rule : Sharing) (lawful : Lawful rule) (amount balance : ℕ) (es : List Entry) (ok : Shareable amount (map claim_of (filter t es)))
    (shared : List Claim) (after : take (length (filter t es)) shared ≡ allotted (rule.allotments amount (map claim_of (filter t es))) (map claim_of (filter t es))) where
  abbrev asked : List Claim
  asked = map claim_of (filter t es)

  abbrev deal : Deal
  deal = bare balance es

  long : length (rule.allotments amount asked) ≡ length asked
  long = as_many rule lawful amount asked ok

  -- the numbers on the sheet are the rule's
  numbers : map allotment_of (take (length (filter t es)) shared) ≡ rule.allotments amount asked
  numbers = ap (map allotment_of) after ∙ allotments_of (rule.allotments amount asked) asked long

  spreads : spread t (map allotment_of shared) es ≡ spread t (rule.allotments amount asked) es
  spreads =
      sym (spread_front t (map allotment_of shared) es)
      ∙ ap (λ l. spread t l es) (take-map allotment_of (length (filter t es)) shared ∙ numbers)

  sheet_within : AllZip ◌≤◌ (map allotment_of (take (length (filter t es)) shared)) (map size_of (filter t es))
  sheet_within =
      rw numbers (rw map-map at (lawful.within amount asked ok))

  sheet_run : left_after (spread t (map allotment_of shared) es) es ≡ (step k t rule amount deal).run
  unfolding step
  sheet_run = ap (λ l. left_after l es) spreads

  sheet_lines : fills k (spread t (map allotment_of shared) es) es ≡ (step k t rule amount deal).lines
  unfolding step
  sheet_lines = ap (λ l. fills k l es) spreads

  sheet_balance : (given : ℕ) → given ≡ min amount (total claims.size_of asked) → balance - given ≡ (step k t rule amount deal).balance
  unfolding step
  sheet_balance given gives = ap (λ m. balance - m) (gives ∙ sym (lawful.adds_up amount asked ok))

  pub from_sheet : (given : ℕ) → given ≡ min amount (total claims.size_of asked) → FromSheet k t rule amount balance es shared given
  from_sheet given gives = record { within = sheet_within; run = sheet_run; lines = sheet_lines; left = sheet_balance given gives }
