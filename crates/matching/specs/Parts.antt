-- Which entries at a price take part in a step, and which are still there. Assumes nothing.
use Rattle.std.specs.Prelude.{ℕ, Bool, not, ◌&&◌, List, map, filter, nat_lt}
use Rattle.std.specs.List.{sum_by}
use Rattle.sharing.specs.declared.claims.Claim.{Claim}
use Rattle.sharing.specs.Claims.{allotment_of}
use Rattle.rules.specs.declared.ranks.Class.TheVariants.{CustomerMarketOrder, OtherMarketOrder, CustomerLimitOrder, OtherInterest}
use Rattle.rules.specs.declared.tape.Line.{Line}
use Rattle.rules.specs.declared.tape.Step.{Step}
use Rattle.rules.specs.declared.tape.Step.TheVariants.{CustomerMarketOrders, OtherMarketOrders, CustomerLimitOrders, GuaranteedQuotes, OtherInterest as OtherInterestStep}
use Rattle.rules.specs.declared.terms.Entry.{Entry}
use Rattle.rules.specs.Level.{size_of, claim_of, fills, in_class, quote_of, specialist, spread}
use Rattle.rules.specs.Ranks.{class_number}
use Rattle.matching.specs.declared.parts.Group.{Group}
use Rattle.matching.specs.declared.parts.Group.TheVariants.{QuotesOf, Specialists}
use Rattle.matching.specs.declared.parts.Part.{Part}
use Rattle.matching.specs.declared.parts.Part.TheVariants.{Class, Within, Beside}

-- the quotes of a firm, or all specialist quotes
abbrev pub group_test : Group → Entry → Bool
group_test (QuotesOf firm) = quote_of firm
group_test Specialists = specialist

-- a class, a group, or the fourth class without a group
abbrev pub part_test : Part → Entry → Bool
part_test (Class k) = in_class (class_number k)
part_test (Within g) = group_test g
part_test (Beside g) = λ e. in_class 4 e && not (group_test g e)

-- the step in which they trade: a class as a whole, the group with its guarantee, the others of the fourth class
abbrev pub step_for : Part → Step
step_for (Class CustomerMarketOrder) = CustomerMarketOrders
step_for (Class OtherMarketOrder) = OtherMarketOrders
step_for (Class CustomerLimitOrder) = CustomerLimitOrders
step_for (Class OtherInterest) = OtherInterestStep
step_for (Within g) = GuaranteedQuotes
step_for (Beside g) = OtherInterestStep

-- an entry with no contracts left is gone, though its place is not closed yet
abbrev pub is_live : Entry → Bool
is_live e = nat_lt 0 e.size

-- the entries that are still there
abbrev pub live : List Entry → List Entry
live es = filter is_live es

-- an entry that is still there takes part
abbrev pub takes_part : (Entry → Bool) → Entry → Bool
takes_part test e = is_live e && test e

-- the entries still there that take part
abbrev pub taking : Part → List Entry → List Entry
taking part run = filter (part_test part) (live run)

-- their claims
abbrev pub claims_at : Part → List Entry → List Claim
claims_at part run = map claim_of (taking part run)

-- the contracts that those still there show who pass a test
abbrev pub shown_by : (Entry → Bool) → List Entry → ℕ
shown_by test run = sum_by size_of (filter (takes_part test) run)

-- what each entry still there gives, where those who take part have the numbers on a sheet, in order
abbrev pub gives : Part → List Claim → List Entry → List ℕ
gives part sheet run = spread (part_test part) (map allotment_of sheet) (live run)

-- the lines of what they give
abbrev pub fills_at : Part → List Claim → List Entry → List Line
fills_at part sheet run = fills (step_for part) (gives part sheet run) (live run)
