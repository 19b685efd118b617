-- The meanings of the shipped sharing rules. Assumes nothing.
use Rattle.std.specs.Prelude.{ℕ, ◌+◌, ◌-◌, ◌*◌, ◌/◌, min, cond, List, [], ◌∷◌, map, nat_le, nat_lt}
use Rattle.sharing.specs.declared.claims.Claim.{Claim}
use Rattle.sharing.specs.Claims.{size_of, with_allotment, allotted, remaining, larger_then_earlier}
use Rattle.sharing.specs.Sharing.{Sharing}
use Rattle.sharing.specs.Totals.{one_if, total, count}

-- each claim in turn gets the lesser of its size and what the earlier ones leave
abbrev pub in_turn : ℕ → List Claim → List ℕ
in_turn amount [] = []
in_turn amount (c ∷ cs) = min c.size amount ∷ in_turn (amount - c.size) cs

-- by time: allotment and floor are one
abbrev pub by_time : Sharing
by_time = record { allotments = in_turn; floors = in_turn }

-- a size's part of an amount, rounded down; all of it where the amount covers all sizes
abbrev pub part : ℕ → ℕ → ℕ → ℕ
part amount all n = cond (nat_le all amount) n (amount * n / all)

abbrev pub parts : ℕ → List Claim → List ℕ
parts amount cs = map (λ c. part amount (total size_of cs) c.size) cs

-- one contract more
abbrev pub one_more : Claim → Claim
one_more c = with_allotment (c.allotment + 1) c

-- the allotments with one contract more for each of the first `extra` claims in the order of what they have left
abbrev pub topped : ℕ → List Claim → List ℕ
topped extra cs = map (λ c. c.allotment + one_if (nat_lt (count (λ d. larger_then_earlier (remaining d) (remaining c)) cs) extra)) cs

-- the parts, and contracts that they leave over one each by largest remaining size, then earlier time
abbrev pub topped_parts : ℕ → List Claim → List ℕ
topped_parts amount cs = topped (amount - total (λ n. n) (parts amount cs)) (allotted (parts amount cs) cs)

-- by size: the floor is the part; where the amount covers all sizes, nothing is topped up
abbrev pub size_pro_rata : Sharing
size_pro_rata = record {
  allotments = λ amount cs. cond (nat_le (total size_of cs) amount) (parts amount cs) (topped_parts amount cs);
  floors = parts;
}
