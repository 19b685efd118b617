-- Claims: what a sharing rule may be given, and how claims are ranked. Assumes nothing.
use Rattle.std.specs.Prelude.{ℕ, ◌-◌, ◌<◌, ◌≤◌, Bool, ◌&&◌, ◌||◌, List, [], ◌∷◌, length, ◌==◌, nat_lt}
use Rattle.std.specs.List.{AllByRecursion}
use Rattle.sharing.specs.declared.claims.Claim.{Claim}

abbrev pub size_of : Claim → ℕ
size_of c = c.size

abbrev pub allotment_of : Claim → ℕ
allotment_of c = c.allotment

-- the same claim with another allotment
abbrev pub with_allotment : ℕ → Claim → Claim
with_allotment n c = record { size = c.size; time = c.time; allotment = n }

-- the same claims with these allotments, in order
abbrev pub allotted : List ℕ → List Claim → List Claim
allotted [] cs = cs
allotted (n ∷ ns) [] = []
allotted (n ∷ ns) (c ∷ cs) = with_allotment n c ∷ allotted ns cs

-- each claim is earlier than all behind it, so that each has a time of its own
abbrev pub Ascending : List Claim → Type 0
Ascending [] = Unit {0}
Ascending (c ∷ cs) = AllByRecursion (λ d. c.time < d.time) cs × Ascending cs

-- what a rule may be asked: an amount below 100,000, at most 256 claims, earliest first, each of 1 to 99,999 contracts
pub record Shareable (amount : ℕ) (cs : List Claim) : Type 0 where
  pub few : length cs ≤ 256
  pub small : amount < 100000
  pub sized : AllByRecursion (λ c. (1 ≤ c.size) × (c.size ≤ 99999)) cs
  pub timed : Ascending cs

-- the rank of a claim by what it has left: its size less its allotment, and its time
abbrev pub remaining : Claim → ℕ × ℕ
remaining c = (c.size - c.allotment, c.time)

-- more left comes first, and of as many the earlier
abbrev pub larger_then_earlier : ℕ × ℕ → ℕ × ℕ → Bool
larger_then_earlier r s = nat_lt s.0 r.0 || (r.0 == s.0 && nat_lt r.1 s.1)
