-- The two sides, and which of two prices is better on one. Assumes nothing.
use Rattle.std.specs.Prelude.{ℕ, Bool, nat_lt}
use Rattle.rules.specs.declared.terms.Side.{Side}
use Rattle.rules.specs.declared.terms.Side.TheVariants.{Buy, Sell}

abbrev pub other_side : Side → Side
other_side Buy = Sell
other_side Sell = Buy

-- a higher bid, a lower offer
abbrev pub is_better : Side → ℕ → ℕ → Bool
is_better Buy p q = nat_lt q p
is_better Sell p q = nat_lt p q
