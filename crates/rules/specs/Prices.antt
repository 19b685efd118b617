-- Ticks, prices and sizes, the national best price, and which prices an order reaches. Assumes nothing.
use Rattle.std.specs.Prelude.{ℕ, ◌%◌, Bool, true, cond, not, ◌&&◌, ◌||◌, Some, None, Option, ◌==◌, nat_le}
use Rattle.rules.specs.declared.terms.Side.{Side}
use Rattle.rules.specs.Sides.{other_side, is_better}

-- 1, 5 or 10 cents
abbrev pub is_tick : ℕ → Bool
is_tick t = t == 1 || (t == 5 || t == 10)

-- 1 to 1,000,000 cents and a multiple of the tick
abbrev pub is_price : ℕ → ℕ → Bool
is_price tick p = nat_le 1 p && (nat_le p 1000000 && p % tick == 0)

-- 1 to 99,999 contracts
abbrev pub is_size : ℕ → Bool
is_size n = nat_le 1 n && nat_le n 99999

-- the better of the book's best price on a side and the away price there; either may be absent
abbrev pub national : Side → Option ℕ → Option ℕ → Option ℕ
national s None away = away
national s (Some p) None = Some p
national s (Some p) (Some q) = Some (cond (is_better s q p) q p)

-- an order with this cap pays no more, or takes no less
abbrev pub in_cap : Side → ℕ → ℕ → Bool
in_cap s cap p = not (is_better s p cap)

-- no away price is better to trade at than p
abbrev pub not_better_away : Side → Option ℕ → ℕ → Bool
not_better_away s None p = true
not_better_away s (Some q) p = not (is_better (other_side s) q p)

-- a price on the other side is within reach: within the cap, and no away price is better
abbrev pub in_reach : Side → ℕ → Option ℕ → ℕ → Bool
in_reach s cap away p = in_cap s cap p && not_better_away s away p
