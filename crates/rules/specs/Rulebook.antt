-- The collar as Rule 900.3NYP(a)(4)(C) computes it, in quarter cents, so that 25% of a price is exact. Assumes nothing.
use Rattle.std.specs.Prelude.{ℕ, ◌+◌, ◌-◌, ◌*◌, ◌/◌, min, cond, Option, nat_le, nat_lt}
use Rattle.std.specs.Option.{unwrap_or}
use Rattle.rules.specs.declared.terms.Side.{Side}
use Rattle.rules.specs.declared.terms.Side.TheVariants.{Buy, Sell}

-- the lesser of an amount in cents and 25% of the reference, in quarter cents
abbrev pub lesser : ℕ → ℕ → ℕ
lesser amount r = min (4 * amount) r

-- the ten bands of the reference, in quarter cents
abbrev pub band_amount : ℕ → ℕ
band_amount r =
    cond (nat_le r 100) (4 * 20) (cond (nat_le r 200) (lesser 20 r) (cond (nat_le r 300) (lesser 30 r) (cond (nat_le r 500) (lesser 30 r) (cond (nat_le r 750) (lesser 40 r)
    (cond (nat_le r 1000) (lesser 40 r) (cond (nat_le r 2000) (lesser 70 r) (cond (nat_le r 5000) (lesser 90 r) (cond (nat_le r 10000) (lesser 140 r) (lesser 190 r)))))))))

-- quarter cents rounded down to a price in cents that is a multiple of the tick
abbrev pub rounded_down : ℕ → ℕ → ℕ
rounded_down tick q = q / (4 * tick) * tick

-- the collar by the bands; prices end at 1,000,000, and what comes out below one tick is no price
abbrev pub rulebook_collar : Side → ℕ → Option ℕ → ℕ → ℕ
rulebook_collar Buy tick limit r = min 1000000 (rounded_down tick (4 * r + band_amount r))
rulebook_collar Sell tick limit r = cond (nat_lt (4 * r) (band_amount r)) (unwrap_or limit tick) (cond (nat_lt (rounded_down tick (4 * r - band_amount r)) tick) (unwrap_or limit tick) (rounded_down tick (4 * r - band_amount r)))
