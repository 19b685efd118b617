-- The makers' guarantee. Assumes nothing.
use Rattle.std.specs.Prelude.{ℕ, ◌*◌, ◌/◌, min, max}

-- 40% of the balance rounded down, at least 1
abbrev pub guaranteed : ℕ → ℕ
guaranteed balance = max 1 (balance * 2 / 5)

-- what the guaranteed group gets of a balance, where it shows `group` of the `all` contracts of non-customers
abbrev pub group_amount : ℕ → ℕ → ℕ → ℕ
group_amount balance group all = min group (max (guaranteed balance) (balance * group / all))
