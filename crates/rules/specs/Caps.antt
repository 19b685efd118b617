-- The Trading Collar and the cap of an order. Assumes nothing.
use Rattle.std.specs.Prelude.{ℕ, ◌+◌, ◌-◌, min, Bool, true, false, cond, ◌||◌, Some, None, Option, nat_le}
use Rattle.std.specs.Option.{unwrap_or}
use Rattle.rules.specs.declared.terms.Kind.{Kind}
use Rattle.rules.specs.declared.terms.Kind.TheVariants.{Customer, Other, MakerQuote, SpecialistQuote}
use Rattle.rules.specs.declared.terms.Order.{Order}
use Rattle.rules.specs.declared.terms.Side.{Side}
use Rattle.rules.specs.declared.terms.Side.TheVariants.{Buy, Sell}
use Rattle.rules.specs.declared.terms.Term.{Term}
use Rattle.rules.specs.declared.terms.Term.TheVariants.{Day, ImmediateOrCancel}
use Rattle.rules.specs.Sides.{is_better}

-- how far in cents the collar lies from the reference
abbrev pub collar_amount : ℕ → ℕ
collar_amount r = cond (nat_le r 200) 20 (cond (nat_le r 500) 30 (cond (nat_le r 1000) 40 (cond (nat_le r 2000) 70 (cond (nat_le r 5000) 90 (cond (nat_le r 10000) 140 190)))))

-- a buyer's is above the reference, at most 1,000,000; a seller's is below it, and the limit, or one tick for a Market Order, where that is below one tick
abbrev pub collar_of : Side → ℕ → Option ℕ → ℕ → ℕ
collar_of Buy tick limit r = min 1000000 (r + collar_amount r)
collar_of Sell tick limit r = cond (nat_le (collar_amount r + tick) r) (r - collar_amount r) (unwrap_or limit tick)

abbrev pub is_quote : Kind → Bool
is_quote Customer = false
is_quote Other = false
is_quote MakerQuote = true
is_quote SpecialistQuote = true

abbrev pub is_ioc : Term → Bool
is_ioc Day = false
is_ioc ImmediateOrCancel = true

-- the price that pays less, or takes more
abbrev pub tighter : Side → ℕ → ℕ → ℕ
tighter s p q = cond (is_better s p q) q p

-- the tighter of the limit, which may be absent, and the collar
abbrev pub collared : Side → Option ℕ → ℕ → ℕ
collared s None collar = collar
collared s (Some limit) collar = tighter s limit collar

-- without a reference there is no collar, and the limit stands alone
abbrev pub cap_at : Side → ℕ → Option ℕ → Option ℕ → Option ℕ
cap_at s tick limit None = limit
cap_at s tick limit (Some r) = Some (collared s limit (collar_of s tick limit r))

-- an immediate order and a quote have their limit; any other is collared. A Market Order without a reference has none
abbrev pub cap_of : Order → ℕ → Option ℕ → Option ℕ
cap_of o tick reference = cond (is_ioc o.term || is_quote o.kind) o.price (cap_at o.side tick o.price reference)
