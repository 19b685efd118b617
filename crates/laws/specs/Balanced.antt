-- Accounts that balance. Assumes nothing.
use Rattle.std.specs.Prelude.{◌≡◌, ℕ, ◌+◌, cond, List}
use Rattle.sharing.specs.Totals.{total}
use Rattle.rules.specs.declared.terms.Side.{Side}
use Rattle.rules.specs.declared.terms.Side.TheVariants.{Buy, Sell}
use Rattle.rules.specs.Laws.{holding}
use Rattle.rules.specs.Model.{Model}
use Rattle.laws.specs.Accounts.{account}
use Rattle.laws.specs.Facts.{orders, same_side}
use Rattle.laws.specs.Histories.{Told}

-- an order's size in the book, or 0
abbrev pub resting : ℕ → Model → ℕ
resting i m = holding i m.bids + holding i m.offers

-- what the orders of a side traded here
abbrev pub traded_on : Side → List Told → ℕ
traded_on s rs = total (λ o. cond (same_side o.side s) (account o.id rs).traded_here 0) (orders rs)

pub record Balanced (rs : List Told) (m : Model) : Type 0 where
  -- what was entered and added traded here or away, was cancelled or taken off, rests, or is out on a route
  pub orders : (i : ℕ) → let a = account i rs in a.entered + a.added ≡ ((((a.traded_here + a.traded_away) + a.cancelled) + a.taken_off) + resting i m) + a.out
  -- each contract that was bought was sold
  pub sides : traded_on Buy rs ≡ traded_on Sell rs
