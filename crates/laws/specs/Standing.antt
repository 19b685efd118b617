-- The entries that stand on a side, as the records tell, and an order's cap. Assumes nothing.
use Rattle.std.specs.Prelude.{◌≡◌, ℕ, ◌≤◌, List, Some, Option, nat_eq}
use Rattle.std.specs.List.{AllByRecursion}
use Rattle.sharing.specs.Totals.{count}
use Rattle.rules.specs.declared.terms.Entry.{Entry}
use Rattle.rules.specs.declared.terms.Side.{Side}
use Rattle.rules.specs.Caps.{cap_of}
use Rattle.rules.specs.Checks.{unpriced}
use Rattle.rules.specs.Model.{best}
use Rattle.rules.specs.Prices.{national}
use Rattle.rules.specs.Sides.{other_side}
use Rattle.rules.specs.Sound.{InRank}
use Rattle.laws.specs.Accounts.{holds, account}
use Rattle.laws.specs.Facts.{Arrived, arrived, resting_price, working_time, away_price}
use Rattle.laws.specs.Histories.{Told}

-- an entry is an order that came to rest, as the records tell of it
pub record Known (s : Side) (rs : List Told) (e : Entry) : Type 0 where
  pub came : Arrived
  pub found : arrived e.id rs ≡ Some came
  pub side : came.order.side ≡ s
  pub firm : came.order.firm ≡ e.firm
  pub kind : came.order.kind ≡ e.kind
  pub market : unpriced came.order ≡ e.market
  pub mark : came.order.own_firm_mark ≡ e.own_firm_mark
  pub price : resting_price e.id rs ≡ Some e.price
  pub time : working_time e.id rs ≡ e.time

-- it stands while it holds contracts
pub record Stands (s : Side) (rs : List Told) (e : Entry) : Type 0 where
  pub known : Known s rs e
  pub size : holds (account e.id rs) ≡ e.size
  pub some : 1 ≤ e.size

-- a list in rank order with exactly the entries that stand on a side
pub record Standing (s : Side) (rs : List Told) (es : List Entry) : Type 0 where
  pub ranked : InRank s es
  pub standing : AllByRecursion (Stands s rs) es
  -- none is missing: each order of that side that holds contracts is there
  pub whole : (i : ℕ) (a : Arrived) → arrived i rs ≡ Some a → a.order.side ≡ s → 1 ≤ holds (account i rs) → 1 ≤ count (λ e. nat_eq e.id i) es

-- the national best price on a side, where these entries stand
abbrev pub national_told : Side → List Told → List Entry → Option ℕ
national_told s rs es = national s (best es) (away_price s rs)

-- an order's cap, reckoned once on arrival, from the national best price on the other side at that time
abbrev pub Capped : ℕ → Arrived → ℕ → Type 0
Capped tick a cap =
    let contra = other_side a.order.side in
    (es : List Entry) → Standing contra a.before es → cap_of a.order tick (national_told contra a.before es) ≡ Some cap
