-- What the accepted calls tell of an order beside its account, and of the away prices. Assumes nothing.
use Rattle.std.specs.Prelude.{ℕ, ◌+◌, Bool, true, false, cond, List, [], ◌∷◌, is_some, Some, None, Option, ◌==◌, nat_lt}
use Rattle.sharing.specs.Totals.{one_if}
use Rattle.rules.specs.declared.tape.Line.{Line}
use Rattle.rules.specs.declared.tape.Line.TheVariants.{Fill, Cancel, Filled, Rest, Route}
use Rattle.rules.specs.declared.terms.Order.{Order}
use Rattle.rules.specs.declared.terms.Side.{Side}
use Rattle.rules.specs.declared.terms.Side.TheVariants.{Buy, Sell}
use Rattle.laws.specs.Accounts.{holds, account}
use Rattle.laws.specs.Histories.{Call, Told}
use Rattle.laws.specs.Histories.Call.{enters, returns, resizes, cancels, updates}
use Rattle.laws.specs.Histories.Told.{turned_down, carried_out}

abbrev pub order_in : Call → Option Order
order_in (enters rule c) = Some c.order
order_in (returns rule c) = None
order_in (resizes c) = None
order_in (cancels c) = None
order_in (updates c) = None

-- the order that an accepted entry brings
abbrev pub entered_by : Told → Option Order
entered_by (turned_down k r) = None
entered_by (carried_out k answer tape) = order_in k

-- an accepted order, and what had been told before it
pub record Arrived : Type 0 where
  pub order : Order
  pub before : List Told

abbrev pub arrived_by : ℕ → Option Order → List Told → Option Arrived → Option Arrived
arrived_by i None rs a = a
arrived_by i (Some o) rs a = cond (o.id == i) (Some (record { order = o; before = rs })) a

-- the accepted order with an id
abbrev pub arrived : ℕ → List Told → Option Arrived
arrived i [] = None
arrived i (r ∷ rs) = arrived_by i (entered_by r) rs (arrived i rs)

-- all accepted orders
abbrev pub and_order : Option Order → List Order → List Order
and_order None os = os
and_order (Some o) os = o ∷ os

abbrev pub orders : List Told → List Order
orders [] = []
orders (r ∷ rs) = and_order (entered_by r) (orders rs)

-- an order comes to rest, at a price
pub record Rested : Type 0 where
  pub id : ℕ
  pub price : ℕ

abbrev pub rest_or : Line → Option Rested → Option Rested
rest_or (Fill id firm size price step) r = r
rest_or (Cancel id firm size cause) r = r
rest_or (Filled id firm) r = r
rest_or (Rest id firm size price) r = Some (record { id = id; price = price })
rest_or (Route id firm size) r = r

-- the rest line of a tape
abbrev pub rested_in : List Line → Option Rested
rested_in [] = None
rested_in (l ∷ ls) = rest_or l (rested_in ls)

abbrev pub rested_by : Told → Option Rested
rested_by (turned_down k r) = None
rested_by (carried_out k answer tape) = rested_in tape

abbrev pub price_by : ℕ → Option Rested → Option ℕ → Option ℕ
price_by i None p = p
price_by i (Some r) p = cond (r.id == i) (Some r.price) p

-- the price at which an order came to rest
abbrev pub resting_price : ℕ → List Told → Option ℕ
resting_price i [] = None
resting_price i (r ∷ rs) = price_by i (rested_by r) (resting_price i rs)

abbrev pub id_of : Option Rested → Option ℕ
id_of None = None
id_of (Some r) = Some r.id

-- a rest, and a size above what the order held, give the order a new working time; nothing else does
abbrev pub timed_in : Call → ℕ → List Line → List Told → Option ℕ
timed_in (enters rule c) answer tape rs = id_of (rested_in tape)
timed_in (returns rule c) answer tape rs = id_of (rested_in tape)
timed_in (resizes c) answer tape rs = cond (nat_lt (holds (account c.id rs)) answer) (Some c.id) None
timed_in (cancels c) answer tape rs = None
timed_in (updates c) answer tape rs = None

-- the order that a call gives a new working time
abbrev pub timed_by : Told → List Told → Option ℕ
timed_by (turned_down k r) rs = None
timed_by (carried_out k answer tape) rs = timed_in k answer tape rs

-- the last working time: how many were given
abbrev pub clock : List Told → ℕ
clock [] = 0
clock (r ∷ rs) = clock rs + one_if (is_some (timed_by r rs))

abbrev pub time_by : ℕ → Option ℕ → ℕ → ℕ → ℕ
time_by i None now t = t
time_by i (Some j) now t = cond (j == i) now t

-- the working time of an order
abbrev pub working_time : ℕ → List Told → ℕ
working_time i [] = 0
working_time i (r ∷ rs) = time_by i (timed_by r rs) (clock (r ∷ rs)) (working_time i rs)

abbrev pub same_side : Side → Side → Bool
same_side Buy Buy = true
same_side Buy Sell = false
same_side Sell Buy = false
same_side Sell Sell = true

abbrev pub away_in : Side → Call → Option ℕ → Option ℕ
away_in s (enters rule c) p = p
away_in s (returns rule c) p = p
away_in s (resizes c) p = p
away_in s (cancels c) p = p
away_in s (updates c) p = cond (same_side c.side s) c.price p

abbrev pub away_by : Side → Told → Option ℕ → Option ℕ
away_by s (turned_down k r) p = p
away_by s (carried_out k answer tape) p = away_in s k p

-- the away price on a side is that of the last accepted market update there
abbrev pub away_price : Side → List Told → Option ℕ
away_price s [] = None
away_price s (r ∷ rs) = away_by s r (away_price s rs)
