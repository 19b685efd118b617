-- An order that comes to the other side in a call, what stands there, and how its tape is read. Assumes nothing.
use Rattle.std.specs.Prelude.{ℕ, ◌-◌, Bool, cond, not, ◌&&◌, ◌||◌, List, filter, Option, ◌==◌, nat_eq, nat_le, nat_lt}
use Rattle.sharing.specs.Sharing.{Sharing}
use Rattle.sharing.specs.Totals.{total}
use Rattle.rules.specs.declared.tape.Line.{Line}
use Rattle.rules.specs.declared.tape.Line.TheVariants.{Fill, Cancel, Filled, Rest, Route}
use Rattle.rules.specs.declared.tape.Step.{Step}
use Rattle.rules.specs.declared.tape.Step.TheVariants.{CustomerMarketOrders, OtherMarketOrders, CustomerLimitOrders, GuaranteedQuotes, OtherInterest}
use Rattle.rules.specs.declared.terms.Entry.{Entry}
use Rattle.rules.specs.declared.terms.Side.{Side}
use Rattle.rules.specs.Checks.{is_barred}
use Rattle.rules.specs.Guarantee.{group_amount}
use Rattle.rules.specs.Level.{size_of, in_class, in_group}
use Rattle.rules.specs.Model.{best}
use Rattle.rules.specs.Numbers.{step_number}
use Rattle.rules.specs.Prices.{national, in_reach}
use Rattle.rules.specs.Ranks.{is_customer}
use Rattle.rules.specs.Sides.{other_side, is_better}
use Rattle.rules.specs.Walk.{is_price_of}

-- the call's order, the away price and the entries in rank order on the other side as the call arrives, the rule and the tape
pub record Scene : Type 0 where
  pub side : Side
  pub firm : ℕ
  pub mark : Bool
  pub directed : Option ℕ
  pub cap : ℕ
  -- what the order brings: its size or, at a return, what was routed less what was executed away
  pub brings : ℕ
  -- the least size, which counts at the entry alone
  pub least : ℕ
  pub away : Option ℕ
  pub standing : List Entry
  pub rule : Sharing
  pub tape : List Line

module _ (sc : Scene) where
  abbrev pub is_free : Entry → Bool
  is_free e = not (is_barred sc.firm sc.mark e)

  abbrev pub within_reach : ℕ → Bool
  within_reach p = in_reach sc.side sc.cap sc.away p

  -- contracts of an entry that is within reach and not barred are eligible
  abbrev pub is_eligible : Entry → Bool
  is_eligible e = within_reach e.price && is_free e

  -- the least size is available among all that is eligible
  abbrev pub least_available : Bool
  least_available = nat_le sc.least (total (λ e. cond (is_eligible e) e.size 0) sc.standing)

  -- the order may come to a price
  abbrev pub may_come : ℕ → Bool
  may_come p = within_reach p && least_available

  -- the entries at a price that are not barred
  abbrev pub free_at : ℕ → List Entry
  free_at p = filter (λ e. (e.price == p) && is_free e) sc.standing

  -- the contracts of a fill at a better price, or at this price in an earlier step
  abbrev pub earlier : ℕ → ℕ → Line → ℕ
  earlier p k (Fill id firm size price step) = cond (is_better (other_side sc.side) price p || (price == p && nat_lt (step_number step) k)) size 0
  earlier p k (Cancel id firm size cause) = 0
  earlier p k (Filled id firm) = 0
  earlier p k (Rest id firm size price) = 0
  earlier p k (Route id firm size) = 0

  -- a step's balance: what the order brings less the call's earlier fills
  abbrev pub balance_at : ℕ → ℕ → ℕ
  balance_at p k = sc.brings - total (earlier p k) sc.tape

  -- the price is the national best on the call's arrival
  abbrev pub is_national : ℕ → Bool
  is_national p = is_price_of (national (other_side sc.side) (best sc.standing) sc.away) p

  -- the makers with a guarantee at a price: the directed firm's quotes there or, failing those, all specialist quotes
  abbrev pub is_guaranteed : ℕ → Entry → Bool
  is_guaranteed p = in_group sc.directed (free_at p)

  abbrev pub guaranteed_at : ℕ → List Entry
  guaranteed_at p = filter (is_guaranteed p) (free_at p)

  -- what they show, and what all non-customers' Limit Orders and quotes there show
  abbrev pub they_show : ℕ → ℕ
  they_show p = total size_of (guaranteed_at p)

  abbrev pub all_show : ℕ → ℕ
  all_show p = total size_of (filter (in_class 4) (free_at p))

  -- a balance reaches them at the national best price
  abbrev pub reaches_makers : ℕ → Bool
  reaches_makers p = is_national p && (nat_le 1 (balance_at p 4) && nat_le 1 (they_show p))

  -- the step in which an entry trades
  abbrev pub step_of : Entry → Step
  step_of e = cond e.market
      (cond (is_customer e.kind) CustomerMarketOrders OtherMarketOrders)
      (cond (is_customer e.kind) CustomerLimitOrders
      (cond (reaches_makers e.price && is_guaranteed e.price e) GuaranteedQuotes OtherInterest))

  -- the entries that claim in a step at a price, in rank order and so the earliest first
  abbrev pub claimants : ℕ → Step → List Entry
  claimants p k = filter (λ e. nat_eq (step_number (step_of e)) (step_number k)) (free_at p)

  -- what a shared step shares: the group's amount where the guarantee is, else the step's balance
  abbrev pub shared_amount : ℕ → Step → ℕ
  shared_amount p CustomerMarketOrders = balance_at p 1
  shared_amount p OtherMarketOrders = balance_at p 2
  shared_amount p CustomerLimitOrders = balance_at p 3
  shared_amount p GuaranteedQuotes = group_amount (balance_at p 4) (they_show p) (all_show p)
  shared_amount p OtherInterest = balance_at p 5
