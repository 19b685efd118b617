-- The makers' guarantee, and floors. Assumes nothing.
use Rattle.std.specs.Prelude.{◌≡◌, ℕ, ◌≤◌, min, Bool, true, false, map}
use Rattle.std.specs.List.{AllZip, AllByRecursion}
use Rattle.sharing.specs.Totals.{total, count}
use Rattle.rules.specs.declared.tape.Step.{Step}
use Rattle.rules.specs.declared.tape.Step.TheVariants.{CustomerMarketOrders, OtherMarketOrders, CustomerLimitOrders, GuaranteedQuotes, OtherInterest}
use Rattle.rules.specs.declared.terms.Entry.{Entry}
use Rattle.rules.specs.Guarantee.{guaranteed}
use Rattle.rules.specs.Laws.{names}
use Rattle.rules.specs.Level.{claim_of}
use Rattle.laws.specs.Accounts.{got}
use Rattle.laws.specs.Scenes.{Scene, may_come, balance_at, they_show, guaranteed_at, reaches_makers, claimants, shared_amount}

-- what an entry gets in the call
abbrev pub gets : Scene → Entry → ℕ
gets sc e = total (got e.id) sc.tape

-- steps 2, 4 and 5 are shared by the venue's rule
abbrev pub is_shared : Step → Bool
is_shared CustomerMarketOrders = false
is_shared OtherMarketOrders = true
is_shared CustomerLimitOrders = false
is_shared GuaranteedQuotes = true
is_shared OtherInterest = true

-- at a price to which the order may come
pub record Served (sc : Scene) (p : ℕ) : Type 0 where
  -- guaranteed makers that a balance reaches together get two fifths of it, rounded down but one at least, or all that they show
  pub guarantee : reaches_makers sc p ≡ true → min (they_show sc p) (guaranteed (balance_at sc p 4)) ≤ total (gets sc) (guaranteed_at sc p)
  -- in a shared step each entry gets at least its floor
  pub floors : (k : Step) → is_shared k ≡ true → AllZip ◌≤◌ (sc.rule.floors (shared_amount sc p k) (map claim_of (claimants sc p k))) (map (gets sc) (claimants sc p k))

pub record GuaranteeAndFloors (sc : Scene) : Type 0 where
  pub served : AllByRecursion (λ e. may_come sc e.price ≡ true → Served sc e.price) sc.standing
  -- no entry gets more than it holds
  pub within : AllByRecursion (λ e. gets sc e ≤ e.size) sc.standing
  -- no line names an entry at a price to which the order may not come: out of reach, or its least size is not available
  pub apart : AllByRecursion (λ e. may_come sc e.price ≡ false → count (names e.id) sc.tape ≡ 0) sc.standing
