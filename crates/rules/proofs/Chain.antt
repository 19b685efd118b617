-- The five steps at one price and the walk from price to price, one after another, and what each of them keeps. Assumes nothing.
use Rattle.std.proofs.Common.{◌≡◌, ℕ, Bool, true, false, not, ◌&&◌, leb, List, [], ◌∷◌, ◌++◌, Option, refl}
use Rattle.std.proofs.lemmas.Bool.{cond_both}
use Rattle.sharing.specs.Rules.{by_time}
use Rattle.sharing.specs.Sharing.{Sharing}
use Rattle.rules.specs.declared.tape.Step.{Step}
use Rattle.rules.specs.declared.tape.Step.TheVariants.{CustomerMarketOrders, OtherMarketOrders, CustomerLimitOrders, GuaranteedQuotes, OtherInterest}
use Rattle.rules.specs.declared.terms.Entry.{Entry}
use Rattle.rules.specs.declared.terms.Routed.{Routed}
use Rattle.rules.specs.Level.{Deal, step, step_all, in_class, in_group, acts, for_group, makers, unbarred, level}
use Rattle.rules.specs.Prices.{in_reach}
use Rattle.rules.specs.Walk.{at_price, is_price_of, flat, walk}

-- steps 1, 2 and 3
abbrev pub step_1 : Deal → Deal
step_1 = step_all CustomerMarketOrders (in_class 1) by_time

abbrev pub step_2 : Sharing → Deal → Deal
step_2 rule = step_all OtherMarketOrders (in_class 2) rule

abbrev pub step_3 : Deal → Deal
step_3 = step_all CustomerLimitOrders (in_class 3) by_time

-- the makers beside a group
abbrev pub beside : (Entry → Bool) → Entry → Bool
beside group e = in_class 4 e && not (group e)

-- where an order stands when the barred entries are gone, and after steps 1, 2 and 3
module _ (rule : Sharing) (o : Routed) (balance : ℕ) (run : List Entry) where
  abbrev pub deal_0 : Deal
  deal_0 = unbarred o balance run

  abbrev pub deal_1 : Deal
  deal_1 = step_1 deal_0

  abbrev pub deal_2 : Deal
  deal_2 = step_2 rule deal_1

  abbrev pub deal_3 : Deal
  deal_3 = step_3 deal_2

  pub level_is : (at_best : Bool) → level rule o at_best balance run ≡ makers rule at_best o.directed deal_3
  unfolding level
  level_is at_best = refl

-- steps 4 and 5: the group and then the others where the guarantee acts, else the whole class at once
pub makers_by : (P : Deal → Type 0) (rule : Sharing) (at_best : Bool) (directed : Option ℕ) (d : Deal)
    → (acts at_best directed d ≡ true → let fourth = step GuaranteedQuotes (in_group directed d.run) rule (for_group directed d) d in P (step OtherInterest (beside (in_group directed d.run)) rule fourth.balance fourth))
    → (acts at_best directed d ≡ false → P (step OtherInterest (in_class 4) rule d.balance d))
    → P (makers rule at_best directed d)
unfolding makers
makers_by P rule at_best directed d = cond_both (acts at_best directed d) _ _ P

-- what every step keeps holds after all five
pub level_by : (P : Deal → Type 0) → ((k : Step) (test : Entry → Bool) (rule : Sharing) (amount : ℕ) (d : Deal) → P d → P (step k test rule amount d))
    → (rule : Sharing) (o : Routed) (at_best : Bool) (balance : ℕ) (run : List Entry) → P (unbarred o balance run) → P (level rule o at_best balance run)
unfolding level
level_by P keeps rule o at_best balance run begins =
    let third = keeps _ _ _ _ _ (keeps _ _ _ _ _ (keeps _ _ _ _ _ begins)) in
    makers_by P rule at_best o.directed (deal_3 rule o balance run) (λ _. keeps _ _ _ _ _ (keeps _ _ _ _ _ third)) (λ _. keeps _ _ _ _ _ third)

-- what holds where the order stops, and at a price where it holds of those behind it, holds of the walk
pub walk_by : (P : ℕ → List (List Entry) → Deal → Type 0) (rule : Sharing) (o : Routed) (national away : Option ℕ)
    → ((balance : ℕ) (rs : List (List Entry)) → P balance rs (record { balance = balance; run = flat rs; lines = [] }))
    → ((balance : ℕ) (r : List Entry) (rs : List (List Entry)) (beyond : Deal) → (leb 1 balance && at_price (in_reach o.side o.cap away) r) ≡ true
    → let here = level rule o (at_price (is_price_of national) r) balance r in
    P here.balance rs beyond → P balance (r ∷ rs) (record { balance = beyond.balance; run = here.run ++ beyond.run; lines = here.lines ++ beyond.lines }))
    → (balance : ℕ) (rs : List (List Entry)) → P balance rs (walk rule o national away balance rs)
unfolding walk
walk_by P rule o national away stops goes balance [] = stops balance []
walk_by P rule o national away stops goes balance (r ∷ rs) =
    let here = level rule o (at_price (is_price_of national) r) balance r in
    cond_both (leb 1 balance && at_price (in_reach o.side o.cap away) r) _ _ (P balance (r ∷ rs))
    (λ on. goes balance r rs _ on (walk_by P rule o national away stops goes here.balance rs))
    (λ _. stops balance (r ∷ rs))
