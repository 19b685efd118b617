-- From price to price. Assumes nothing.
use Rattle.std.specs.Prelude.{ℕ, Bool, false, cond, not, ◌&&◌, List, [], ◌∷◌, ◌++◌, Some, None, Option, ◌==◌, nat_le}
use Rattle.sharing.specs.Sharing.{Sharing}
use Rattle.sharing.specs.Totals.{total}
use Rattle.rules.specs.declared.terms.Entry.{Entry}
use Rattle.rules.specs.declared.terms.Routed.{Routed}
use Rattle.rules.specs.Checks.{is_barred}
use Rattle.rules.specs.Level.{Deal, level}
use Rattle.rules.specs.Prices.{in_reach}

-- an entry in front of runs of one price each
abbrev pub into_runs : Entry → List (List Entry) → List (List Entry)
into_runs e [] = (e ∷ []) ∷ []
into_runs e ([] ∷ rs) = (e ∷ []) ∷ rs
into_runs e ((f ∷ fs) ∷ rs) = cond (e.price == f.price) ((e ∷ f ∷ fs) ∷ rs) ((e ∷ []) ∷ (f ∷ fs) ∷ rs)

-- entries as runs of one price each
abbrev pub runs : List Entry → List (List Entry)
runs [] = []
runs (e ∷ es) = into_runs e (runs es)

abbrev pub flat : List (List Entry) → List Entry
flat [] = []
flat (r ∷ rs) = r ++ flat rs

-- a test of the price of a run
abbrev pub at_price : (ℕ → Bool) → List Entry → Bool
at_price test [] = false
at_price test (e ∷ es) = test e.price

abbrev pub is_price_of : Option ℕ → ℕ → Bool
is_price_of None p = false
is_price_of (Some n) p = n == p

-- the order trades from the best price on while it has contracts and the price is within reach
unfoldable pub walk : Sharing → Routed → Option ℕ → Option ℕ → ℕ → List (List Entry) → Deal
walk rule o national away balance [] = record { balance = balance; run = []; lines = [] }
walk rule o national away balance (r ∷ rs) = cond (nat_le 1 balance && at_price (in_reach o.side o.cap away) r)
    (let here = level rule o (at_price (is_price_of national) r) balance r in
    let beyond = walk rule o national away here.balance rs in
    record { balance = beyond.balance; run = here.run ++ beyond.run; lines = here.lines ++ beyond.lines })
    (record { balance = balance; run = r ++ flat rs; lines = [] })

-- contracts that are not barred at prices within reach
abbrev pub available : Routed → Option ℕ → List Entry → ℕ
available o away es = total (λ e. cond (in_reach o.side o.cap away e.price && not (is_barred o.firm o.own_firm_mark e)) e.size 0) es
