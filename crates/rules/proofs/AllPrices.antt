-- From price to price: nothing is lost and nothing is made. Assumes nothing.
use Rattle.std.proofs.Common.{◌≡◌, ℕ, ◌+◌, ◌≤◌, cond, eqb, List, [], ◌++◌, Option, arith}
use Rattle.std.specs.List.{AllByRecursion}
use Rattle.std.proofs.ByRecursion.{All-weaker}
use Rattle.sharing.specs.Sharing.{Sharing, Lawful}
use Rattle.sharing.specs.Totals.{one_if, total, count}
use Rattle.sharing.specs.Allotted.{total_append}
use Rattle.rules.specs.declared.terms.Entry.{Entry}
use Rattle.rules.specs.declared.terms.Routed.{Routed}
use Rattle.rules.specs.Laws.{traded_in, taken_from, holding, Tradable, names, LeftOf, AllPrices}
use Rattle.rules.specs.Level.{Deal, level}
use Rattle.rules.specs.Walk.{at_price, is_price_of, flat, walk}
use Rattle.rules.proofs.Chain.{walk_by}
use Rattle.rules.proofs.Leaves.{left_refl, left_append, level_once, level_leaves}
use Rattle.rules.proofs.OnePrice.{one_price}

-- a smaller balance can trade where a larger one can
pub smaller : (a b : ℕ) → a ≤ b → (run : List Entry) → Tradable b run → Tradable a run
smaller a b le run ok = record { few = ok.few; small = omega (arith, ok.small); sized = ok.sized; timed = ok.timed }

pub all_smaller : (a b : ℕ) → a ≤ b → (rs : List (List Entry)) → AllByRecursion (Tradable b) rs → AllByRecursion (Tradable a) rs
all_smaller a b le rs ok = All-weaker (Tradable b) (Tradable a) (smaller a b le) rs ok

-- what a deal did to a balance and to entries
record Fair (balance : ℕ) (es : List Entry) (d : Deal) : Type 0 where
  pub pays : d.balance + total traded_in d.lines ≡ balance
  pub accounts : (i : ℕ) → holding i d.run + total (taken_from i) d.lines ≡ holding i es
  pub once : (i : ℕ) → count (names i) d.lines ≤ count (λ e. eqb e.id i) es
  pub leaves : LeftOf es d.run

stays : (balance : ℕ) (es : List Entry) → Fair balance es (record { balance = balance; run = es; lines = [] })
stays balance es = record { pays = omega arith; accounts = λ i. omega arith; once = λ i. omega arith; leaves = left_refl es }

joined : (balance : ℕ) (r es : List Entry) (here beyond : Deal) → Fair balance r here → Fair here.balance es beyond → Fair balance (r ++ es) (record { balance = beyond.balance; run = here.run ++ beyond.run; lines = here.lines ++ beyond.lines })
joined balance r es here beyond one rest = record {
  pays = omega (arith, total_append traded_in here.lines beyond.lines, one.pays, rest.pays);
  accounts = λ i.
      let size : Entry → ℕ = λ e. cond (eqb e.id i) e.size 0 in
      omega (arith, total_append size r es, total_append size here.run beyond.run, total_append (taken_from i) here.lines beyond.lines, one.accounts i, rest.accounts i);
  once = λ i. omega (arith, total_append (λ l. one_if (names i l)) here.lines beyond.lines, total_append (λ e. one_if (eqb e.id i)) r es, one.once i, rest.once i);
  leaves = left_append one.leaves rest.leaves;
}

fair : (rule : Sharing) → Lawful rule → (o : Routed) (national away : Option ℕ) (balance : ℕ) (rs : List (List Entry)) → AllByRecursion (Tradable balance) rs → Fair balance (flat rs) (walk rule o national away balance rs)
fair rule lawful o national away =
    walk_by (λ balance rs d. AllByRecursion (Tradable balance) rs → Fair balance (flat rs) d) rule o national away
    (λ balance rs ok. stays balance (flat rs))
    (λ balance r rs beyond _ rest ok.
    let best = at_price (is_price_of national) r in
    let here = level rule o best balance r in
    let one = one_price rule lawful o best balance r ok.0 in
    joined balance r (flat rs) here beyond
    (record { pays = one.pays; accounts = one.accounts; once = level_once rule o best balance r; leaves = level_leaves rule o best balance r })
    (rest (all_smaller here.balance balance (omega (arith, one.pays)) rs ok.1)))

pub all_prices : AllPrices
all_prices rule lawful o national away balance rs ok =
    let f = fair rule lawful o national away balance rs ok in
    record { pays = f.pays; accounts = f.accounts; once = f.once; leaves = f.leaves }
