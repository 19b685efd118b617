-- How many lines an order writes that trades. Assumes nothing.
use Rattle.std.proofs.Common.{ℕ, ◌≤◌, List, length, Option, ap, arith, length-append}
use Rattle.sharing.specs.Sharing.{Sharing}
use Rattle.rules.specs.declared.terms.Entry.{Entry}
use Rattle.rules.specs.declared.terms.Routed.{Routed}
use Rattle.rules.specs.Level.{level}
use Rattle.rules.specs.Model.{Model, entries, away, national_best}
use Rattle.rules.specs.Sides.{other_side}
use Rattle.rules.specs.Trade.{traded}
use Rattle.rules.specs.Walk.{runs, flat, at_price, is_price_of, walk}
use Rattle.rules.proofs.Chain.{walk_by}
use Rattle.rules.proofs.Leaves.{level_short, runs_are_whole}

-- no more lines than entries
walk_short : (rule : Sharing) (o : Routed) (near far : Option ℕ) (balance : ℕ) (rs : List (List Entry)) → length (walk rule o near far balance rs).lines ≤ length (flat rs)
walk_short rule o near far =
    walk_by (λ _ rs d. length d.lines ≤ length (flat rs)) rule o near far
    (λ balance rs. omega arith)
    (λ balance r rs beyond _ rest.
    let here = level rule o (at_price (is_price_of near) r) balance r in
    omega (arith, length-append here.lines beyond.lines, length-append r (flat rs), level_short rule o (at_price (is_price_of near) r) balance r))

pub traded_short : (rule : Sharing) (o : Routed) (m : Model) → length (traded rule o m).lines ≤ length (entries (other_side o.side) m)
unfolding traded
traded_short rule o m =
    let contra = other_side o.side in
    omega (arith, walk_short rule o (national_best contra m) (away contra m) o.size (runs (entries contra m)), ap length (runs_are_whole (entries contra m)))
