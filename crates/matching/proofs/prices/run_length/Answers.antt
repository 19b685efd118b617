use Rattle.std.proofs.Common.{◌≡◌, eqb, get_or, take, drop, ◌∷◌, sym, ◌∙◌, rules}
use borrow.Author.Tests.{tests}
use Rattle.std.proofs.lemmas.Iterator.{YieldsList-from_slice}
use Rattle.std.proofs.lemmas.Iterator.Consumers.{YieldsList-at, count_from_yields_List}
use Rattle.std.proofs.lemmas.Iterator.Search.{YieldsList-from_take_while}
use Rattle.std.proofs.lemmas.List.Folds.{length-prefix_len}
use Rattle.rules.specs.Walk.{runs}
use Rattle.rules.proofs.Defaults.{no_entry}
use Rattle.matching.proofs.Runs.{level, first_run}
use Rattle.matching.proofs.prices.run_length.Goals as goal

pub returns-clause-run : goal.returns-clause-run
returns-clause-run c =
    let es = c.args.entries.now in
    let p = (get_or es 0 no_entry).price in
    let counted : c.count.result ≡ level p es =
    count_from_yields_List c.take_while.result c.count.result c.count.ensures.ran
    (YieldsList-from_take_while _ (λ e. eqb e.price p) (YieldsList-at c.take_while.ensures.source (YieldsList-from_slice es cc)) c.take_while.ensures.closure c.take_while.ensures.done (λ x b q k. search (rules, tests)))
    ∙ length-prefix_len (λ e. eqb e.price p) es in
    first_run es c.requires ∙ (λ t. take (sym counted t) es ∷ runs (drop (sym counted t) es))
