use Rattle.std.proofs.Common.{filter, ◌∙◌, rules}
use borrow.Author.Tests.{tests}
use Rattle.std.proofs.lemmas.Iterator.{YieldsList-from_slice, YieldsList-from_map}
use Rattle.std.proofs.lemmas.Iterator.Consumers.{YieldsList-at, YieldsList-from_filter, sum_by_from_yields_List, fits_by_from_yields_list}
use Rattle.rules.specs.Level.{size_of}
use Rattle.matching.proofs.Shown.{reachable, available_is, available_fits}
use Rattle.matching.proofs.prices.available.Goals as goal

-- Stays written in both answers, what the chain yields: a lemma above them was tried; its type has to name the chain's own steps,
-- and they were not determined.
pub sum-requires-clause-fits : goal.sum-requires-clause-fits
sum-requires-clause-fits c =
    fits_by_from_yields_list size_of (filter (reachable c.args.order.now c.args.away) c.args.entries.now) c.map.result _
    (YieldsList-from_map _ size_of (YieldsList-at c.map.ensures.source (YieldsList-from_filter _ (reachable c.args.order.now c.args.away) (YieldsList-at c.filter.ensures.source (YieldsList-from_slice c.args.entries.now cc)) c.filter.ensures.closure (λ x b q k. search (rules, tests)))) c.map.ensures.closure (λ x r q k. search rules))
    (available_fits c.args.order.now c.args.away c.args.entries.now c.requires)

pub returns : goal.returns
returns c =
    sum_by_from_yields_List size_of (filter (reachable c.args.order.now c.args.away) c.args.entries.now) c.map.result _ c.sum.ensures.ran
    (YieldsList-from_map _ size_of (YieldsList-at c.map.ensures.source (YieldsList-from_filter _ (reachable c.args.order.now c.args.away) (YieldsList-at c.filter.ensures.source (YieldsList-from_slice c.args.entries.now cc)) c.filter.ensures.closure (λ x b q k. search (rules, tests)))) c.map.ensures.closure (λ x r q k. search rules))
    ∙ available_is c.args.order.now c.args.away c.args.entries.now
