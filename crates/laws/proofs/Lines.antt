-- What holds of each entry that an order meets holds of each line that its walk writes. Assumes nothing.
use Rattle.std.proofs.Common.{ℕ, Bool, not, ltb, List, [], ◌∷◌, map, filter, Option}
use Rattle.std.specs.List.{AllByRecursion}
use Rattle.std.proofs.ByRecursion.{All-weaker, All-append, all_kept_by, All-map}
use Rattle.std.proofs.lemmas.Bool.{cond_both}
use Rattle.sharing.specs.Sharing.{Sharing}
use Rattle.rules.specs.declared.tape.Line.{Line}
use Rattle.rules.specs.declared.tape.Line.TheVariants.{Fill}
use Rattle.rules.specs.declared.tape.Step.{Step}
use Rattle.rules.specs.declared.terms.Entry.{Entry}
use Rattle.rules.specs.declared.terms.Routed.{Routed}
use Rattle.rules.specs.Checks.{is_barred}
use Rattle.rules.specs.Level.{claim_of, spread, resized, fills, Deal, step, barred_line, unbarred, level}
use Rattle.rules.specs.Walk.{at_price, is_price_of, flat, walk}
use Rattle.rules.proofs.Chain.{level_by, walk_by}
use Rattle.rules.proofs.Held.{all_left}
use Rattle.laws.proofs.Lists.{all_split}

module _ (E : Entry → Type 0) (steady : (n : ℕ) (e : Entry) → E e → E (resized n e)) (Q : Line → Type 0)
    (fill : (e : Entry) (n : ℕ) (k : Step) → E e → Q (Fill e.id e.firm n e.price k)) (barred : (e : Entry) → E e → Q (barred_line e)) where
  fills_all : (k : Step) (ns : List ℕ) (es : List Entry) → AllByRecursion E es → AllByRecursion Q (fills k ns es)
  fills_all k [] es ps = tt
  fills_all k (n ∷ ns) [] ps = tt
  fills_all k (n ∷ ns) (e ∷ es) ps =
      cond_both (ltb 0 n) _ _ (AllByRecursion Q)
      (λ _. (fill e n k ps.0, fills_all k ns es ps.1))
      (λ _. fills_all k ns es ps.1)

  -- of the entries that a deal leaves, and of its lines
  abbrev Both : Deal → Type 0
  Both d = AllByRecursion E d.run × AllByRecursion Q d.lines

  step_both : (k : Step) (test : Entry → Bool) (rule : Sharing) (amount : ℕ) (d : Deal) → Both d → Both (step k test rule amount d)
  unfolding step
  step_both k test rule amount d ps =
      let ns = spread test (rule.allotments amount (map claim_of (filter test d.run))) d.run in
      (all_left E steady ns d.run ps.0, All-append Q d.lines (fills k ns d.run) ps.1 (fills_all k ns d.run ps.0))

  level_both : (rule : Sharing) (o : Routed) (at_best : Bool) (balance : ℕ) (run : List Entry) → AllByRecursion E run → Both (level rule o at_best balance run)
  unfolding unbarred
  level_both rule o at_best balance run ps =
      let out : Entry → Bool = is_barred o.firm o.own_firm_mark in
      level_by Both step_both rule o at_best balance run
      (all_kept_by (λ e. not (out e)) E run ps, All-map Q barred_line (filter out run) (All-weaker E (λ e. Q (barred_line e)) barred (filter out run) (all_kept_by out E run ps)))

  pub level_all : (rule : Sharing) (o : Routed) (at_best : Bool) (balance : ℕ) (run : List Entry) → AllByRecursion E run → AllByRecursion Q (level rule o at_best balance run).lines
  level_all rule o at_best balance run ps = (level_both rule o at_best balance run ps).1

  pub walk_all : (rule : Sharing) (o : Routed) (national away : Option ℕ) (balance : ℕ) (rs : List (List Entry)) → AllByRecursion E (flat rs) → AllByRecursion Q (walk rule o national away balance rs).lines
  walk_all rule o national away =
      walk_by (λ _ rs d. AllByRecursion E (flat rs) → AllByRecursion Q d.lines) rule o national away (λ _ _ _. tt)
      (λ b r rs beyond _ rest ps.
      let at_best = at_price (is_price_of national) r in
      let parts = all_split E r (flat rs) ps in
      All-append Q (level rule o at_best b r).lines beyond.lines (level_all rule o at_best b r parts.0) (rest parts.1))
