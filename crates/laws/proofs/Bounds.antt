-- No entry gives more than it holds, and no line names an entry out of reach. Assumes nothing.
use Rattle.std.proofs.Common.{◌≡◌, ℕ, ◌≤◌, Bool, true, false, ◌&&◌, eqb, leb, List, [], ◌∷◌, Option, sym, refl, ap, ◌∙◌, inl, inr, ⊎_elim, arith}
use Rattle.std.proofs.ByRecursion.{All-weaker}
use Rattle.std.proofs.lemmas.Bool.{cases_Bool, eq-eqb, and_parts, and_right}
use Rattle.std.proofs.lemmas.Bool.Decides.{nat_tests}
use Rattle.sharing.specs.Sharing.{Sharing}
use Rattle.sharing.specs.Totals.{one_if, total, count}
use Rattle.sharing.specs.Allotted.{total_append}
use Rattle.sharing.specs.ToppedUp.{total_same}
use Rattle.rules.specs.declared.tape.Line.{Line}
use Rattle.rules.specs.declared.tape.Line.TheVariants.{Fill, Cancel, Filled, Rest, Route}
use Rattle.rules.specs.declared.terms.Entry.{Entry}
use Rattle.rules.specs.declared.terms.Routed.{Routed}
use Rattle.rules.specs.declared.terms.Side.{Side}
use Rattle.rules.specs.Laws.{taken_from, names}
use Rattle.rules.specs.Level.{level}
use Rattle.rules.specs.Prices.{in_reach}
use Rattle.rules.specs.Trade.{Ending, end_line}
use Rattle.rules.specs.Trade.Ending.{is_filled, is_routed, is_cancelled, rests}
use Rattle.rules.specs.Walk.{at_price, is_price_of, flat, walk}
use Rattle.rules.proofs.Chain.{walk_by}
use Rattle.rules.proofs.Leaves.{level_once}
use Rattle.laws.specs.Accounts.{got}
use Rattle.laws.specs.Priority.{Among}
use Rattle.laws.proofs.ById.{alike, counted}
use Rattle.laws.proofs.BetterFirst.{BetterFirst, run_price}
use Rattle.laws.proofs.Tapes.{Priced}

pub got_taken : (i : ℕ) (ls : List Line) → total (got i) ls ≤ total (taken_from i) ls
got_taken i [] = omega arith
got_taken i (l ∷ ls) = omega (arith, one l, got_taken i ls)
  where
    one : (l : Line) → got i l ≤ taken_from i l
    one (Fill id firm size price step) = omega arith
    one (Cancel id firm size cause) = omega arith
    one (Filled id firm) = omega arith
    one (Rest id firm size price) = omega arith
    one (Route id firm size) = omega arith

fewer : (q : Entry → Bool) (e : Entry) (es : List Entry) → count (λ f. q f && alike e f) es ≤ count (alike e) es
fewer q e [] = omega arith
fewer q e (f ∷ fs) = grind (arith, nat_tests, fewer q e fs)

-- no other entry with its id passes a test that it fails
pub alone : (q : Entry → Bool) (e : Entry) (es : List Entry) → Among e es → q e ≡ false → count (alike e) es ≤ 1 → count (λ f. q f && alike e f) es ≡ 0
alone q e [] h out unique = absurd h
alone q e (f ∷ fs) (inl same) out unique =
    let here = eq-eqb f.id e.id (ap (λ (x : Entry). x.id) (sym same)) in
    omega (arith, ap (λ b. one_if (b && alike e f)) (ap q (sym same) ∙ out), ap one_if here, fewer q e fs)
alone q e (f ∷ fs) (inr h) out unique =
    ⊎_elim
    (λ here. absurd (omega (arith, ap one_if here, counted e fs h)))
    (λ other. omega (arith, ap one_if (and_right (q f) (alike e f) other), alone q e fs h out (omega arith)))
    (cases_Bool (alike e f))

module _ (rule : Sharing) (o : Routed) (nat away : Option ℕ) (i : ℕ) where
  abbrev reached : Entry → Bool
  reached e = in_reach o.side o.cap away e.price

  -- lines name entries within reach only
  pub walk_once : (s : Side) (balance : ℕ) (rs : List (List Entry)) → BetterFirst s rs → count (names i) (walk rule o nat away balance rs).lines ≤ count (λ e. reached e && eqb e.id i) (flat rs)
  walk_once s =
      walk_by (λ _ rs d. BetterFirst s rs → count (names i) d.lines ≤ count (λ e. reached e && eqb e.id i) (flat rs)) rule o nat away (λ _ _ _. omega arith)
      (λ b r rs beyond on rest st.
      let best = at_price (is_price_of nat) r in
      let run = run_price (in_reach o.side o.cap away) s r rs st (and_parts (leb 1 b) _ on).1 in
      let all = total_same (λ e. one_if (reached e && eqb e.id i)) (λ e. one_if (eqb e.id i)) r (All-weaker (λ e. reached e ≡ true) (λ e. one_if (reached e && eqb e.id i) ≡ one_if (eqb e.id i)) (λ e able. ap (λ b. one_if (b && eqb e.id i)) able) r run.0) in
      omega (arith, total_append (λ l. one_if (names i l)) (level rule o best b r).lines beyond.lines, total_append (λ e. one_if (reached e && eqb e.id i)) r (flat rs), level_once rule o best b r i, all, rest run.1))

-- the line at the end is no fill, and names no entry
pub end_plain : (o : Routed) (balance : ℕ) (end : Ending) → Priced (λ q. ⊥) (end_line o balance end)
end_plain o balance is_filled = tt
end_plain o balance is_routed = tt
end_plain o balance (is_cancelled why) = tt
end_plain o balance rests = tt

pub end_got : (i : ℕ) (o : Routed) (balance : ℕ) (end : Ending) → got i (end_line o balance end) ≡ 0
end_got i o balance is_filled = refl
end_got i o balance is_routed = refl
end_got i o balance (is_cancelled why) = refl
end_got i o balance rests = refl

pub end_names : (i : ℕ) (o : Routed) (balance : ℕ) (end : Ending) → eqb o.id i ≡ false → names i (end_line o balance end) ≡ false
end_names i o balance is_filled out = refl
end_names i o balance is_routed out = refl
end_names i o balance (is_cancelled why) out = out
end_names i o balance rests out = refl
