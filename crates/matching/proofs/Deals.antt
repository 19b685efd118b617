-- Steps at a price, one after another, as they stand in the places of a run and on a tape. Assumes nothing.
use Rattle.std.proofs.Common.{◌≡◌, ℕ, ◌+◌, ◌≤◌, Bool, List, [], ◌∷◌, ◌++◌, length, Option, sym, refl, ap, ◌∙◌, subst, arith, length-append}
use Rattle.std.proofs.lemmas.Bool.Decides.{nat_tests}
use Rattle.std.proofs.lemmas.List.{append_assoc}
use Rattle.rules.specs.declared.tape.Line.{Line}
use Rattle.sharing.specs.Sharing.{Sharing}
use Rattle.rules.specs.declared.tape.Step.{Step}
use Rattle.rules.specs.declared.terms.Entry.{Entry}
use Rattle.rules.specs.Laws.{Tradable}
use Rattle.rules.specs.Level.{Deal, step, makers, step_all}
use Rattle.matching.specs.declared.lent.Lent.{Lent}
use Rattle.matching.specs.Deals.{bare, Asks, Dealt}
use Rattle.matching.specs.Parts.{live}
use Rattle.matching.specs.Tapes.{Room}
use Rattle.matching.proofs.Written.{length_after, writes_twice}

-- what is done to a deal does not look at the lines so far, and adds to them
pub record Adds (F : Deal → Deal) : Type 0 where
  pub run : (d : Deal) → (F d).run ≡ (F (bare d.balance d.run)).run
  pub balance : (d : Deal) → (F d).balance ≡ (F (bare d.balance d.run)).balance
  pub lines : (d : Deal) → (F d).lines ≡ d.lines ++ (F (bare d.balance d.run)).lines

pub step_all_adds : (k : Step) (test : Entry → Bool) (rule : Sharing) → Adds (step_all k test rule)
unfolding step
step_all_adds k test rule = record { run = λ d. refl; balance = λ d. refl; lines = λ d. refl }

pub step_adds : (k : Step) (test : Entry → Bool) (rule : Sharing) (amount : ℕ) → Adds (step k test rule amount)
unfolding step
step_adds k test rule amount = record { run = λ d. refl; balance = λ d. refl; lines = λ d. refl }

pub makers_adds : (rule : Sharing) (at_best : Bool) (directed : Option ℕ) → Adds (makers rule at_best directed)
unfolding makers step
makers_adds rule at_best directed = record {
  run = λ d. grind (arith, nat_tests);
  balance = λ d. grind (arith, nat_tests);
  lines = λ d. grind (arith, nat_tests, append_assoc {A = Line});
}

-- lines are only added
pub adds_longer : (F : Deal → Deal) → Adds F → (d : Deal) → length d.lines ≤ length (F d).lines
adds_longer F adds d = omega (arith, ap length (adds.lines d), length-append d.lines (F (bare d.balance d.run)).lines)

-- the steps of a list are done to a deal, one after another
abbrev pub in_turn : List (Deal → Deal) → Deal → Deal
in_turn [] d = d
in_turn (F ∷ Fs) d = in_turn Fs (F d)

-- each of them adds to its deal, where what is there may trade
abbrev pub Steps : List (Deal → Deal) → Deal → Type 0
Steps [] d = Unit {0}
Steps (F ∷ Fs) d = (Adds F × Tradable d.balance d.run) × Steps Fs (F d)

steps_longer : (Fs : List (Deal → Deal)) (d : Deal) → Steps Fs d → length d.lines ≤ length (in_turn Fs d).lines
steps_longer [] d steps = omega arith
steps_longer (F ∷ Fs) d steps = omega (arith, adds_longer F steps.0.0 d, steps_longer Fs (F d) steps.1)

-- a deal where it stands, after some steps and before others, with room for the lines of all
pub record Stands (Fs : List (Deal → Deal)) (run0 : List Entry) (lent0 : Lent) (d : Deal) (run : List Entry) (lent : Lent) (b : ℕ) : Type 0 where
  pub steps : Steps Fs d
  pub room : Room (length run0) (length (in_turn Fs d).lines) lent0
  pub dealt : Dealt d run0 run lent0 lent b

module _ {F : Deal → Deal} {Fs : List (Deal → Deal)} {d : Deal} {run0 run1 : List Entry} {lent0 lent1 : Lent} {b1 : ℕ} (here : Stands (F ∷ Fs) run0 lent0 d run1 lent1 b1) where
  bare_is : bare b1 (live run1) ≡ bare d.balance d.run
  bare_is = λ t. bare (here.dealt.left t) (here.dealt.entries t)

  lines_is : (F d).lines ≡ d.lines ++ (F (bare b1 (live run1))).lines
  lines_is = here.steps.0.0.lines d ∙ ap (λ x. d.lines ++ (F x).lines) (sym bare_is)

  long : length (F d).lines ≡ length d.lines + length (F (bare b1 (live run1))).lines
  long = ap length lines_is ∙ length-append d.lines (F (bare b1 (live run1))).lines

  fits : lent0.lines + length (F d).lines ≤ length lent0.tape.now
  fits = omega (arith, steps_longer Fs (F d) here.steps.1, here.room.tape)

  -- what the next step asks
  pub asks : Asks F run1 lent1 b1
  asks =
      let first = here.dealt in
      record {
        tradable = subst (λ (x : Deal). Tradable x.balance x.run) (sym bare_is) here.steps.0.1;
        room = record {
          sheet = omega (arith, first.places, first.writes.sheet, here.room.sheet);
          tape = omega (arith, long, fits, first.writes.lines, length_after first.writes (omega (arith, long, fits)));
        };
      }

  -- where the deal stands after it
  pub next : {run2 : List Entry} {lent2 : Lent} {b2 : ℕ} → Dealt (F (bare b1 (live run1))) run1 run2 lent1 lent2 b2 → Stands Fs run0 lent0 (F d) run2 lent2 b2
  next {run2} {lent2} {b2} second =
      let first = here.dealt in
      record {
        steps = here.steps.1;
        room = here.room;
        dealt = record {
          left = second.left ∙ ap (λ x. (F x).balance) bare_is ∙ sym (here.steps.0.0.balance d);
          entries = second.entries ∙ ap (λ x. (F x).run) bare_is ∙ sym (here.steps.0.0.run d);
          places = second.places ∙ first.places;
          writes = rw lines_is (writes_twice first.writes second.writes (omega (arith, ap length lines_is, fits)));
        };
      }
