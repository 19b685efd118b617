-- A return: what it comes to, and the book that its row has left. Assumes nothing.
use Rattle.std.proofs.Common.{◌≡◌, ℕ, ◌-◌, ◌≤◌, false, not, eqb, [], get_or, Some, None, Ok, sym, ap, ◌∙◌, subst, arith}
use Rattle.std.specs.List.{remove, AllByRecursion}
use Rattle.std.proofs.lemmas.Bool.{not_from_true, eq-eqb, le-ltb}
use Rattle.sharing.specs.Sharing.{Sharing}
use Rattle.rules.specs.declared.numbers.Refusal.TheVariants.{NotOutHere}
use Rattle.rules.specs.declared.terms.Routed.{Routed}
use Rattle.rules.specs.Calls.{Returning, without_row, return_checks, returned, return_of}
use Rattle.rules.specs.Model.{Model, with_out}
use Rattle.rules.specs.Outcome.{lent_checks, row_with}
use Rattle.rules.specs.Outcome.Outcome.{refused, done}
use Rattle.rules.specs.Sound.{Sound}
use Rattle.rules.specs.Trade.{sized, trade}
use Rattle.rules.proofs.CallsKeep.{found_id}
use Rattle.rules.proofs.Moves.{given_back}
use Rattle.book.specs.Returns.{Comes}
use Rattle.book.proofs.Entered.{none_fits}
use Rattle.book.proofs.Finding.{removed_others}
use Rattle.rules.proofs.Defaults.{no_row}

-- no check refuses a return
pub all_pass : (c : Returning) (m : Model) → AllByRecursion (λ x. x.0 ≡ false) (lent_checks c.tape c.sheet m []) → (r : Routed) → c.series ≡ m.opening.series → c.executed ≤ r.size → AllByRecursion (λ x. x.0 ≡ false) (return_checks c m r)
all_pass c m fits r same few = (fits.0, (fits.1.0, (not_from_true (eqb c.series m.opening.series) (eq-eqb c.series m.opening.series same), (le-ltb r.size c.executed few, tt))))

-- what a return comes to
module _ (rule : Sharing) (c : Returning) (m : Model) where
  pub none_out : AllByRecursion (λ x. x.0 ≡ false) (lent_checks c.tape c.sheet m []) → row_with c.id m.out ≡ None → return_of rule c m ≡ refused NotOutHere
  unfolding return_of
  none_out fits none = ap (returned rule c m) none ∙ none_fits (lent_checks c.tape c.sheet m []) (refused NotOutHere) fits

  pub comes_back : (r : Routed) → row_with c.id m.out ≡ Some r → AllByRecursion (λ x. x.0 ≡ false) (return_checks c m r) → return_of rule c m ≡ done (trade rule (sized (r.size - c.executed) r) false (with_out (without_row c.id m.out) m))
  unfolding return_of
  comes_back r found all = ap (returned rule c m) found ∙ none_fits (return_checks c m r) (done (trade rule (sized (r.size - c.executed) r) false (with_out (without_row c.id m.out) m))) all

-- the row that comes back
module _ (c : Returning) (m : Model) (k : ℕ) (comes : Comes c m (Ok k)) where
  abbrev pub the_row : Routed
  the_row = get_or m.out k no_row

  pub row_found : row_with c.id m.out ≡ Some the_row
  row_found = (comes.1 no_row).0

  pub row_is : the_row.id ≡ c.id
  row_is = found_id (λ (r : Routed). r.id) c.id m.out the_row row_found

-- the book that its row has left
module _ (c : Returning) (m : Model) (k : ℕ) (sound : Sound m) (comes : Comes c m (Ok k)) where
  row_gone : with_out (remove m.out k) m ≡ with_out (without_row c.id m.out) m
  row_gone = ap (λ rows. with_out rows m) (removed_others (λ (r : Routed). r.id) c.id m.out k no_row comes.0 (row_is c m k comes) (omega (arith, sound.unique c.id)))

  pub gone_sound : Sound (with_out (remove m.out k) m)
  gone_sound = subst Sound (sym row_gone) (given_back (λ r. not (eqb r.id c.id)) m sound)

  -- what comes back trades, in the book without its row
  pub back_done : (rule : Sharing) (row : Routed) (left : Model) → row ≡ the_row c m k comes → left ≡ with_out (remove m.out k) m → return_of rule c m ≡ done (trade rule (sized (row.size - c.executed) row) false left)
  back_done rule row left same without =
      comes_back rule c m (the_row c m k comes) (row_found c m k comes) (comes.1 no_row).1
      ∙ (λ t. done (trade rule (sized ((sym same t).size - c.executed) (sym same t)) false (sym (without ∙ row_gone) t)))
