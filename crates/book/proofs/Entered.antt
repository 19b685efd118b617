-- The first check that fits refuses an entry; where none does it is carried out. Assumes nothing.
use Rattle.std.proofs.Common.{◌≡◌, ℕ, Bool, true, false, cond, not, ◌&&◌, ◌||◌, List, [], ◌∷◌, is_some, Some, None, Ok, Err, Option, sym, refl, ap, ◌∙◌, subst, arith}
use Rattle.std.specs.Option.{ok_or}
use Rattle.std.specs.List.{AllByRecursion}
use Rattle.std.proofs.lemmas.Bool.Decides.{nat_tests}
use Rattle.std.proofs.lemmas.Bool.{false≢true, cond-false, or_parts}
use Rattle.sharing.specs.Sharing.{Sharing}
use Rattle.rules.specs.declared.numbers.Refusal.{Refusal}
use Rattle.rules.specs.declared.numbers.Refusal.TheVariants.{NoReference}
use Rattle.rules.specs.declared.terms.Order.{Order}
use Rattle.rules.specs.Calls.{Entering, reference, entry_checks, entry_of}
use Rattle.rules.specs.Caps.{is_quote, is_ioc, cap_at, cap_of}
use Rattle.rules.specs.Checks.{unpriced, market_ioc, bad_least, bad_quote, terms_clash}
use Rattle.rules.specs.Model.{Model}
use Rattle.rules.specs.Outcome.{Outcome, Check, checked}
use Rattle.rules.specs.Outcome.Outcome.{refused, done}
use Rattle.matching.specs.Tapes.{Writes}
use Rattle.matching.specs.declared.lent.Lent.{Lent}
use Rattle.book.specs.Answers.{Settles}
use Rattle.book.specs.Entries.{carried, Admits, Tapes}
use Rattle.book.specs.Refusals.{first_refusal}

-- a call is refused by the first check that fits, or by none
pub first_some : (cs : List Check) (o : Outcome) (why : Refusal) → first_refusal cs ≡ Some why → checked cs o ≡ refused why
first_some [] o why is = absurd (false≢true (ap is_some is))
first_some (c ∷ cs) o why is = grind (arith, nat_tests, first_some cs o why)

pub none_fits : (cs : List Check) (o : Outcome) → AllByRecursion (λ c. c.0 ≡ false) cs → checked cs o ≡ o
none_fits [] o all = refl
none_fits (c ∷ cs) o all = cond-false c.0 (refused c.1) (checked cs o) all.0 ∙ none_fits cs o all.1

pub entry_refused : (rule : Sharing) (c : Entering) (m : Model) (why : Refusal) → first_refusal (entry_checks c m) ≡ Some why → entry_of rule c m ≡ refused why
unfolding entry_of
entry_refused rule c m why is = first_some (entry_checks c m) (done (carried rule c.order m)) why is

-- where terms do not clash, it is a Market Order without a reference that has no cap
no_cap : (o : Order) (tick : ℕ) (r : Option ℕ) → terms_clash o ≡ false → not (is_some (cap_of o tick r)) ≡ (unpriced o && not (is_some r))
no_cap o tick r clash = go (is_ioc o.term) (is_quote o.kind) o.price r (or_parts (market_ioc o) (bad_least o || bad_quote o) clash).0 (or_parts (bad_least o) (bad_quote o) (or_parts (market_ioc o) (bad_least o || bad_quote o) clash).1).1
  where
    go : (ioc quote : Bool) (price r : Option ℕ) → (not (is_some price) && ioc) ≡ false → (quote && (ioc || (not (is_some price) || (is_some o.directed || o.may_route)))) ≡ false
        → not (is_some (cond (ioc || quote) price (cap_at o.side tick price r))) ≡ (not (is_some price) && not (is_some r))
    go ioc quote price r market bad = grind (arith, nat_tests)

-- so the last check of an entry is whether the order has a cap
pub admitted : (c : Entering) (m : Model) (cap : Option ℕ) → cap ≡ cap_of c.order m.opening.tick (reference c.order m) → terms_clash c.order ≡ false
    → ((unpriced c.order && not (is_some (reference c.order m))) ≡ false → AllByRecursion (λ k. k.0 ≡ false) (entry_checks c m))
    → ((unpriced c.order && not (is_some (reference c.order m))) ≡ true → first_refusal (entry_checks c m) ≡ Some NoReference)
    → Admits c m (ok_or cap NoReference)
admitted c m None is clash passes fits = fits (sym (no_cap c.order m.opening.tick (reference c.order m) clash) ∙ ap (λ o. not (is_some o)) (sym is))
admitted c m (Some cap) is clash passes fits = (passes (sym (no_cap c.order m.opening.tick (reference c.order m) clash) ∙ ap (λ o. not (is_some o)) (sym is)), sym is)

-- a refused entry settles as refused, and leaves what was lent
pub refused_settles : (rule : Sharing) (c : Entering) (m : Model) (why : Refusal) → first_refusal (entry_checks c m) ≡ Some why → Settles {A = Option ℕ} (entry_of rule c m) m (Err why) m (λ d routed. routed ≡ d.ticket)
refused_settles rule c m why is = subst (λ o. Settles {A = Option ℕ} o m (Err why) m (λ d routed. routed ≡ d.ticket)) (sym (entry_refused rule c m why is)) (refl, refl)

pub refused_tapes : (rule : Sharing) (c : Entering) (m : Model) (l : Lent) → is_some (first_refusal (entry_checks c m)) ≡ true → Tapes (entry_of rule c m) l l
refused_tapes rule c m l = go (first_refusal (entry_checks c m)) refl
  where
    go : (o : Option Refusal) → first_refusal (entry_checks c m) ≡ o → is_some o ≡ true → Tapes (entry_of rule c m) l l
    go None first is = absurd (false≢true is)
    go (Some why) first is = subst (λ x. Tapes x l l) (sym (entry_refused rule c m why first)) refl

pub entry_done : (rule : Sharing) (c : Entering) (m : Model) → AllByRecursion (λ k. k.0 ≡ false) (entry_checks c m) → entry_of rule c m ≡ done (carried rule c.order m)
unfolding entry_of
entry_done rule c m all = none_fits (entry_checks c m) (done (carried rule c.order m)) all

-- an entry that no check refuses settles as it is carried out
pub done_settles : (rule : Sharing) (c : Entering) (m n : Model) (routed : Option ℕ) → AllByRecursion (λ k. k.0 ≡ false) (entry_checks c m) → n ≡ (carried rule c.order m).after → routed ≡ (carried rule c.order m).ticket → Settles {A = Option ℕ} (entry_of rule c m) m (Ok routed) n (λ d r. r ≡ d.ticket)
done_settles rule c m n routed all after went = subst (λ o. Settles {A = Option ℕ} o m (Ok routed) n (λ d r. r ≡ d.ticket)) (sym (entry_done rule c m all)) (after, went)

pub done_tapes : (rule : Sharing) (c : Entering) (m : Model) (old new : Lent) → AllByRecursion (λ k. k.0 ≡ false) (entry_checks c m) → Writes (carried rule c.order m).lines old new → Tapes (entry_of rule c m) old new
done_tapes rule c m old new all writes = subst (λ o. Tapes o old new) (sym (entry_done rule c m all)) writes
