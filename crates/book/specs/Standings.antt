-- Where an order is, by its place. Assumes nothing.
use Rattle.std.specs.Prelude.{◌≡◌, ℕ, ◌<◌, cond, not, length, Some, None, Ok, Err, Option, Result, ◌==◌, slice_index_or}
use Rattle.rules.specs.declared.numbers.Refusal.{Refusal}
use Rattle.rules.specs.declared.numbers.Refusal.TheVariants.{NeitherRestingNorOut, AnotherFirms, OutOnRoute}
use Rattle.rules.specs.declared.terms.Entry.{Entry}
use Rattle.rules.specs.declared.terms.Routed.{Routed}
use Rattle.rules.specs.Model.{Model, entries}
use Rattle.rules.specs.Outcome.{standing, Standing as OrderStanding}
use Rattle.rules.specs.Outcome.Standing.{resting, out_on_route, nowhere}
use Rattle.book.specs.declared.find.Own.{Own}
use Rattle.book.specs.declared.find.Standing.{Standing}
use Rattle.book.specs.declared.find.Standing.TheVariants.{Resting, Out}

-- where the order with an id is
abbrev pub Stands : ℕ → Model → Option Standing → Type 0
Stands i m (Some (Resting s k)) = (k < length (entries s m)) × ((d : Entry) → ((slice_index_or (entries s m) k d).id ≡ i) × (standing i m ≡ resting s (slice_index_or (entries s m) k d)))
Stands i m (Some (Out k)) = (k < length m.out) × ((d : Routed) → standing i m ≡ out_on_route (slice_index_or m.out k d))
Stands i m None = standing i m ≡ nowhere

-- why a firm may not touch an order, by where it is
abbrev pub not_its : ℕ → OrderStanding → Option Refusal
not_its firm nowhere = Some NeitherRestingNorOut
not_its firm (out_on_route r) = Some (cond (not (r.firm == firm)) AnotherFirms OutOnRoute)
not_its firm (resting s e) = cond (not (e.firm == firm)) (Some AnotherFirms) None

-- it is the firm's entry with that id, and stands there
pub record Its (i firm : ℕ) (m : Model) (p : Own) : Type 0 where
  pub within : p.at < length (entries p.side m)
  pub entry : (d : Entry) → p.entry ≡ slice_index_or (entries p.side m) p.at d
  pub id : p.entry.id ≡ i
  pub firm_is : p.entry.firm ≡ firm
  pub stands : standing i m ≡ resting p.side p.entry

-- the firm's entry with an id, or why there is none that it may touch
abbrev pub Owns : ℕ → ℕ → Model → Result Own Refusal → Type 0
Owns i firm m (Ok p) = Its i firm m p
Owns i firm m (Err why) = not_its firm (standing i m) ≡ Some why
