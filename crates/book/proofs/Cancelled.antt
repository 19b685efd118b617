-- A side without the entry that a cancel or a size change takes off. Assumes nothing.
use Rattle.std.proofs.Common.{◌≡◌, ℕ, sym, ap, ◌∙◌}
use Rattle.std.specs.List.{remove}
use Rattle.rules.specs.declared.terms.Entry.{Entry}
use Rattle.rules.specs.Calls.{without_entry}
use Rattle.rules.specs.Model.{Model, entries}
use Rattle.rules.specs.Sound.{Sound}
use Rattle.rules.proofs.CallsKeep.{side_once}
use Rattle.book.specs.Standings.{Its}
use Rattle.book.specs.declared.find.Own.{Own}
use Rattle.book.proofs.Finding.{removed_others}
use Rattle.rules.proofs.Defaults.{no_entry}

-- in a sound book the entry at the place that was found is the one with the id
pub without_found : (i firm : ℕ) (m : Model) (p : Own) → Sound m → Its i firm m p → remove (entries p.side m) p.at ≡ without_entry i (entries p.side m)
without_found i firm m p sound its = removed_others (λ e. e.id) i (entries p.side m) p.at no_entry its.within (sym (ap (λ (e : Entry). e.id) (its.entry no_entry)) ∙ its.id) (side_once p.side m sound i)
