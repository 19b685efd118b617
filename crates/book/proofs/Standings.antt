-- Where an order is, from what is found on each side and among the orders out. Assumes nothing.
use Rattle.std.proofs.Common.{◌≡◌, ℕ, Bool, eqb, List, get_or, Some, None, Option, sym, ap, ◌∙◌}
use Rattle.std.specs.List.{position}
use Rattle.rules.specs.declared.terms.Entry.{Entry}
use Rattle.rules.specs.declared.terms.Routed.{Routed}
use Rattle.rules.specs.declared.terms.Side.TheVariants.{Buy, Sell}
use Rattle.rules.specs.Model.{Model}
use Rattle.rules.specs.Outcome.{entry_with, row_with, standing_by}
use Rattle.rules.proofs.CallsKeep.{found_id}
use Rattle.rules.proofs.Defaults.{no_entry, no_row}
use Rattle.book.specs.declared.find.Standing.TheVariants.{Resting, Out}
use Rattle.book.specs.Standings.{Stands}
use Rattle.book.proofs.Finding.{found_at, not_found}

-- what was found in a list is found in what the list is equal to
pub seen : {X : Type 0} (has : X → Bool) (r o : Option ℕ) {xs ys zs : List X} → r ≡ position has xs → xs ≡ ys → ys ≡ zs → r ≡ o → position has zs ≡ o
seen has r o searched first then is = sym (searched ∙ ap (position has) (first ∙ then)) ∙ is

-- what is found on each side and among the orders out
module _ (i : ℕ) (m : Model) where
  abbrev pub entry_at : List Entry → Option ℕ
  entry_at es = position (λ e. eqb e.id i) es

  abbrev pub row_at : List Routed → Option ℕ
  row_at rs = position (λ r. eqb r.id i) rs

  pub stands_bid : (k : ℕ) → entry_at m.bids ≡ Some k → Stands i m (Some (Resting Buy k))
  stands_bid k is =
      let at = found_at (λ e. e.id) i m.bids k in
      ((at no_entry is).0, λ d. (found_id (λ e. e.id) i m.bids (get_or m.bids k d) (at d is).1, ap (λ o. standing_by o (entry_with i m.offers) (row_with i m.out)) (at d is).1))

  pub stands_offer : (k : ℕ) → entry_at m.bids ≡ None → entry_at m.offers ≡ Some k → Stands i m (Some (Resting Sell k))
  stands_offer k no_bid is =
      let at = found_at (λ e. e.id) i m.offers k in
      let none = not_found (λ e. e.id) i m.bids no_bid in
      ((at no_entry is).0, λ d. (found_id (λ e. e.id) i m.offers (get_or m.offers k d) (at d is).1, λ t. standing_by (none t) ((at d is).1 t) (row_with i m.out)))

  module _ (no_bid : entry_at m.bids ≡ None) (no_offer : entry_at m.offers ≡ None) where
    pub stands_out : (k : ℕ) → row_at m.out ≡ Some k → Stands i m (Some (Out k))
    stands_out k is =
        let at = found_at (λ r. r.id) i m.out k in
        let none = not_found (λ e. e.id) i m.bids no_bid in
        let neither = not_found (λ e. e.id) i m.offers no_offer in
        ((at no_row is).0, λ d t. standing_by (none t) (neither t) ((at d is).1 t))

    pub stands_nowhere : row_at m.out ≡ None → Stands i m None
    stands_nowhere is =
        let none = not_found (λ e. e.id) i m.bids no_bid in
        let neither = not_found (λ e. e.id) i m.offers no_offer in
        let out = not_found (λ r. r.id) i m.out is in
        λ t. standing_by (none t) (neither t) (out t)
