use Rattle.std.proofs.Common.{◌≡◌, ℕ, Option, ap}
use Rattle.book.proofs.Standings.{entry_at, row_at, seen, stands_bid, stands_offer, stands_out, stands_nowhere}
use Rattle.book.proofs.state.State.standing.Goals as goal
use Rattle.book.proofs.state.State.standing.Goals.{After-find, After-find-2, After-find-3}

-- the searches are among the bids, the offers and the orders out
bid : (c : After-find) (o : Option ℕ) → c.find.result ≡ o → entry_at c.args.id c.args.self.now c.args.self.now.bids ≡ o
bid c o = seen _ _ o c.find.ensures c.entries.ensures (ap (λ x. x.bids) c.self.view_is)

offer : (c : After-find-2) (o : Option ℕ) → c.find-2.result ≡ o → entry_at c.args.id c.args.self.now c.args.self.now.offers ≡ o
offer c o = seen _ _ o c.find-2.ensures c.entries-2.ensures (ap (λ x. x.offers) c.self.view_is)

row : (c : After-find-3) (o : Option ℕ) → c.find-3.result ≡ o → row_at c.args.id c.args.self.now c.args.self.now.out ≡ o
row c o = seen _ _ o c.find-3.ensures c.deref.ensures.0 (ap (λ x. x.out) c.self.view_is)

pub returns-in-Some : goal.returns-in-Some
returns-in-Some c = let at = goal.at.returns-in-Some c in stands_bid c.args.id c.args.self.now c.in-Some.at (bid at.After-find _ c.in-Some.is)

pub returns-in-Some-find : goal.returns-in-Some-find
returns-in-Some-find c =
    let at = goal.at.returns-in-Some-find c in
    stands_offer c.args.id c.args.self.now c.in-Some-find.at (bid at.After-find _ c.in_default.is) (offer at.After-find-2 _ c.in-Some-find.is)

pub returns-in_err-at : goal.returns-in_err-at
returns-in_err-at c =
    let at = goal.at.returns-in_err-at c in
    rw c.from_residual.ensures
    (stands_nowhere c.args.id c.args.self.now (bid at.After-find _ c.in_default.is) (offer at.After-find-2 _ c.in_default-find.is) (row at.After-find-3 _ c.in_err-at.was))

pub returns : goal.returns
returns c =
    let at = goal.at.returns c in
    stands_out c.args.id c.args.self.now (bid at.After-find _ c.in_default.is) (offer at.After-find-2 _ c.in_default-find.is) c.in_ok-at.at (row at.After-find-3 _ c.in_ok-at.was)
