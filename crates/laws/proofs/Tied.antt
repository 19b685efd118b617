-- What ties the records to the book, and what follows of the entries that stand. Assumes nothing.
use Rattle.std.proofs.Common.{◌≡◌, ℕ, ◌+◌, ◌<◌, ◌≤◌, eqb, ◌⊎◌, List, [], ◌∷◌, Some, None, sym, ap, ◌∙◌, subst, inl, inr, ⊎_elim, arith}
use Rattle.std.specs.List.{AllByRecursion}
use Rattle.std.proofs.lemmas.Option.{same_Some}
use Rattle.std.proofs.lemmas.Bool.{cases_Bool, cases_lt, eqb-true}
use Rattle.ranked.specs.Ranked.{ahead}
use Rattle.ranked.proofs.Orderly.{Orderly, orderly}
use Rattle.ranked.proofs.Strict.{Strict, strict_same}
use Rattle.sharing.specs.Totals.{one_if, count}
use Rattle.rules.specs.declared.terms.Entry.{Entry}
use Rattle.rules.specs.declared.terms.Routed.{Routed}
use Rattle.rules.specs.declared.terms.Side.{Side}
use Rattle.rules.specs.declared.terms.Side.TheVariants.{Buy, Sell}
use Rattle.rules.specs.Caps.{cap_of}
use Rattle.rules.specs.Checks.{unpriced}
use Rattle.rules.specs.Laws.{holding}
use Rattle.rules.specs.Model.{Model, Opening, entries, away}
use Rattle.rules.specs.Ranks.{rank_of, rank_before}
use Rattle.rules.specs.Sides.{other_side}
use Rattle.rules.specs.Sound.{InRank, GoodEntry, Sound}
use Rattle.rules.proofs.CallsKeep.{side_once}
use Rattle.rules.specs.contracts.ranks.SideRankingEntry.TheImpl.Laws.{irreflexive-law, transitive-law, total-law}
use Rattle.rules.proofs.Moves.{good_side}
use Rattle.laws.specs.Accounts.{Account, holds, account}
use Rattle.laws.specs.Balanced.{resting}
use Rattle.laws.specs.Facts.{Arrived, arrived, resting_price, clock, working_time, away_price}
use Rattle.laws.specs.Histories.{Told}
use Rattle.laws.specs.Priority.{Among}
use Rattle.laws.specs.Standing.{Known, Stands, Standing, national_told}
use Rattle.laws.proofs.Booked.{out_with}
use Rattle.laws.proofs.ById.{none_held, all_among, counted, own_holding}
use Rattle.laws.proofs.Lists.{all_and, all_both}

-- an order at its entry or out on a route is the one that the records tell of, with its cap
pub record Comes (tick : ℕ) (rs : List Told) (o : Routed) : Type 0 where
  pub came : Arrived
  pub found : arrived o.id rs ≡ Some came
  pub side : came.order.side ≡ o.side
  pub firm : came.order.firm ≡ o.firm
  pub kind : came.order.kind ≡ o.kind
  pub market : unpriced came.order ≡ o.market
  pub mark : came.order.own_firm_mark ≡ o.own_firm_mark
  pub directed : came.order.directed ≡ o.directed
  -- what stood on the other side when it arrived
  pub stood : List Entry
  pub listed : Standing (other_side came.order.side) came.before stood
  pub cap : cap_of came.order tick (national_told (other_side came.order.side) came.before stood) ≡ Some o.cap

-- an account that balances with what rests
abbrev pub Balances : Account → ℕ → Type 0
Balances a rest = a.entered + a.added ≡ ((((a.traded_here + a.traded_away) + a.cancelled) + a.taken_off) + rest) + a.out

-- of an id nothing is told
abbrev pub Untold : List Told → ℕ → Type 0
Untold rs i = (arrived i rs ≡ None) × ((account i rs).entered ≡ 0) × ((account i rs).added ≡ 0)

pub record Tied (c : Opening) (rs : List Told) (m : Model) : Type 0 where
  pub sound : Sound m
  pub opened : m.opening ≡ c
  pub balances : (i : ℕ) → Balances (account i rs) (resting i m)
  pub sent : (i : ℕ) → (account i rs).out ≡ out_with i m.out
  pub clock : clock rs ≡ m.counters.last_time
  pub known : (s : Side) → AllByRecursion (Known s rs) (entries s m)
  pub rows : AllByRecursion (Comes c.tick rs) m.out
  pub away : (s : Side) → away_price s rs ≡ away s m
  -- of an id above all that were accepted nothing is told
  pub fresh : (i : ℕ) → m.counters.last_id < i → Untold rs i

-- an order holds what it has in the book
pub holds_resting : (c : Opening) (rs : List Told) (m : Model) → Tied c rs m → (i : ℕ) → holds (account i rs) ≡ resting i m
holds_resting c rs m tied i = omega (arith, tied.balances i)

-- what one side has, the other has not
pub apart_sides : (s : Side) (m : Model) → Sound m → (i : ℕ) → 1 ≤ count (λ e. eqb e.id i) (entries s m) → resting i m ≡ holding i (entries s m)
apart_sides Buy m sound i one = omega (arith, none_held i m.offers (omega (arith, sound.unique i)))
apart_sides Sell m sound i one = omega (arith, none_held i m.bids (omega (arith, sound.unique i)))

-- an id that holds contracts is on the list
held_counted : (i : ℕ) (es : List Entry) → 1 ≤ holding i es → 1 ≤ count (λ e. eqb e.id i) es
held_counted i es some = ⊎_elim (λ more. omega arith) (λ none. absurd (omega (arith, none_held i es (omega arith)))) (cases_lt 0 (count (λ e. eqb e.id i) es))

-- the entry with an id that is on a list
pub picked : {X : Type 0} (Q : Entry → Type 0) (i : ℕ) (es : List Entry) → 1 ≤ count (λ e. eqb e.id i) es → AllByRecursion Q es → ((e : Entry) → e.id ≡ i → Q e → X) → X
picked Q i [] one qs use_it = absurd (omega arith)
picked Q i (e ∷ es) one qs use_it =
    ⊎_elim
    (λ here. use_it e (eqb-true e.id i here) qs.0)
    (λ else. let zero = ap one_if else in picked Q i es (omega arith) qs.1 use_it)
    (cases_Bool (eqb e.id i))

-- an entry of a side is of an order of that side
side_known : (t : Side) (rs : List Told) (i : ℕ) (a : Arrived) → arrived i rs ≡ Some a → (es : List Entry) → AllByRecursion (Known t rs) es → 1 ≤ count (λ e. eqb e.id i) es → a.order.side ≡ t
side_known t rs i a found es known there = picked (Known t rs) i es there known (λ e same k. ap (λ (x : Arrived). x.order.side) (same_Some _ _ (sym found ∙ ap (λ j. arrived j rs) (sym same) ∙ k.found)) ∙ k.side)

side_split : (i : ℕ) (m : Model) → 1 ≤ resting i m → (1 ≤ holding i m.bids) ⊎ (1 ≤ holding i m.offers)
side_split i m some = ⊎_elim (λ more. inl (omega arith)) (λ none. inr (omega arith)) (cases_lt 0 (holding i m.bids))

-- the book's side is the list of what stands there
pub standing_book : (s : Side) (c : Opening) (rs : List Told) (m : Model) → Tied c rs m → Standing s rs (entries s m)
standing_book s c rs m tied =
    let es = entries s m in
    let good = good_side s m tied.sound in
    record {
      ranked = good.ranked;
      standing = all_both (λ e. Known s rs e × GoodEntry m.opening.tick m.counters e) (λ e. Among e es) (Stands s rs)
          (λ e h among. record {
            known = h.0;
            size = holds_resting c rs m tied e.id ∙ apart_sides s m tied.sound e.id (counted e es among) ∙ own_holding e es among (side_once s m tied.sound e.id);
            some = h.1.some;
          })
          es (all_and (Known s rs) (GoodEntry m.opening.tick m.counters) es (tied.known s) good.good) (all_among es);
      whole = λ i a found side some.
          ⊎_elim
          (λ bid. there Buy i a found side (held_counted i m.bids bid))
          (λ offer. there Sell i a found side (held_counted i m.offers offer))
          (side_split i m (omega (arith, holds_resting c rs m tied i)));
    }
  where
    there : (t : Side) (i : ℕ) (a : Arrived) → arrived i rs ≡ Some a → a.order.side ≡ s → 1 ≤ count (λ e. eqb e.id i) (entries t m) → 1 ≤ count (λ e. eqb e.id i) (entries s m)
    there t i a found side counted = subst (λ u. 1 ≤ count (λ e. eqb e.id i) (entries u m)) (sym (side_known t rs i a found (entries t m) (tied.known t) counted) ∙ side) counted

-- two entries with one id that the records tell of are one
same_entry : (s : Side) (rs : List Told) (e f : Entry) → Stands s rs e → Stands s rs f → e.id ≡ f.id → e ≡ f
same_entry s rs e f x y same =
    let k = x.known in
    let l = y.known in
    let order : k.came ≡ l.came = same_Some _ _ (sym k.found ∙ ap (λ j. arrived j rs) same ∙ l.found) in
    let firm : e.firm ≡ f.firm = sym k.firm ∙ ap (λ (a : Arrived). a.order.firm) order ∙ l.firm in
    let kind : e.kind ≡ f.kind = sym k.kind ∙ ap (λ (a : Arrived). a.order.kind) order ∙ l.kind in
    let market : e.market ≡ f.market = sym k.market ∙ ap (λ (a : Arrived). unpriced a.order) order ∙ l.market in
    let mark : e.own_firm_mark ≡ f.own_firm_mark = sym k.mark ∙ ap (λ (a : Arrived). a.order.own_firm_mark) order ∙ l.mark in
    let price : e.price ≡ f.price = same_Some _ _ (sym k.price ∙ ap (λ j. resting_price j rs) same ∙ l.price) in
    let time : e.time ≡ f.time = sym k.time ∙ ap (λ j. working_time j rs) same ∙ l.time in
    let size : e.size ≡ f.size = sym x.size ∙ ap (λ j. holds (account j rs)) same ∙ y.size in
    λ t. record { id = same t; firm = firm t; kind = kind t; market = market t; price = price t; size = size t; time = time t; own_firm_mark = mark t }

-- the laws of the ranking that a side is
entries_orderly : (s : Side) → Orderly (ahead rank_before (λ _. rank_of) s)
entries_orderly s = orderly rank_before (λ _. rank_of) s (irreflexive-law s) (transitive-law s) (total-law s)

strictly : (s : Side) (es : List Entry) → InRank s es → Strict (ahead rank_before (λ _. rank_of) s) es
strictly s [] ranked = tt
strictly s (e ∷ es) ranked = (ranked.0, strictly s es ranked.1)

included : (s : Side) (rs : List Told) (es : List Entry) → Standing s rs es → (gs : List Entry) → AllByRecursion (Stands s rs) gs → (P : Entry → Type 0) → AllByRecursion P es → AllByRecursion P gs
included s rs es x [] stand P ps = tt
included s rs es x (g ∷ gs) stand P ps =
    let k = stand.0.known in
    let there = x.whole g.id k.came k.found k.side (omega (arith, stand.0.size, stand.0.some)) in (
      picked (λ e. Stands s rs e × P e) g.id es there (all_and (Stands s rs) P es x.standing ps) (λ e same h. subst P (same_entry s rs e g h.0 stand.0 same) h.1),
      included s rs es x gs stand.1 P ps,
    )

-- there is one list of what stands
pub standing_same : (s : Side) (rs : List Told) (es fs : List Entry) → Standing s rs es → Standing s rs fs → es ≡ fs
standing_same s rs es fs x y = strict_same (ahead rank_before (λ _. rank_of) s) (entries_orderly s) es fs (strictly s es x.ranked) (strictly s fs y.ranked) (λ P ps. included s rs es x fs y.standing P ps) (λ P ps. included s rs fs y es x.standing P ps)
