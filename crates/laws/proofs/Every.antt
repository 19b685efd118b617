-- Every history keeps the laws. Assumes nothing.
use Rattle.std.proofs.Common.{◌≡◌, ℕ, ◌-◌, ◌<◌, Bool, true, false, not, eqb, leb, List, [], ◌∷◌, None, Option, sym, refl, ap, ◌∙◌, subst, arith}
use Rattle.std.specs.List.{AllByRecursion}
use Rattle.std.proofs.ByRecursion.{All-weaker}
use Rattle.std.proofs.lemmas.Option.{same_Some}
use Rattle.std.proofs.lemmas.Bool.{false≢true, le-leb, lt-leb, ltb-true, ltb-false}
use Rattle.sharing.specs.Sharing.{Sharing, Lawful}
use Rattle.sharing.specs.Totals.{count}
use Rattle.rules.specs.declared.numbers.Cause.{Cause}
use Rattle.rules.specs.declared.numbers.Cause.TheVariants.{LeastSize}
use Rattle.rules.specs.declared.numbers.Refusal.TheVariants.{FirmZero, AnotherFirms, NeitherRestingNorOut, OutOnRoute}
use Rattle.rules.specs.declared.tape.Line.{Line}
use Rattle.rules.specs.declared.tape.Line.TheVariants.{Cancel}
use Rattle.rules.specs.declared.terms.Entry.{Entry}
use Rattle.rules.specs.declared.terms.Routed.{Routed}
use Rattle.rules.specs.declared.terms.Side.{Side}
use Rattle.rules.specs.declared.terms.Side.TheVariants.{Buy, Sell}
use Rattle.rules.specs.Calls.{Entering, capped, missed, entry_of, Returning, without_row, return_of, Resizing, without_entry, after_resize, resize_checks, resting_checks, resize_at, resize_of, Cancelling, cancel_checks, cancel_at, cancel_of, Updating, market_checks, market_of, opened, opening_checks, opening_of}
use Rattle.rules.specs.Caps.{cap_of}
use Rattle.rules.specs.Model.{Model, Opening, entries, away, with_entries, with_away, with_out, with_last_id}
use Rattle.rules.specs.Outcome.{Outcome}
use Rattle.rules.specs.Outcome.Outcome.{done}
use Rattle.rules.specs.Sides.{other_side}
use Rattle.rules.specs.Sound.{GoodEntry, standing_with, Sound, Keeps}
use Rattle.rules.specs.Trade.{Ending, ending, sized, traded, finished, trade}
use Rattle.rules.specs.Walk.{available}
use Rattle.rules.proofs.CallsKeep.{checked_by, entry_by, return_by, standing_cases, EntryFits, entry_fits, counted_sound, side_once, kept}
use Rattle.rules.proofs.Moves.{good_side, given_back}
use Rattle.rules.proofs.Runs.{places_few, always_tradable}
use Rattle.rules.proofs.Held.{Sized}
use Rattle.laws.specs.Accounts.{account}
use Rattle.laws.specs.Facts.{arrived, away_price}
use Rattle.laws.specs.Histories.{LawfulRule, Call, Told, outcome, tell, is_accepted, book_after, told_after}
use Rattle.laws.specs.Histories.Call.{enters, returns, resizes, cancels, updates}
use Rattle.laws.specs.Histories.Told.{carried_out}
use Rattle.laws.specs.Lawful.{Trading, scene_of, HoldsOf, HoldsAt, InEachCall, EveryHistory}
use Rattle.laws.specs.Makers.{GuaranteeAndFloors}
use Rattle.laws.specs.Priority.{PriorityAndPrice}
use Rattle.laws.specs.Scenes.{Scene, least_available}
use Rattle.laws.specs.Standing.{Known, national_told}
use Rattle.laws.proofs.AfterTrade.{comes_as, recounted, given_out}
use Rattle.laws.proofs.Booked.{side_fresh}
use Rattle.laws.proofs.Quiet.{Next, refused_by, tied_market, tied_cancel, tied_resize}
use Rattle.laws.proofs.Sides.{Even, even_next}
use Rattle.laws.proofs.Tied.{Comes, Tied, standing_book, standing_same}
use Rattle.laws.proofs.Trades.{scene_for, tape_for, ReadySide, trade_priority, trade_makers, missed_priority, missed_makers}
use Rattle.laws.proofs.Trading.{entry_comes, entry_fresh, row_id, row_comes, return_fresh, return_small, routed_size, tied_entry, tied_return}

-- a law that an order keeps where it trades, and where its least size is missed
record TradeLaw (Law : Scene → Type 0) : Type 0 where
  pub trades : (rule : Sharing) → Lawful rule → (o : Routed) (least : ℕ) (away : Option ℕ) (es : List Entry) → o.size < 100000 → ReadySide (other_side o.side) es → count (λ e. eqb e.id o.id) es ≡ 0 → (balance : ℕ) (end : Ending) → least_available (scene_for rule o least away es (tape_for rule o away es balance end)) ≡ true → Law (scene_for rule o least away es (tape_for rule o away es balance end))
  pub misses : (rule : Sharing) → Lawful rule → (o : Routed) (least : ℕ) (away : Option ℕ) (es : List Entry) → o.size < 100000 → ReadySide (other_side o.side) es → count (λ e. eqb e.id o.id) es ≡ 0 → (size : ℕ) (cause : Cause) → least_available (scene_for rule o least away es (Cancel o.id o.firm size cause ∷ [])) ≡ false → Law (scene_for rule o least away es (Cancel o.id o.firm size cause ∷ []))

priority_law : TradeLaw PriorityAndPrice
priority_law = record {
  trades = λ rule lawful o least near es small ready fresh balance end available. trade_priority rule lawful o least near es small ready fresh balance end;
  misses = λ rule lawful o least near es small ready fresh size cause short. missed_priority rule lawful o least near es small ready fresh size cause;
}

makers_law : TradeLaw GuaranteeAndFloors
makers_law = record {
  trades = trade_makers;
  misses = missed_makers;
}

ready_side : (s : Side) (m : Model) → Sound m → ReadySide s (entries s m)
ready_side s m sound = record {
  ranked = (good_side s m sound).ranked;
  sized = All-weaker (GoodEntry m.opening.tick m.counters) Sized (λ e h. (h.some, h.size)) (entries s m) (good_side s m sound).good;
  few = places_few s m sound;
  tradable = always_tradable m sound s;
  unique = side_once s m sound;
}

module _ (Law : Scene → Type 0) (law : TradeLaw Law) where
  trade_law : (rule : Sharing) → Lawful rule → (o : Routed) (least : ℕ) (may : Bool) (m : Model) → Sound m → o.size < 100000 → standing_with o.id m ≡ 0 → leb least (available o (away (other_side o.side) m) (entries (other_side o.side) m)) ≡ true → Law (scene_for rule o least (away (other_side o.side) m) (entries (other_side o.side) m) (trade rule o may m).lines)
  unfolding trade finished traded
  trade_law rule lawful o least may m sound small fresh enough =
      let contra = other_side o.side in
      let d = traded rule o m in
      law.trades rule lawful o least (away contra m) (entries contra m) small (ready_side contra m sound) (side_fresh contra o.id m fresh) d.balance (ending o may d.balance (with_entries contra d.run m)) enough

  -- the law, told by the records
  module _ (c : Opening) (rs : List Told) (m : Model) (tied : Tied c rs m) (rs' : List Told) (o : Routed) (comes : Comes c.tick rs' o) (m' : Model)
      (same_entries : entries (other_side o.side) m' ≡ entries (other_side o.side) m) (same_away : away (other_side o.side) m' ≡ away (other_side o.side) m)
      (brings least : ℕ) (brought : o.size ≡ brings) (rule : Sharing) (tape : List Line)
      (here : Law (scene_for rule o least (away (other_side o.side) m') (entries (other_side o.side) m') tape)) where
    abbrev trading : Trading
    trading = record { came = comes.came; brings = brings; least = least; rule = rule; tape = tape }

    abbrev far : Side
    far = other_side comes.came.order.side

    far_is : other_side o.side ≡ far
    far_is = ap other_side (sym comes.side)

    holds_of : HoldsOf Law c.tick rs trading
    holds_of = record {
      entries = entries far m;
      listed = standing_book far c rs m tied;
      cap = o.cap;
      capped = λ es listed. ap (λ l. cap_of comes.came.order c.tick (national_told far comes.came.before l)) (standing_same far comes.came.before es comes.stood listed comes.listed) ∙ comes.cap;
      law = λ es limit listed capped.
          let cap : o.cap ≡ limit = same_Some _ _ (sym comes.cap ∙ capped comes.stood comes.listed) in
          let near : away (other_side o.side) m' ≡ away_price far rs = same_away ∙ sym (tied.away (other_side o.side)) ∙ ap (λ s. away_price s rs) far_is in
          let stand : entries (other_side o.side) m' ≡ es = same_entries ∙ ap (λ s. entries s m) far_is ∙ standing_same far rs (entries far m) es (standing_book far c rs m tied) listed in
          let scenes : scene_for rule o least (away (other_side o.side) m') (entries (other_side o.side) m') tape ≡ scene_of trading limit (away_price far rs) es = λ t. record {
            side = sym comes.side t;
            firm = sym comes.firm t;
            mark = sym comes.mark t;
            directed = sym comes.directed t;
            cap = cap t;
            brings = brought t;
            least = least;
            away = near t;
            standing = stand t;
            rule = rule;
            tape = tape;
          } in
          subst Law scenes here;
    }

  module _ (c : Opening) (rs : List Told) (m : Model) (tied : Tied c rs m) where
    entry_holds : (rule : LawfulRule) (u : Entering) → HoldsAt Law c.tick rs (tell (enters rule u) (entry_of rule.shares u m))
    entry_holds rule u =
        let o = u.order in
        let counted = with_last_id o.id m in
        let going = capped o m in
        let far = other_side o.side in
        let d1 = missed o counted in
        let d2 = trade rule.shares going o.may_route counted in
        let small : EntryFits u m → o.size < 100000 = λ fits. omega (arith, fits.most) in
        let fresh : EntryFits u m → standing_with o.id counted ≡ 0 = entry_fresh c rs m tied rule u in
        let same = recounted counted.counters m far in
        let room = available going (away far m) (entries far m) in
        let room_is : available going (away far counted) (entries far counted) ≡ room = λ t. available going (same.1 t) (same.0 t) in
        entry_by (λ out. HoldsAt Law c.tick rs (tell (enters rule u) out)) (λ why. tt) rule.shares u m
        (λ all short.
        let fits = entry_fits u m tied.sound all in
        holds_of c rs m tied (carried_out (enters rule u) d1.answer d1.lines ∷ rs) going (entry_comes c rs m tied rule u fits d1) counted same.0 same.1 o.size o.least refl rule.shares d1.lines
        (law.misses rule.shares rule.keeps going o.least (away far counted) (entries far counted) (small fits) (ready_side far counted (counted_sound u m tied.sound fits)) (side_fresh far o.id counted (fresh fits)) o.size LeastSize
        (ap (leb o.least) room_is ∙ lt-leb o.least room (ltb-true room o.least short))))
        (λ all enough.
        let fits = entry_fits u m tied.sound all in
        holds_of c rs m tied (carried_out (enters rule u) d2.answer d2.lines ∷ rs) going (entry_comes c rs m tied rule u fits d2) counted same.0 same.1 o.size o.least refl rule.shares d2.lines
        (trade_law rule.shares rule.keeps going o.least o.may_route counted (counted_sound u m tied.sound fits) (small fits) (fresh fits)
        (ap (leb o.least) room_is ∙ le-leb o.least room (ltb-false room o.least enough))))

    return_holds : (rule : LawfulRule) (u : Returning) → HoldsAt Law c.tick rs (tell (returns rule u) (return_of rule.shares u m))
    return_holds rule u = return_by (λ out. HoldsAt Law c.tick rs (tell (returns rule u) out)) (λ why. tt) rule.shares u m (λ row found all.
        let back = sized (row.size - u.executed) row in
        let given = with_out (without_row u.id m.out) m in
        let far = other_side row.side in
        let d = trade rule.shares back false given in
        let enough = ltb-false row.size u.executed all.1.1.1.0 in
        let comes = row_comes c rs m tied rule u row found enough in
        let same = given_out given.out m far in
        record {
          came = comes.came;
          found = ap (λ i. arrived i rs) (sym (row_id c rs m tied rule u row found enough)) ∙ comes.found;
          holds = holds_of c rs m tied rs back (comes_as c.tick rs rs (row.size - u.executed) row refl comes) given same.0 same.1 ((account u.id rs).out - u.executed) 0
              (ap (λ n. n - u.executed) (sym (routed_size c rs m tied rule u row found enough))) rule.shares d.lines
              (trade_law rule.shares rule.keeps back 0 false given (given_back (λ x. not (eqb x.id u.id)) m tied.sound) (return_small c rs m tied rule u row found enough) (return_fresh c rs m tied rule u row found enough)
              (le-leb 0 (available back (away far given) (entries far given)) (omega arith)));
        })

    -- a call that does not trade has no tape
    resize_holds : (u : Resizing) → HoldsAt Law c.tick rs (tell (resizes u) (resize_of u m))
    unfolding resize_of
    resize_holds u =
        let P : Outcome → Type 0 = λ out. HoldsAt Law c.tick rs (tell (resizes u) out) in
        standing_cases (λ x. P (resize_at u m x)) u.id m
        (λ s e found. checked_by P (λ why. tt) (resting_checks u m e) (done (record { answer = u.size; lines = []; after = after_resize u s e m; ticket = None })) (λ _. refl))
        (λ x. refused_by P (λ _. tt) (resize_checks u ((not (eqb x.firm u.firm), AnotherFirms) ∷ [])) OutOnRoute)
        (refused_by P (λ _. tt) (resize_checks u []) NeitherRestingNorOut)

    cancel_holds : (u : Cancelling) → HoldsAt Law c.tick rs (tell (cancels u) (cancel_of u m))
    unfolding cancel_of
    cancel_holds u =
        let P : Outcome → Type 0 = λ out. HoldsAt Law c.tick rs (tell (cancels u) out) in
        standing_cases (λ x. P (cancel_at u m x)) u.id m
        (λ s e found. checked_by P (λ why. tt) (cancel_checks u e.firm) (done (record { answer = e.size; lines = []; after = with_entries s (without_entry u.id (entries s m)) m; ticket = None })) (λ _. refl))
        (λ x. refused_by P (λ _. tt) (cancel_checks u x.firm) OutOnRoute)
        (refused_by P (λ _. tt) ((eqb u.firm 0, FirmZero) ∷ []) NeitherRestingNorOut)

    market_holds : (u : Updating) → HoldsAt Law c.tick rs (tell (updates u) (market_of u m))
    unfolding market_of
    market_holds u = checked_by (λ out. HoldsAt Law c.tick rs (tell (updates u) out)) (λ why. tt) (market_checks u m) (done (record { answer = 0; lines = []; after = with_away u.side u.price m; ticket = None })) (λ _. refl)

    call_holds : (k : Call) → HoldsAt Law c.tick rs (tell k (outcome k m))
    call_holds (enters rule u) = entry_holds rule u
    call_holds (returns rule u) = return_holds rule u
    call_holds (resizes u) = resize_holds u
    call_holds (cancels u) = cancel_holds u
    call_holds (updates u) = market_holds u

tied_next : (c : Opening) (rs : List Told) (m : Model) → Tied c rs m → (k : Call) → Next c rs m k (outcome k m)
tied_next c rs m tied (enters rule u) = tied_entry c rs m tied rule u
tied_next c rs m tied (returns rule u) = tied_return c rs m tied rule u
tied_next c rs m tied (resizes u) = tied_resize c rs m tied u
tied_next c rs m tied (cancels u) = tied_cancel c rs m tied u
tied_next c rs m tied (updates u) = tied_market c rs m tied u

-- a book as it is opened
pub opened_sound : (c : Opening) → is_accepted (opening_of c) ≡ true → Sound (opened c)
unfolding opening_of
opened_sound c accepted =
    checked_by (λ out. is_accepted out ≡ true → Keeps out → Sound (opened c)) (λ why down _. absurd (false≢true down))
    (opening_checks c) (done (record { answer = 0; lines = []; after = opened c; ticket = None })) (λ _ _ sound. sound) accepted (kept.opening c)

tied_opened : (c : Opening) → is_accepted (opening_of c) ≡ true → Tied c [] (opened c)
tied_opened c accepted = record {
  sound = opened_sound c accepted;
  opened = refl;
  balances = λ i. refl;
  sent = λ i. refl;
  clock = refl;
  known = λ s. none s;
  rows = tt;
  away = λ s. nothing s;
  fresh = λ i above. (refl, refl, refl);
}
  where
    none : (s : Side) → AllByRecursion (Known s []) (entries s (opened c))
    none Buy = tt
    none Sell = tt

    nothing : (s : Side) → away_price s [] ≡ away s (opened c)
    nothing Buy = refl
    nothing Sell = refl

pub tied_after : (c : Opening) → is_accepted (opening_of c) ≡ true → (ks : List Call) → Tied c (told_after c ks) (book_after c ks)
tied_after c accepted [] = tied_opened c accepted
tied_after c accepted (k ∷ ks) = tied_next c (told_after c ks) (book_after c ks) (tied_after c accepted ks) k

even_after : (c : Opening) → is_accepted (opening_of c) ≡ true → (ks : List Call) → Even (told_after c ks)
even_after c accepted [] = record { once = λ i s. refl; sides = refl }
even_after c accepted (k ∷ ks) = even_next c (told_after c ks) (book_after c ks) (tied_after c accepted ks) (even_after c accepted ks) k

in_each : (Law : Scene → Type 0) → TradeLaw Law → (c : Opening) → is_accepted (opening_of c) ≡ true → (ks : List Call) → InEachCall Law c.tick (told_after c ks)
in_each Law law c accepted [] = tt
in_each Law law c accepted (k ∷ ks) = (call_holds Law law c (told_after c ks) (book_after c ks) (tied_after c accepted ks) k, in_each Law law c accepted ks)

pub every_history : EveryHistory
every_history h = record {
  priority = in_each PriorityAndPrice priority_law h.opening h.accepted h.calls;
  makers = in_each GuaranteeAndFloors makers_law h.opening h.accepted h.calls;
  accounts = record { orders = (tied_after h.opening h.accepted h.calls).balances; sides = (even_after h.opening h.accepted h.calls).sides };
}
