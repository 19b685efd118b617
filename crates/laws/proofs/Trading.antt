-- Entries and returns keep the records tied to the book. Assumes nothing.
use Rattle.std.proofs.Common.{◌≡◌, ℕ, ◌+◌, ◌-◌, ◌<◌, ◌≤◌, Bool, true, false, cond, not, eqb, List, [], ◌∷◌, Some, None, Option, unwrap_or, sym, refl, ap, ◌∙◌, subst, arith}
use Rattle.std.specs.List.{AllByRecursion}
use Rattle.std.proofs.ByRecursion.{all_kept_by}
use Rattle.std.proofs.lemmas.Bool.Decides.{nat_tests}
use Rattle.std.proofs.lemmas.Bool.{false≢true, cond-true, cond-false, eq-eqb, ne_eqb, ltb-false}
use Rattle.sharing.specs.Sharing.{Sharing, Lawful}
use Rattle.sharing.specs.Totals.{total}
use Rattle.rules.specs.declared.numbers.Cause.TheVariants.{LeastSize}
use Rattle.rules.specs.declared.tape.Line.{Line}
use Rattle.rules.specs.declared.terms.Order.{Order}
use Rattle.rules.specs.declared.terms.Routed.{Routed}
use Rattle.rules.specs.declared.terms.Side.{Side}
use Rattle.rules.specs.declared.terms.Side.TheVariants.{Buy, Sell}
use Rattle.rules.specs.Calls.{Entering, reference, capped, missed, entry_of, Returning, without_row, return_of}
use Rattle.rules.specs.Caps.{cap_of}
use Rattle.rules.specs.Model.{Model, Opening, entries, away, with_entries, with_out, with_last_id, best}
use Rattle.rules.specs.Outcome.{Done, row_with}
use Rattle.rules.specs.Prices.{is_price, national}
use Rattle.rules.specs.Sides.{other_side}
use Rattle.rules.specs.Sound.{standing_with, GoodRow, Sound, Keeps}
use Rattle.rules.specs.Trade.{ending, end_line, sized, traded, finished, trade}
use Rattle.rules.specs.Trade.Ending.{is_cancelled}
use Rattle.rules.proofs.CallsKeep.{entry_by, return_by, EntryFits, entry_fits, counted_sound, found_all, found_id, found_counts, others_none, traded_leaves, kept}
use Rattle.rules.proofs.Leaves.{left_refl}
use Rattle.rules.proofs.Moves.{given_back, stands_nowhere}
use Rattle.laws.specs.Accounts.{traded_by, lost_by, sent_by, by_return, account}
use Rattle.laws.specs.Balanced.{resting}
use Rattle.laws.specs.Facts.{arrived, clock, away_price}
use Rattle.laws.specs.Histories.{LawfulRule, Told}
use Rattle.laws.specs.Histories.Call.{enters, returns}
use Rattle.laws.specs.Histories.Told.{carried_out}
use Rattle.laws.specs.Standing.{Known, national_told}
use Rattle.laws.proofs.AfterTrade.{comes_as, recounted, given_out, TradeTold, After, ended_after}
use Rattle.laws.proofs.Booked.{out_with, traded_walked, TradeBooked, trade_booked}
use Rattle.laws.proofs.Quiet.{Next, tied_refused}
use Rattle.laws.proofs.ById.{found_having, removed_having}
use Rattle.laws.proofs.Tied.{Comes, Balances, Untold, Tied, standing_book}

-- records and book after a call in which an order trades are tied where the accounts balance too
tied_by : (c : Opening) (r : Told) (rs : List Told) (m after : Model) → m.opening ≡ c → After c.tick r rs m after → Sound after → ((i : ℕ) → Balances (account i (r ∷ rs)) (resting i after)) → ((i : ℕ) → (account i (r ∷ rs)).out ≡ out_with i after.out)
    → ((i : ℕ) → m.counters.last_id < i → Untold (r ∷ rs) i) → Tied c (r ∷ rs) after
tied_by c r rs m after opened told sound balances sent fresh = record { sound = sound; opened = told.opened ∙ opened; balances = balances; sent = sent; clock = told.clock; known = told.known; rows = told.rows; away = told.away; fresh = λ i above. fresh i (omega (arith, told.last_id)) }

same_entries : (s : Side) (m : Model) → with_entries s (entries s m) m ≡ m
same_entries Buy m = refl
same_entries Sell m = refl

module _ (c : Opening) (r : Told) (rs : List Told) (o : Routed) (m : Model) (comes : Comes c.tick (r ∷ rs) o) (fresh : standing_with o.id m ≡ 0)
    (time : clock rs ≡ m.counters.last_time) (known : (s : Side) → AllByRecursion (Known s rs) (entries s m)) (rows : AllByRecursion (Comes c.tick rs) m.out) (aways : (s : Side) → away_price s rs ≡ away s m) where
  pub trade_after : (rule : Sharing) → Lawful rule → (may : Bool) → Sound m → o.size < 100000 → TradeTold r rs o.id (trade rule o may m).lines → After c.tick r rs m (trade rule o may m).after
  unfolding trade finished
  trade_after rule lawful may sound small told =
      let d = traded rule o m in
      ended_after c.tick r rs o d.balance (ending o may d.balance (with_entries (other_side o.side) d.run m)) d.lines d.run m (traded_walked rule lawful o m sound small).plain (traded_leaves rule o m).0 told comes fresh time known rows aways

  pub missed_after : (b : ℕ) → TradeTold r rs o.id (end_line o b (is_cancelled LeastSize) ∷ []) → After c.tick r rs m m
  missed_after b told = subst (After c.tick r rs m) (same_entries (other_side o.side) m) (ended_after c.tick r rs o b (is_cancelled LeastSize) [] (entries (other_side o.side) m) m tt (left_refl (entries (other_side o.side) m)) told comes fresh time known rows aways)

-- a price is none but where there is one
some_price : (tick : ℕ) (p : Option ℕ) → is_price tick (unwrap_or p 0) ≡ true → p ≡ Some (unwrap_or p 0)
some_price tick (Some n) h = refl
some_price tick None h = absurd (false≢true h)

module _ (c : Opening) (rs : List Told) (m : Model) (tied : Tied c rs m) (rule : LawfulRule) (u : Entering) (fits : EntryFits u m) where
  abbrev o : Order
  o = u.order

  abbrev going : Routed
  going = capped o m

  abbrev counted : Model
  counted = with_last_id o.id m

  abbrev entry_told : Done → Told
  entry_told d = carried_out (enters rule u) d.answer d.lines

  pub entry_trade_told : (d : Done) → TradeTold (entry_told d) rs o.id d.lines
  entry_trade_told d = record { came = λ i else. cond-false (eqb o.id i) (Some (record { order = o; before = rs })) (arrived i rs) else; rested = refl; timed = refl; away = λ s. refl }

  -- the order has the cap that the records tell
  pub entry_cap : cap_of o c.tick (national_told (other_side o.side) rs (entries (other_side o.side) m)) ≡ Some going.cap
  entry_cap =
      let contra = other_side o.side in
      (λ t. cap_of o (sym (ap (λ (x : Opening). x.tick) tied.opened) t) (national contra (best (entries contra m)) (tied.away contra t)))
      ∙ some_price m.opening.tick (cap_of o m.opening.tick (reference o m)) fits.cap

  abbrev pub entry_comes : (d : Done) → Comes c.tick (entry_told d ∷ rs) going
  entry_comes d = record {
    came = record { order = o; before = rs };
    found = cond-true (eqb o.id o.id) (Some (record { order = o; before = rs })) (arrived o.id rs) (eq-eqb o.id o.id refl);
    side = refl;
    firm = refl;
    kind = refl;
    market = refl;
    mark = refl;
    directed = refl;
    stood = entries (other_side o.side) m;
    listed = standing_book (other_side o.side) c rs m tied;
    cap = entry_cap;
  }

  pub entry_fresh : standing_with o.id counted ≡ 0
  entry_fresh = stands_nowhere o.id m tied.sound fits.above

  pub known_counted : (s : Side) → AllByRecursion (Known s rs) (entries s counted)
  known_counted s = subst (AllByRecursion (Known s rs)) (sym (recounted counted.counters m s).0) (tied.known s)

  away_counted : (s : Side) → away_price s rs ≡ away s counted
  away_counted s = tied.away s ∙ sym (recounted counted.counters m s).1

  tied_entered : (d : Done) → Sound d.after → After c.tick (entry_told d) rs counted d.after → ((i : ℕ) → TradeBooked going counted d i) → Tied c (entry_told d ∷ rs) d.after
  tied_entered d sound after booked =
      tied_by c (entry_told d) rs counted d.after tied.opened after sound (λ i. omega (arith, tied.balances i, (booked i).whole)) (λ i. omega (arith, tied.sent i, (booked i).sent))
      (λ i above.
      let differ = ne_eqb o.id i (λ same. omega arith) in
      let f = tied.fresh i (omega (arith, fits.above)) in (
        cond-false (eqb o.id i) (Some (record { order = o; before = rs })) (arrived i rs) differ ∙ f.0,
        omega (arith, f.1, ap (λ b. cond b o.size 0) differ),
        f.2,
      ))

  pub tied_traded : let d = trade rule.shares going o.may_route counted in Sound d.after → Tied c (entry_told d ∷ rs) d.after
  tied_traded sound =
      let d = trade rule.shares going o.may_route counted in
      let small : o.size < 100000 = omega (arith, fits.most) in
      let sound0 = counted_sound u m tied.sound fits in
      tied_entered d sound
      (trade_after c (entry_told d) rs going counted (entry_comes d) entry_fresh tied.clock known_counted tied.rows away_counted rule.shares rule.keeps o.may_route sound0 small (entry_trade_told d))
      (trade_booked rule.shares rule.keeps going o.may_route counted sound0 entry_fresh small)

  pub tied_missed : let d = missed o counted in Sound d.after → Tied c (entry_told d ∷ rs) d.after
  tied_missed sound =
      let d = missed o counted in
      tied_entered d sound
      (missed_after c (entry_told d) rs going counted (entry_comes d) entry_fresh tied.clock known_counted tied.rows away_counted o.size (entry_trade_told d))
      (λ i. record { whole = omega arith; sent = omega arith })

pub tied_entry : (c : Opening) (rs : List Told) (m : Model) → Tied c rs m → (rule : LawfulRule) (u : Entering) → Next c rs m (enters rule u) (entry_of rule.shares u m)
tied_entry c rs m tied rule u =
    entry_by (λ out. Keeps out → Next c rs m (enters rule u) out) (λ why _. tied_refused c rs m tied (enters rule u) why) rule.shares u m
    (λ all _. tied_missed c rs m tied rule u (entry_fits u m tied.sound all))
    (λ all _. tied_traded c rs m tied rule u (entry_fits u m tied.sound all))
    (kept.entry rule.shares u m tied.sound)

module _ (c : Opening) (rs : List Told) (m : Model) (tied : Tied c rs m) (rule : LawfulRule) (u : Returning) (row : Routed) (found : row_with u.id m.out ≡ Some row) (enough : u.executed ≤ row.size) where
  abbrev back : Routed
  back = sized (row.size - u.executed) row

  abbrev given : Model
  given = with_out (without_row u.id m.out) m

  abbrev return_told : Done → Told
  return_told d = carried_out (returns rule u) d.answer d.lines

  pub row_id : row.id ≡ u.id
  row_id = found_id (λ (x : Routed). x.id) u.id m.out row found

  pub return_fresh : standing_with back.id given ≡ 0
  return_fresh =
      let none = others_none (λ (x : Routed). x.id) u.id m.out in
      let one = found_counts (λ (x : Routed). x.id) u.id m.out row found in
      let fresh : standing_with u.id given ≡ 0 = omega (arith, none, one, tied.sound.unique u.id) in
      ap (λ j. standing_with j given) row_id ∙ fresh

  pub return_trade_told : (d : Done) → TradeTold (return_told d) rs back.id d.lines
  return_trade_told d = record { came = λ i else. refl; rested = refl; timed = refl; away = λ s. refl }

  pub row_comes : Comes c.tick rs row
  row_comes = found_all (λ (x : Routed). x.id) u.id (Comes c.tick rs) m.out row found tied.rows

  pub return_comes : (d : Done) → Comes c.tick (return_told d ∷ rs) back
  return_comes d = comes_as c.tick rs (return_told d ∷ rs) (row.size - u.executed) row refl row_comes

  pub return_small : row.size - u.executed < 100000
  return_small = omega (arith, (found_all (λ (x : Routed). x.id) u.id (GoodRow m.opening.tick m.counters) m.out row found tied.sound.out).size)

  -- what is out under the id is what was routed
  pub routed_size : (account u.id rs).out ≡ row.size
  routed_size = tied.sent u.id ∙ found_having (λ (x : Routed). x.id) (λ x. x.size) u.id m.out row found (omega (arith, tied.sound.unique u.id))

  pub known_given : (s : Side) → AllByRecursion (Known s rs) (entries s given)
  known_given s = subst (AllByRecursion (Known s rs)) (sym (given_out given.out m s).0) (tied.known s)

  away_given : (s : Side) → away_price s rs ≡ away s given
  away_given s = tied.away s ∙ sym (given_out given.out m s).1

  tied_returned : let d = trade rule.shares back false given in Sound d.after → Tied c (return_told d ∷ rs) d.after
  tied_returned sound =
      let d = trade rule.shares back false given in
      let sound0 = given_back (λ x. not (eqb x.id u.id)) m tied.sound in
      let after = trade_after c (return_told d) rs back given (return_comes d) return_fresh tied.clock known_given (all_kept_by (λ x. not (eqb x.id u.id)) (Comes c.tick rs) m.out tied.rows) away_given rule.shares rule.keeps false sound0 return_small (return_trade_told d) in
      let booked = trade_booked rule.shares rule.keeps back false given sound0 return_fresh return_small in
      tied_by c (return_told d) rs given d.after tied.opened after sound (λ i. balance d.after d.lines i (booked i).whole) (λ i. sent_on d.after d.lines i (booked i).sent) tied.fresh
    where
      balance : (x : Model) (ls : List Line) (i : ℕ) → ((resting i x + total (traded_by i row.id) ls) + total (lost_by i) ls) + total (sent_by i) ls ≡ resting i m + cond (eqb row.id i) (row.size - u.executed) 0 → Balances (by_return i u ls (account i rs)) (resting i x)
      balance x ls i whole =
          let a = account i rs in
          let named : ((resting i x + total (traded_by i u.id) ls) + total (lost_by i) ls) + total (sent_by i) ls ≡ resting i m + cond (eqb u.id i) (row.size - u.executed) 0 = subst (λ j. ((resting i x + total (traded_by i j) ls) + total (lost_by i) ls) + total (sent_by i) ls ≡ resting i m + cond (eqb j i) (row.size - u.executed) 0) row_id whole in
          let out : u.id ≡ i → a.out ≡ row.size = λ same. ap (λ j. (account j rs).out) (sym same) ∙ routed_size in
          grind (arith, nat_tests, tied.balances i, named, out, enough)

      sent_on : (x : Model) (ls : List Line) (i : ℕ) → out_with i x.out ≡ out_with i (without_row u.id m.out) + total (sent_by i) ls → (by_return i u ls (account i rs)).out ≡ out_with i x.out
      sent_on x ls i sent = grind (arith, nat_tests, sent, tied.sent i, removed_having (λ (y : Routed). y.id) (λ y. y.size) i u.id m.out)

pub tied_return : (c : Opening) (rs : List Told) (m : Model) → Tied c rs m → (rule : LawfulRule) (u : Returning) → Next c rs m (returns rule u) (return_of rule.shares u m)
tied_return c rs m tied rule u =
    return_by (λ out. Keeps out → Next c rs m (returns rule u) out) (λ why _. tied_refused c rs m tied (returns rule u) why) rule.shares u m
    (λ row found all sound. tied_returned c rs m tied rule u row found (ltb-false row.size u.executed all.1.1.1.0) sound)
    (kept.return rule.shares u m tied.sound)
