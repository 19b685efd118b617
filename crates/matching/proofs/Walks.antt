-- A walk from run to run, as far as it has come in the places of a side. Assumes nothing.
use Rattle.std.proofs.Common.{◌≡◌, ℕ, zero, suc, ◌+◌, ◌-◌, ◌<◌, ◌≤◌, Bool, true, false, ◌&&◌, eqb, leb, List, [], ◌∷◌, ◌++◌, length, get_or, take, drop, Option, sym, refl, ap, ◌∙◌, arith}
use borrow.Rule.Slice.PartMut.{put_mid}
use Rattle.std.specs.List.{between, AllByRecursion}
use Rattle.std.proofs.lemmas.List.Edits.{length-between}
use Rattle.std.proofs.lemmas.List.Elements.{filter-append}
use Rattle.std.proofs.ByRecursion.{All-append}
use Rattle.std.proofs.lemmas.List.{append_assoc, append-nil, take-append-drop, drop-drop, drop_all, drop_more, length-append, length-drop, length-take-le}
use Rattle.std.proofs.lemmas.Slice.{take-put_mid, drop-put_mid}
use Rattle.std.proofs.lemmas.Bool.{cond_both, cond-true, cond-false, and_from, and_left, and_right, le-leb, lt-leb, lt-ltb}
use Rattle.sharing.specs.Sharing.{Sharing}
use Rattle.rules.specs.declared.tape.Line.{Line}
use Rattle.rules.specs.declared.terms.Entry.{Entry}
use Rattle.rules.specs.declared.terms.Routed.{Routed}
use Rattle.rules.specs.Laws.{Tradable}
use Rattle.rules.specs.Level.{Deal, level}
use Rattle.rules.specs.Prices.{in_reach}
use Rattle.rules.specs.Walk.{into_runs, runs, flat, at_price, is_price_of, walk}
use Rattle.rules.proofs.AllPrices.{all_smaller}
use Rattle.rules.proofs.CallsKeep.{level_balance}
use Rattle.rules.proofs.Leaves.{level_short, runs_are_whole}
use Rattle.matching.specs.declared.lent.Lent.{Lent}
use Rattle.matching.specs.Deals.{Dealt}
use Rattle.matching.specs.Parts.{is_live, live}
use Rattle.matching.specs.Tapes.{Writes}
use Rattle.matching.specs.Walks.{walked}
use Rattle.rules.proofs.Defaults.{no_entry}
use Rattle.rules.proofs.Held.{Sized}
use Rattle.matching.proofs.Written.{writes_none, writes_twice}

-- entries with contracts are all there
live_all : (es : List Entry) → AllByRecursion Sized es → live es ≡ es
live_all [] sized = refl
live_all (e ∷ es) sized = cond-true (is_live e) (e ∷ live es) (live es) (lt-ltb 0 e.size (omega (arith, sized.0.0))) ∙ ap (λ l. e ∷ l) (live_all es sized.1)

sized_flat : (balance : ℕ) (rs : List (List Entry)) → AllByRecursion (Tradable balance) rs → AllByRecursion Sized (flat rs)
sized_flat balance [] ok = tt
sized_flat balance (r ∷ rs) ok = All-append _ r (flat rs) ok.0.sized (sized_flat balance rs ok.1)

-- the price of a part is that of its first entry
price_first : (test : ℕ → Bool) (n : ℕ) (e : Entry) (es : List Entry) → 0 < n → at_price test (take n (e ∷ es)) ≡ test e.price
price_first test zero e es some = absurd (omega arith)
price_first test (suc n) e es some = refl

price_between : (test : ℕ → Bool) (es : List Entry) (from to : ℕ) → from < to → from < length es → at_price test (between from to es) ≡ test (get_or es from no_entry).price
price_between test es from to lt in' = ap (λ l. at_price test (take (to - from) l)) (drop_more es from no_entry in') ∙ price_first test (to - from) (get_or es from no_entry) (drop (from + 1) es) (omega arith)

-- a deal at later prices, behind what was left and written at earlier ones
abbrev behind : List Entry → List Line → Deal → Deal
behind es ls d = record { balance = d.balance; run = es ++ d.run; lines = ls ++ d.lines }

module _ (rule : Sharing) (o : Routed) (national away : Option ℕ) where
  -- an order that stops where it stands
  abbrev pub Stops : ℕ → List (List Entry) → Type 0
  Stops balance rs = walk rule o national away balance rs ≡ record { balance = balance; run = flat rs; lines = [] }

  stops_none : (balance : ℕ) → Stops balance []
  unfolding walk
  stops_none balance = refl

  stops_at : (balance : ℕ) (r : List Entry) (rs : List (List Entry)) → (leb 1 balance && at_price (in_reach o.side o.cap away) r) ≡ false → Stops balance (r ∷ rs)
  unfolding walk
  stops_at balance r rs out = cond-false (leb 1 balance && at_price (in_reach o.side o.cap away) r) _ _ out

  stops_into : (balance : ℕ) (e : Entry) (rs : List (List Entry)) → in_reach o.side o.cap away e.price ≡ false → Stops balance (into_runs e rs)
  stops_into balance e [] out = stops_at balance (e ∷ []) [] (and_right (leb 1 balance) _ out)
  stops_into balance e ([] ∷ rs) out = stops_at balance (e ∷ []) rs (and_right (leb 1 balance) _ out)
  stops_into balance e ((f ∷ fs) ∷ rs) out =
      cond_both (eqb e.price f.price) ((e ∷ f ∷ fs) ∷ rs) ((e ∷ []) ∷ (f ∷ fs) ∷ rs) (Stops balance)
      (λ _. stops_at balance (e ∷ f ∷ fs) rs (and_right (leb 1 balance) _ out))
      (λ _. stops_at balance (e ∷ []) ((f ∷ fs) ∷ rs) (and_right (leb 1 balance) _ out))

  -- a step of a walk
  walks_on : (balance : ℕ) (best : Bool) (r : List Entry) (rs : List (List Entry)) → 0 < balance → at_price (in_reach o.side o.cap away) r ≡ true → best ≡ at_price (is_price_of national) r →
      let here = level rule o best balance r in walk rule o national away balance (r ∷ rs) ≡ behind here.run here.lines (walk rule o national away here.balance rs)
  unfolding walk
  walks_on balance best r rs some reach is_best =
      cond-true (leb 1 balance && at_price (in_reach o.side o.cap away) r) _ _ (and_from _ _ (le-leb 1 balance (omega arith)) reach)
      ∙ ap (λ b. let here = level rule o b balance r in behind here.run here.lines (walk rule o national away here.balance rs)) (sym is_best)

-- from the entries and what is lent to what they are where the walk has come to the place from: what is left to walk, after
-- what was done, is the whole walk, and the entries further on are as they were
pub record Walking (rule : Sharing) (o : Routed) (national away : Option ℕ) (entries : List Entry) (lent0 : Lent) (now : List Entry) (lent : Lent) (balance from : ℕ) : Type 0 where
  pub within : from ≤ length entries
  pub whole : length now ≡ length entries
  pub rest : drop from now ≡ drop from entries
  pub tradable : AllByRecursion (Tradable balance) (runs (drop from entries))
  pub lines : List Line
  pub few : length lines ≤ from
  pub writes : Writes lines lent0 lent
  pub same : behind (live (take from now)) lines (walk rule o national away balance (runs (drop from entries))) ≡ walked rule o national away entries

pub walking_none : (rule : Sharing) (o : Routed) (national away : Option ℕ) (entries : List Entry) (lent : Lent) → AllByRecursion (Tradable o.size) (runs entries) → Walking rule o national away entries lent entries lent o.size 0
walking_none rule o national away entries lent ok = record { within = omega arith; whole = refl; rest = refl; tradable = ok; lines = []; few = omega arith; writes = writes_none lent; same = refl }

module _ {rule : Sharing} {o : Routed} {national away : Option ℕ} {entries now : List Entry} {lent0 lent : Lent} {balance from : ℕ} (here : Walking rule o national away entries lent0 now lent balance from) where
  -- the next n entries are a run
  module _ {n : ℕ} (some : 0 < n) (more : List Entry) (more_is : more ≡ drop from now) (within : n ≤ length more) (run : runs more ≡ take n more ∷ runs (drop n more)) where
    inside : from + n ≤ length now
    inside = omega (arith, ap length more_is, length-drop from now, here.within, here.whole)

    abbrev next : List Entry
    next = between from (from + n) now

    pub next_length : length next ≡ n
    next_length = omega (arith, length-between now from (from + n) inside)

    next_run : runs (drop from entries) ≡ next ∷ runs (drop (from + n) entries)
    next_run =
        let part : take n more ≡ next = ap (take n) more_is ∙ ap (λ m. take m (drop from now)) (omega arith) in
        let beyond : drop n more ≡ drop (from + n) entries = ap (drop n) (more_is ∙ here.rest) ∙ drop-drop n from entries ∙ ap (λ m. drop m entries) (omega arith) in
        ap runs (sym (more_is ∙ here.rest)) ∙ run ∙ (λ t. part t ∷ runs (beyond t))

    both_tradable : AllByRecursion (Tradable balance) (next ∷ runs (drop (from + n) entries))
    both_tradable = rw next_run at here.tradable

    module _ {best reached : Bool} (left : 0 < balance) (in_reach_of : reached ≡ in_reach o.side o.cap away (get_or now from no_entry).price) (reach : reached ≡ true) (is_best : best ≡ is_price_of national (get_or now from no_entry).price) where
      abbrev one : Deal
      one = level rule o best balance next

      abbrev beyond : Deal
      beyond = walk rule o national away one.balance (runs (drop (from + n) entries))

      goes_on : walk rule o national away balance (runs (drop from entries)) ≡ behind one.run one.lines beyond
      goes_on =
          ap (walk rule o national away balance) next_run
          ∙ walks_on rule o national away balance best next (runs (drop (from + n) entries)) left
          (price_between (in_reach o.side o.cap away) now from (from + n) (omega arith) (omega (arith, inside)) ∙ sym in_reach_of ∙ reach)
          (is_best ∙ sym (price_between (is_price_of national) now from (from + n) (omega arith) (omega (arith, inside))))

      pub walking_more : {ys : List Entry} {lent' : Lent} {balance' : ℕ} → lent0.lines + length entries ≤ length lent0.tape.now → Dealt one next ys lent lent' balance' → Walking rule o national away entries lent0 (put_mid from (from + n - from) now ys) lent' balance' (from + n)
      walking_more {ys} {lent'} {balance'} room after =
          let short = level_short rule o best balance next in
          let long = next_length in
          let few = here.few in
          let there = ap (λ b. walk rule o national away b (runs (drop (from + n) entries))) after.left in
          let in' = inside in
          let whole = here.whole in
          let same_length = after.places in
          let both = length-append here.lines one.lines in
          let put = put_mid from (from + n - from) now ys in
          let front = take-put_mid from (from + n - from) now ys (from + n) (omega arith) (omega arith) in
          let back = drop-put_mid from (from + n - from) now ys (from + n) (omega arith) (omega arith) (omega arith) in
          let done : live (take (from + n) put) ≡ live (take from now) ++ one.run = ap live front ∙ filter-append is_live (take from now) ys ∙ ap (λ l. live (take from now) ++ l) after.entries in
          record {
            within = omega arith;
            whole = omega (arith, ap length (take-append-drop (from + n) put), length-append (take (from + n) put) (drop (from + n) put), ap length front, length-append (take from now) ys, length-take-le from now (omega arith), ap length back, length-drop (from + n) now);
            rest = back ∙ sym (drop-drop n from now ∙ ap (λ m. drop m now) (omega arith)) ∙ ap (drop n) here.rest ∙ drop-drop n from entries ∙ ap (λ m. drop m entries) (omega arith);
            tradable = all_smaller balance' balance (omega (arith, after.left, level_balance rule o best balance next)) (runs (drop (from + n) entries)) both_tradable.1;
            lines = here.lines ++ one.lines;
            few = omega arith;
            writes = writes_twice here.writes after.writes (omega arith);
            same =
                (λ t. behind (done t) (here.lines ++ one.lines) (there t))
                ∙ (λ t. record { balance = beyond.balance; run = append_assoc (live (take from now)) one.run beyond.run t; lines = append_assoc here.lines one.lines beyond.lines t })
                ∙ ap (behind (live (take from now)) here.lines) (sym goes_on)
                ∙ here.same;
          }

  -- where the walk ends: behind the last entry, with no balance, or at a price out of reach
  abbrev pub Ends : Type 0
  Ends = Stops rule o national away balance (runs (drop from entries))

  pub stops_last : length now ≤ from → Ends
  stops_last past = rw (drop_all from entries (omega (arith, here.whole))) (stops_none rule o national away balance)

  pub stops_spent : balance ≤ 0 → Ends
  stops_spent spent = anywhere (runs (drop from entries))
    where
      anywhere : (rs : List (List Entry)) → Stops rule o national away balance rs
      anywhere [] = stops_none rule o national away balance
      anywhere (r ∷ rs) = stops_at rule o national away balance r rs (and_left _ _ (lt-leb 1 balance (omega arith)))

  pub stops_beyond : {reached : Bool} → from < length now → reached ≡ in_reach o.side o.cap away (get_or now from no_entry).price → reached ≡ false → Ends
  stops_beyond lt in_reach_of out =
      rw (sym here.rest ∙ drop_more now from no_entry lt)
      (stops_into rule o national away balance (get_or now from no_entry) (runs (drop (from + 1) now)) (sym in_reach_of ∙ out))

  module _ (stops : Ends) where
    abbrev done : Deal
    done = walked rule o national away entries

    is_done : behind (live (take from now)) here.lines (record { balance = balance; run = flat (runs (drop from entries)); lines = [] }) ≡ done
    is_done = ap (behind (live (take from now)) here.lines) (sym stops) ∙ here.same

    pub done_balance : balance ≡ done.balance
    done_balance = ap (λ d. d.balance) is_done

    pub done_writes : Writes done.lines lent0 lent
    done_writes = rw (sym (append-nil here.lines) ∙ ap (λ d. d.lines) is_done) at here.writes

    pub done_run : live now ≡ done.run
    done_run =
        let left = drop from entries in
        let sized = rw (runs_are_whole left) at (sized_flat balance (runs left) here.tradable) in
        let end = live_all left sized ∙ sym (runs_are_whole left) in
        ap live (sym (take-append-drop from now) ∙ ap (λ l. take from now ++ l) here.rest) ∙ filter-append is_live (take from now) left ∙ ap (λ l. live (take from now) ++ l) end ∙ ap (λ d. d.run) is_done
