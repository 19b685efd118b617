-- From price to price: each fill is fair, and each price to which the order may come is served. Assumes nothing.
use Rattle.std.proofs.Common.{◌≡◌, ℕ, ◌+◌, ◌-◌, ◌<◌, ◌≤◌, Bool, true, false, cond, not, ◌&&◌, eqb, ltb, leb, List, [], ◌∷◌, ◌++◌, map, length, filter, Option, sym, refl, ap, ◌∙◌, subst, ⊎_elim, arith}
use Rattle.std.specs.List.{AllByRecursion}
use Rattle.std.proofs.lemmas.List.Elements.{filter-append}
use Rattle.std.proofs.ByRecursion.{All-weaker, All-append, All-map}
use Rattle.std.proofs.lemmas.List.{append-nil, append_assoc}
use Rattle.std.proofs.lemmas.Bool.Decides.{nat_tests}
use Rattle.std.proofs.lemmas.Bool.{both_ways, and_parts, and_left, and_cases, eq-eqb, leb-false, cond_both}
use Rattle.sharing.specs.Sharing.{Sharing, Lawful}
use Rattle.sharing.specs.Totals.{total}
use Rattle.sharing.specs.Allotted.{total_append}
use Rattle.rules.specs.declared.tape.Line.{Line}
use Rattle.rules.specs.declared.terms.Entry.{Entry}
use Rattle.rules.specs.declared.terms.Routed.{Routed}
use Rattle.rules.specs.Checks.{is_barred}
use Rattle.rules.specs.Laws.{traded_in, Tradable}
use Rattle.rules.specs.Level.{barred_line, Deal, level}
use Rattle.rules.specs.Model.{best}
use Rattle.rules.specs.Prices.{national, in_cap, not_better_away, in_reach}
use Rattle.rules.specs.Ranks.{class_of, is_customer}
use Rattle.rules.specs.Sides.{other_side, is_better}
use Rattle.rules.specs.Sound.{InRank}
use Rattle.rules.specs.Walk.{is_price_of, flat, walk}
use Rattle.rules.proofs.AllPrices.{all_smaller}
use Rattle.rules.proofs.OnePrice.{one_price}
use Rattle.rules.proofs.Held.{Sized}
use Rattle.laws.specs.Makers.{Served}
use Rattle.laws.specs.Priority.{NothingLeft, FairLine, EachAfter}
use Rattle.laws.specs.Scenes.{Scene, is_eligible, within_reach, free_at, earlier}
use Rattle.laws.proofs.Fairness.{visit_fair, visit_passed}
use Rattle.laws.proofs.Idle.{idle_served}
use Rattle.laws.proofs.Levels.{lines_5, level_told}
use Rattle.laws.proofs.Lines.{level_all, walk_all}
use Rattle.laws.proofs.Lists.{all_both, all_split, every}
use Rattle.laws.proofs.Rounds.{kept_same, none_pass}
use Rattle.laws.proofs.BetterFirst.{BetterFirst, better_differ, worse_differ, nearer, at_tradable}
use Rattle.laws.proofs.Tapes.{Priced, all_priced, level_test, worse_test, better_earlier, worse_later, each_append}
use Rattle.laws.proofs.Turns.{part_front, left_more, before, Passed}
use Rattle.laws.proofs.Visits.{Visit, visit_served}

-- the prices of the fills at a price and of a walk
module _ (Q : ℕ → Type 0) where
  level_priced : (rule : Sharing) (o : Routed) (at_best : Bool) (balance : ℕ) (run : List Entry) → AllByRecursion (λ e. Q e.price) run → AllByRecursion (Priced Q) (level rule o at_best balance run).lines
  level_priced = level_all (λ e. Q e.price) (λ n e h. h) (Priced Q) (λ e n k h. h) (λ e h. tt)

  walk_priced : (rule : Sharing) (o : Routed) (nat away : Option ℕ) (balance : ℕ) (rs : List (List Entry)) → AllByRecursion (λ e. Q e.price) (flat rs) → AllByRecursion (Priced Q) (walk rule o nat away balance rs).lines
  walk_priced = walk_all (λ e. Q e.price) (λ n e h. h) (Priced Q) (λ e n k h. h) (λ e h. tt)

-- what holds of a price holds of each entry at it
all_at : (Q : ℕ → Type 0) (p : ℕ) → Q p → (es : List Entry) → AllByRecursion (λ e. e.price ≡ p) es → AllByRecursion (λ e. Q e.price) es
all_at Q p h es level = All-weaker (λ e. e.price ≡ p) (λ e. Q e.price) (λ e same. subst Q (sym same) h) es level

class_below : (market customer : Bool) → ltb (cond market (cond customer 1 2) (cond customer 3 4)) 5 ≡ true
class_below market customer = grind (arith, nat_tests)

class_above : (market customer : Bool) → ltb (cond market (cond customer 1 2) (cond customer 3 4)) 1 ≡ false
class_above market customer = grind (arith, nat_tests)

module _ (rule : Sharing) (lawful : Lawful rule) (o : Routed) (least : ℕ) (away : Option ℕ) (es : List Entry) (tape : List Line)
    (small : o.size < 100000) (ranked : InRank (other_side o.side) es) (sized : AllByRecursion Sized es) (few : length es ≤ 256) where
  abbrev sc : Scene
  sc = record { side = o.side; firm = o.firm; mark = o.own_firm_mark; directed = o.directed; cap = o.cap; brings = o.size; least = least; away = away; standing = es; rule = rule; tape = tape }

  abbrev nat : Option ℕ
  nat = national (other_side o.side) (best es) away

  abbrev better : ℕ → ℕ → Bool
  better p q = is_better (other_side o.side) p q

  abbrev free : Entry → Bool
  free e = not (is_barred o.firm o.own_firm_mark e)

  -- an entry whose price is within reach is served
  abbrev pub Serves : Entry → Type 0
  Serves e = within_reach sc e.price ≡ true → Served sc e.price

  -- nothing eligible is left of an entry after these lines
  abbrev pub Spent : List Line → Entry → Type 0
  Spent lines e = is_eligible sc e ≡ true → NothingLeft lines e

  -- a price better than those of all these entries
  abbrev pub Beats : List Entry → ℕ → Type 0
  Beats fs q = AllByRecursion (λ f. better q f.price ≡ true) fs

  -- the entries at a price are those of its run
  same_run : (done run rest : List Entry) (p : ℕ) → es ≡ done ++ (run ++ rest) → AllByRecursion (λ e. better e.price p ≡ true) done → AllByRecursion (λ e. e.price ≡ p) run → AllByRecursion (λ e. better p e.price ≡ true) rest → filter free run ≡ free_at sc p
  same_run done run rest p is first level beyond =
      let q : Entry → Bool = λ e. eqb e.price p && free e in
      let none = none_pass q done (All-weaker (λ e. better e.price p ≡ true) (λ e. q e ≡ false) (λ e h. and_left (eqb e.price p) (free e) (better_differ (other_side o.side) e.price p h)) done first) in
      let here = kept_same q free run (All-weaker (λ e. e.price ≡ p) (λ e. q e ≡ free e) (λ e h. ap (λ b. b && free e) (eq-eqb e.price p h)) run level) in
      let last = none_pass q rest (All-weaker (λ e. better p e.price ≡ true) (λ e. q e ≡ false) (λ e h. and_left (eqb e.price p) (free e) (worse_differ (other_side o.side) e.price p h)) rest beyond) in
      sym (ap (filter q) is ∙ filter-append q done (run ++ rest) ∙ (λ t. none t ++ filter-append q run rest t) ∙ (λ t. here t ++ last t) ∙ append-nil (filter free run))

  -- an order comes to a price
  record Coming (balance : ℕ) (done run rest : List Entry) (p : ℕ) (front after : List Line) : Type 0 where
    pub whole : es ≡ done ++ (run ++ rest)
    pub first : AllByRecursion (λ e. better e.price p ≡ true) done
    pub priced : AllByRecursion (λ e. e.price ≡ p) run
    pub beyond : AllByRecursion (λ e. better p e.price ≡ true) rest
    pub ok : Tradable balance run
    pub reach : in_reach o.side o.cap away p ≡ true
    pub brings : total traded_in front + balance ≡ o.size
    pub is : tape ≡ (front ++ (level rule o (is_price_of nat p) balance run).lines) ++ after
    pub nearer_fills : AllByRecursion (Priced (λ q. better q p ≡ true)) front
    pub farther_fills : AllByRecursion (Priced (λ q. better p q ≡ true)) after
    pub gone : 1 ≤ balance → AllByRecursion (Spent front) done

  -- what it did there
  record Did (balance : ℕ) (run : List Entry) (p : ℕ) (front : List Line) : Type 0 where
    pub served : Served sc p
    pub fair : EachAfter (FairLine sc) front (level rule o (is_price_of nat p) balance run).lines
    pub left : 1 ≤ (level rule o (is_price_of nat p) balance run).balance → AllByRecursion (Spent (front ++ (level rule o (is_price_of nat p) balance run).lines)) run

  come : (balance : ℕ) (done run rest : List Entry) (p : ℕ) (front after : List Line) → Coming balance done run rest p front after → Did balance run p front
  come balance done run rest p front after c =
      let s = other_side o.side in
      let told = level_told rule lawful o (is_price_of nat p) balance run c.ok (free_at sc p) (same_run done run rest p c.whole c.first c.priced c.beyond) in
      let start = map barred_line (filter (is_barred o.firm o.own_firm_mark) run) in
      let v : Visit sc p balance = record {
        five = told.five;
        front = front;
        start = start;
        back = after;
        tape = c.is ∙ (λ t. (front ++ told.lines t) ++ after);
        brings = c.brings;
        better = c.nearer_fills;
        none = All-map (Priced (λ q. ⊥)) barred_line (filter (is_barred o.firm o.own_firm_mark) run) (every (λ e. Unit {0}) (λ e. tt) (filter (is_barred o.firm o.own_firm_mark) run));
        worse = c.farther_fills;
      } in
      let parts = and_parts (in_cap o.side o.cap p) (not_better_away o.side away p) c.reach in
      let ok = at_tradable s balance c.ok.small es ranked sized few p free in
      let P : Entry → Type 0 = λ e. is_eligible sc e ≡ true → before sc p parts.0 parts.1 1 e ≡ true → NothingLeft front e in
      let ahead : 1 ≤ balance → Passed sc p parts.0 parts.1 front 1 = λ some.
      subst (AllByRecursion P) (sym c.whole)
      (All-append P done (run ++ rest) (All-weaker (Spent front) P (λ e h able b. h able) done (c.gone some))
      (All-append P run rest
      (All-weaker (λ e. e.price ≡ p) P (λ e h able b. absurd (both_ways (before sc p parts.0 parts.1 1 e) (level_test s e.price p (ltb (class_of e) 1) h ∙ class_above e.market (is_customer e.kind)) b)) run c.priced)
      (All-weaker (λ e. better p e.price ≡ true) P (λ e h able b. absurd (both_ways (before sc p parts.0 parts.1 1 e) (worse_test s e.price p (ltb (class_of e) 1) h) b)) rest c.beyond))) in
      record {
        served = visit_served sc p balance v;
        fair = subst (EachAfter (FairLine sc) front) (sym told.lines) (visit_fair sc p balance v parts.0 parts.1 ok.timed ahead);
        left = λ some.
            let passed = visit_passed sc p balance v parts.0 parts.1 ok.timed ahead (subst (λ n. 1 ≤ n) told.balance some) in
            let lines = lines_5 told.five start in
            let P : Entry → Type 0 = λ e. is_eligible sc e ≡ true → before sc p parts.0 parts.1 5 e ≡ true → NothingLeft (front ++ lines) e in
            let here : AllByRecursion P run = (all_split P run rest (all_split P done (run ++ rest) (subst (AllByRecursion P) c.whole passed)).1).0 in
            subst (λ l. AllByRecursion (Spent (front ++ l)) run) (sym told.lines)
            (all_both P (λ e. e.price ≡ p) (Spent (front ++ lines)) (λ e h same able. h able (level_test s e.price p (ltb (class_of e) 5) same ∙ class_below e.market (is_customer e.kind))) run here c.priced);
      }

  -- each price at which an order has nothing left to bring is served
  idle_all : (front back : List Line) → tape ≡ (front ++ []) ++ back → total traded_in front ≡ o.size → AllByRecursion (Priced (λ q. ⊥)) back → (fs : List Entry) → AllByRecursion (Priced (Beats fs)) front → AllByRecursion Serves fs
  idle_all front back is spent none [] h = tt
  idle_all front back is spent none (f ∷ fs) h =
      let q = f.price in (
        λ _. idle_served sc lawful q (at_tradable (other_side o.side) 0 (omega arith) es ranked sized few q free)
            (λ k.
            let e1 = better_earlier sc q k front (all_priced (Beats (f ∷ fs)) (λ p. better p q ≡ true) (λ p x. x.0) front h) in
            let e2 = worse_later sc q k back (all_priced (λ p. ⊥) (λ p. better q p ≡ true) (λ p x. absurd x) back none) in
            let all : total (earlier sc q k) tape ≡ o.size = ap (total (earlier sc q k)) (is ∙ ap (λ l. l ++ back) (append-nil front)) ∙ total_append (earlier sc q k) front back ∙ (λ t. e1 t + e2 t) ∙ omega (arith, spent) in
            ap (λ n. o.size - n) all ∙ omega arith),
        idle_all front back is spent none fs (all_priced (Beats (f ∷ fs)) (Beats fs) (λ p x. x.1) front h),
      )

  pub record Goes (front lines : List Line) (left : List Entry) : Type 0 where
    pub fair : EachAfter (FairLine sc) front lines
    pub served : AllByRecursion Serves left

  -- no price behind one out of reach is within reach
  out_of_reach : (p : ℕ) → in_reach o.side o.cap away p ≡ false → (e : Entry) → better p e.price ≡ true → Serves e
  out_of_reach p out e h able = absurd (both_ways (in_reach o.side o.cap away p) out (nearer o.side o.cap away p e.price h able))

  all_served : (p : ℕ) → Served sc p → (run : List Entry) → AllByRecursion (λ e. e.price ≡ p) run → AllByRecursion Serves run
  all_served p served run level = all_at (λ q. within_reach sc q ≡ true → Served sc q) p (λ _. served) run level

  -- the order goes on from entries at better prices
  -- Stays an induction of its own: it alone asks why the order stops, which decides whether the prices left are served; `walk_by` would
  -- have to hand that to all.
  pub walk_goes : (rs : List (List Entry)) (balance : ℕ) (done : List Entry) (front back : List Line) → BetterFirst (other_side o.side) rs → AllByRecursion (Tradable balance) rs → es ≡ done ++ flat rs → AllByRecursion (λ e. Beats (flat rs) e.price) done →
      tape ≡ (front ++ (walk rule o nat away balance rs).lines) ++ back → total traded_in front + balance ≡ o.size → AllByRecursion (Priced (Beats (flat rs))) front → AllByRecursion (Priced (λ q. ⊥)) back →
      (1 ≤ balance → AllByRecursion (Spent front) done) → Goes front (walk rule o nat away balance rs).lines (flat rs)
  unfolding walk
  walk_goes [] balance done front back st ok whole first is brings near none gone = record { fair = tt; served = tt }
  walk_goes ([] ∷ rs) balance done front back st ok whole first is brings near none gone = absurd st
  walk_goes ((e ∷ r) ∷ rs) balance done front back st ok whole first is brings near none gone =
      let p = e.price in
      let run = e ∷ r in
      let rest = flat rs in
      let here = level rule o (is_price_of nat p) balance run in
      let beyond = walk rule o nat away here.balance rs in
      let level_run : AllByRecursion (λ f. f.price ≡ p) run = (refl, st.0) in
      let pays = (one_price rule lawful o (is_price_of nat p) balance run ok.0).pays in
      let less = all_smaller here.balance balance (omega (arith, pays)) rs ok.1 in
      cond_both {A = Deal} (leb 1 balance && in_reach o.side o.cap away p) _ _ (λ d. tape ≡ (front ++ d.lines) ++ back → Goes front d.lines (run ++ rest))
      (λ go told.
      let able = and_parts (leb 1 balance) (in_reach o.side o.cap away p) go in
      let shifted : tape ≡ ((front ++ here.lines) ++ beyond.lines) ++ back = told ∙ ap (λ l. l ++ back) (sym (append_assoc front here.lines beyond.lines)) in
      let did = come balance done run rest p front (beyond.lines ++ back) (record {
        whole = whole;
        first = All-weaker (λ g. Beats (run ++ rest) g.price) (λ g. better g.price p ≡ true) (λ g h. h.0) done first;
        priced = level_run;
        beyond = st.1;
        ok = ok.0;
        reach = able.1;
        brings = brings;
        is = shifted ∙ append_assoc (front ++ here.lines) beyond.lines back;
        nearer_fills = all_priced (Beats (run ++ rest)) (λ q. better q p ≡ true) (λ q h. h.0) front near;
        farther_fills = All-append (Priced (λ q. better p q ≡ true)) beyond.lines back (walk_priced (λ q. better p q ≡ true) rule o nat away here.balance rs st.1) (all_priced (λ q. ⊥) (λ q. better p q ≡ true) (λ q h. absurd h) back none);
        gone = gone;
      }) in
      let behind : AllByRecursion (λ g. Beats rest g.price) run = all_at (Beats rest) p st.1 run level_run in
      let on = walk_goes rs here.balance (done ++ run) (front ++ here.lines) back st.2 less
      (whole ∙ sym (append_assoc done run rest))
      (All-append (λ g. Beats rest g.price) done run (All-weaker (λ g. Beats (run ++ rest) g.price) (λ g. Beats rest g.price) (λ g h. (all_split (λ f. better g.price f.price ≡ true) run rest h).1) done first) behind)
      shifted
      (omega (arith, pays, brings, total_append traded_in front here.lines))
      (All-append (Priced (Beats rest)) front here.lines (all_priced (Beats (run ++ rest)) (Beats rest) (λ q h. (all_split (λ f. better q f.price ≡ true) run rest h).1) front near) (level_priced (Beats rest) rule o (is_price_of nat p) balance run behind))
      none
      (λ some. All-append (Spent (front ++ here.lines)) done run
      (All-weaker (Spent front) (Spent (front ++ here.lines)) (λ g h able'. left_more front (front ++ here.lines) (part_front front here.lines) g (h able')) done (gone (omega (arith, pays))))
      (did.left some)) in
      record {
        fair = each_append (FairLine sc) front here.lines beyond.lines did.fair on.fair;
        served = All-append Serves run rest (all_served p did.served run level_run) on.served;
      })
      (λ stop told. record {
        fair = tt;
        served = ⊎_elim
            (λ zero'. idle_all front back told (omega (arith, leb-false 1 balance zero')) none (run ++ rest) near)
            (λ out. All-append Serves run rest
            (All-weaker (λ g. g.price ≡ p) Serves (λ g same able. absurd (both_ways (in_reach o.side o.cap away p) out (subst (λ q. within_reach sc q ≡ true) same able))) run level_run)
            (All-weaker (λ g. better p g.price ≡ true) Serves (out_of_reach p out) rest st.1))
            (and_cases (leb 1 balance) (in_reach o.side o.cap away p) stop);
      })
      is
