-- Fills in a round are fair where those ahead have nothing left. Assumes nothing.
use Rattle.std.proofs.Common.{◌≡◌, ℕ, ◌-◌, ◌<◌, ◌≤◌, min, Bool, true, false, cond, ◌&&◌, ◌||◌, eqb, ltb, ◌⊎◌, List, [], ◌∷◌, ◌++◌, map, filter, sym, refl, ap, ◌∙◌, subst, inl, inr, ⊎_elim, arith}
use Rattle.std.specs.List.{AllByRecursion}
use Rattle.std.proofs.ByRecursion.{All-weaker}
use Rattle.std.proofs.lemmas.Bool.Decides.{nat_tests}
use Rattle.std.proofs.lemmas.Bool.{cases_Bool, false≢true, cond_both, cond-true, eq-eqb, ltb-true, ltb-false}
use Rattle.sharing.specs.Claims.{Ascending}
use Rattle.sharing.specs.Rules.{in_turn}
use Rattle.sharing.specs.Totals.{total}
use Rattle.sharing.specs.Allotted.{total_append}
use Rattle.rules.specs.declared.tape.Line.{Line}
use Rattle.rules.specs.declared.tape.Line.TheVariants.{Fill}
use Rattle.rules.specs.declared.tape.Step.{Step}
use Rattle.rules.specs.declared.terms.Entry.{Entry}
use Rattle.rules.specs.declared.terms.Side.{Side}
use Rattle.rules.specs.Level.{claim_of, fills, in_class}
use Rattle.rules.specs.Prices.{in_cap, not_better_away}
use Rattle.rules.specs.Ranks.{class_of}
use Rattle.rules.specs.Sides.{other_side, is_better}
use Rattle.laws.specs.Accounts.{got}
use Rattle.laws.specs.Priority.{Among, goes_by_time, is_ahead, NothingLeft, FairFill, FairLine, EachAfter}
use Rattle.laws.specs.Scenes.{Scene, is_eligible, step_of}
use Rattle.laws.proofs.Lists.{all_both, every}

-- what holds of those kept holds of each that passes
pub kept_back : {X : Type 0} (P : X → Type 0) (test : X → Bool) (xs : List X) → AllByRecursion P (filter test xs) → AllByRecursion (λ x. test x ≡ true → P x) xs
kept_back P test [] ps = tt
kept_back P test (x ∷ xs) ps =
    elim (test x) as (λ b. AllByRecursion P (cond b (x ∷ filter test xs) (filter test xs)) → (b ≡ true → P x) × AllByRecursion (λ y. test y ≡ true → P y) xs) [
      | true ↦ λ h. (λ _. h.0, kept_back P test xs h.1)
      | false ↦ λ h. (λ never. absurd (false≢true never), kept_back P test xs h)
    ] ps

-- more lines take no less
abbrev pub Part : List Line → List Line → Type 0
Part xs ys = (i : ℕ) → total (got i) xs ≤ total (got i) ys

pub part_front : (xs ys : List Line) → Part xs (xs ++ ys)
part_front xs ys i = omega (arith, total_append (got i) xs ys)

pub part_back : (xs ys : List Line) → Part ys (xs ++ ys)
part_back xs ys i = omega (arith, total_append (got i) xs ys)

pub part_trans : (xs ys zs : List Line) → Part xs ys → Part ys zs → Part xs zs
part_trans xs ys zs h k i = omega (arith, h i, k i)

pub part_inside : (front xs ys : List Line) → Part xs ys → Part (front ++ xs) (front ++ ys)
part_inside front xs ys h i = omega (arith, h i, total_append (got i) front xs, total_append (got i) front ys)

pub left_more : (xs ys : List Line) → Part xs ys → (e : Entry) → NothingLeft xs e → NothingLeft ys e
left_more xs ys part e h = omega (arith, h, part e.id)

-- an entry ahead by price, by class, or in its class by time
ahead_before : (s : Side) (ep fp p ce cf te tf : ℕ) (by_time : Bool) → fp ≡ p → (is_better s ep fp || (eqb ep fp && (ltb ce cf || (eqb ce cf && (by_time && ltb te tf))))) ≡ true →
    ((is_better s ep p || (eqb ep p && ltb ce cf)) ≡ true) ⊎ ((ep ≡ p) × (ce ≡ cf) × (by_time ≡ true) × (te < tf))
ahead_before s ep fp p ce cf te tf by_time same h =
    let here = subst (λ q. (is_better s ep q || (eqb ep q && (ltb ce cf || (eqb ce cf && (by_time && ltb te tf))))) ≡ true) same h in
    ⊎_elim inl (λ out. inr (grind (arith, nat_tests, here, out), grind (arith, nat_tests, here, out), grind (arith, nat_tests, here, out), grind (arith, nat_tests, here, out))) (cases_Bool (is_better s ep p || (eqb ep p && ltb ce cf)))

module _ (sc : Scene) where
  pub fair_more : (xs ys : List Line) → Part xs ys → (id firm n m price : ℕ) (k : Step) → FairFill sc xs id firm n price k → FairFill sc ys id firm m price k
  fair_more xs ys part id firm n m price k h = record {
    entry = h.entry;
    stands = h.stands;
    named = h.named;
    firms = h.firms;
    priced = h.priced;
    stepped = h.stepped;
    capped = h.capped;
    nearest = h.nearest;
    turn = All-weaker (λ e. is_ahead (other_side sc.side) e h.entry ≡ true → is_eligible sc e ≡ true → NothingLeft xs e) (λ e. is_ahead (other_side sc.side) e h.entry ≡ true → is_eligible sc e ≡ true → NothingLeft ys e)
        (λ e f ahead able. left_more xs ys part e (f ahead able)) sc.standing h.turn;
  }

  abbrev pub Fair : List Line → Step → Entry → Type 0
  Fair lines k f = FairFill sc lines f.id f.firm 0 f.price k

  -- a shared round
  pub shared_fair : (k : Step) (front : List Line) (ns : List ℕ) (cs : List Entry) → (1 ≤ total (λ n. n) ns → AllByRecursion (Fair front k) cs) → EachAfter (FairLine sc) front (fills k ns cs)
  shared_fair k front [] cs h = tt
  shared_fair k front (n ∷ ns) [] h = tt
  shared_fair k front (n ∷ ns) (f ∷ cs) h =
      cond_both (ltb 0 n) _ _ (EachAfter (FairLine sc) front)
      (λ some.
      let fill = Fill f.id f.firm n f.price k ∷ [] in
      let fair = h (omega (arith, ltb-true 0 n some)) in (
        fair_more front front (λ i. omega arith) f.id f.firm 0 n f.price k fair.0,
        shared_fair k (front ++ fill) ns cs (λ _. All-weaker (Fair front k) (Fair (front ++ fill) k) (λ g x. fair_more front (front ++ fill) (part_front front fill) g.id g.firm 0 0 g.price k x) cs fair.1),
      ))
      (λ _. shared_fair k front ns cs (λ some. (h (omega arith)).1))

  module _ (p : ℕ) (capped : in_cap sc.side sc.cap p ≡ true) (nearest : not_better_away sc.side sc.away p ≡ true) where
    -- at a better price, or at this price in a lower class
    abbrev pub before : ℕ → Entry → Bool
    before c e = is_better (other_side sc.side) e.price p || (eqb e.price p && ltb (class_of e) c)

    abbrev pub Passed : List Line → ℕ → Type 0
    Passed lines c = AllByRecursion (λ e. is_eligible sc e ≡ true → before c e ≡ true → NothingLeft lines e) sc.standing

    pub passed_more : (xs ys : List Line) → Part xs ys → (c : ℕ) → Passed xs c → Passed ys c
    passed_more xs ys part c h = All-weaker (λ e. is_eligible sc e ≡ true → before c e ≡ true → NothingLeft xs e) (λ e. is_eligible sc e ≡ true → before c e ≡ true → NothingLeft ys e) (λ e f able b. left_more xs ys part e (f able b)) sc.standing h

    -- an entry that claims in a step, of a class, at this price
    pub record Claims (k : Step) (c : ℕ) (f : Entry) : Type 0 where
      pub stands : Among f sc.standing
      pub stepped : step_of sc f ≡ k
      pub priced : f.price ≡ p
      pub classed : class_of f ≡ c

    fair_from : (lines : List Line) (k : Step) (c : ℕ) (f : Entry) → Claims k c f → Passed lines c → (AllByRecursion (λ e. is_eligible sc e ≡ true → e.price ≡ p → class_of e ≡ c → goes_by_time c ≡ true → e.time < f.time → NothingLeft lines e) sc.standing) → Fair lines k f
    fair_from lines k c f at passed in_class = record {
      entry = f;
      stands = at.stands;
      named = refl;
      firms = refl;
      priced = refl;
      stepped = at.stepped;
      capped = subst (λ q. in_cap sc.side sc.cap q ≡ true) (sym at.priced) capped;
      nearest = subst (λ q. not_better_away sc.side sc.away q ≡ true) (sym at.priced) nearest;
      turn = all_both (λ e. is_eligible sc e ≡ true → before c e ≡ true → NothingLeft lines e)
          (λ e. is_eligible sc e ≡ true → e.price ≡ p → class_of e ≡ c → goes_by_time c ≡ true → e.time < f.time → NothingLeft lines e)
          (λ e. is_ahead (other_side sc.side) e f ≡ true → is_eligible sc e ≡ true → NothingLeft lines e)
          (λ e earlier level ahead able.
          ⊎_elim
          (λ b. earlier able (subst (λ d. (is_better (other_side sc.side) e.price p || (eqb e.price p && ltb (class_of e) d)) ≡ true) at.classed b))
          (λ x. level able x.0 (x.1 ∙ at.classed) (subst (λ d. goes_by_time d ≡ true) (x.1 ∙ at.classed) x.2) x.3)
          (ahead_before (other_side sc.side) e.price f.price p (class_of e) (class_of f) e.time f.time (goes_by_time (class_of e)) at.priced ahead))
          sc.standing passed in_class;
    }

    pub round_fair : (k : Step) (c : ℕ) → goes_by_time c ≡ false → (front : List Line) (ns : List ℕ) (cs : List Entry) → AllByRecursion (Claims k c) cs → (1 ≤ total (λ n. n) ns → Passed front c) → EachAfter (FairLine sc) front (fills k ns cs)
    round_fair k c shares front ns cs claims passed =
        shared_fair k front ns cs (λ some. All-weaker (Claims k c) (Fair front k) (λ f at. fair_from front k c f at (passed some)
        (every (λ e. is_eligible sc e ≡ true → e.price ≡ p → class_of e ≡ c → goes_by_time c ≡ true → e.time < f.time → NothingLeft front e) (λ e able same class goes lt. absurd (false≢true (sym shares ∙ goes))) sc.standing)) cs claims)

    -- the entries of a class that have something left are still to come
    abbrev pub ToCome : List Line → ℕ → List Entry → Type 0
    ToCome lines c cs = AllByRecursion (λ e. is_eligible sc e ≡ true → e.price ≡ p → class_of e ≡ c → NothingLeft lines e ⊎ Among e cs) sc.standing

    -- a round by time
    pub turn_fair : (k : Step) (c : ℕ) (amount : ℕ) (front : List Line) (cs : List Entry) → Ascending (map claim_of cs) → AllByRecursion (Claims k c) cs → (1 ≤ amount → Passed front c) → (1 ≤ amount → ToCome front c cs) → EachAfter (FairLine sc) front (fills k (in_turn amount (map claim_of cs)) cs)
    turn_fair k c amount front [] up claims passed come = tt
    turn_fair k c amount front (f ∷ cs) up claims passed come =
        let n = min f.size amount in
        let fill = Fill f.id f.firm n f.price k ∷ [] in
        cond_both (ltb 0 n) _ _ (EachAfter (FairLine sc) front)
        (λ some.
        let positive : 1 ≤ amount = omega (arith, ltb-true 0 n some) in (
          fair_more front front (λ i. omega arith) f.id f.firm 0 n f.price k (fair_from front k c f claims.0 (passed positive)
              (All-weaker (λ e. is_eligible sc e ≡ true → e.price ≡ p → class_of e ≡ c → NothingLeft front e ⊎ Among e (f ∷ cs))
              (λ e. is_eligible sc e ≡ true → e.price ≡ p → class_of e ≡ c → goes_by_time c ≡ true → e.time < f.time → NothingLeft front e)
              (λ e h able same class goes lt. ⊎_elim (λ gone. gone) (λ among. absurd (later f cs up.0 e among lt)) (h able same class))
              sc.standing (come positive))),
          turn_fair k c (amount - f.size) (front ++ fill) cs up.1 claims.1
              (λ more. passed_more front (front ++ fill) (part_front front fill) c (passed positive))
              (λ more. still (front ++ fill) (part_front front fill) (own front f n k (omega arith)) (come positive)),
        ))
        (λ none.
        let nothing = ltb-false 0 n none in
        turn_fair k c (amount - f.size) front cs up.1 claims.1 (λ more. passed (omega arith)) (λ more. still front (λ i. omega arith) (omega arith) (come (omega arith))))
      where
        later : (f : Entry) (cs : List Entry) → AllByRecursion (λ d. f.time < d.time) (map claim_of cs) → (e : Entry) → Among e (f ∷ cs) → e.time < f.time → ⊥
        later f cs up e (inl same) lt = omega (arith, ap (λ (x : Entry). x.time) same)
        later f [] up e (inr among) lt = absurd among
        later f (g ∷ cs) up e (inr (inl same)) lt = omega (arith, ap (λ (x : Entry). x.time) same, up.0)
        later f (g ∷ cs) up e (inr (inr among)) lt = later f cs up.1 e (inr among) lt

        own : (front : List Line) (f : Entry) (n : ℕ) (k : Step) → f.size ≤ n → NothingLeft (front ++ Fill f.id f.firm n f.price k ∷ []) f
        own front f n k le =
            let mine = cond-true (eqb f.id f.id) n 0 (eq-eqb f.id f.id refl) in
            omega (arith, total_append (got f.id) front (Fill f.id f.firm n f.price k ∷ []), mine)

        still : (after : List Line) → Part front after → NothingLeft after f → ToCome front c (f ∷ cs) → ToCome after c cs
        still after part gone h =
            All-weaker (λ e. is_eligible sc e ≡ true → e.price ≡ p → class_of e ≡ c → NothingLeft front e ⊎ Among e (f ∷ cs))
            (λ e. is_eligible sc e ≡ true → e.price ≡ p → class_of e ≡ c → NothingLeft after e ⊎ Among e cs)
            (λ e g able same class. ⊎_elim (λ was. inl (left_more front after part e was)) (⊎_elim (λ is. inl (subst (NothingLeft after) (sym is) gone)) (λ among. inr among)) (g able same class))
            sc.standing h
