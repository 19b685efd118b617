-- How the fills of a tape are read. Assumes nothing.
use Rattle.std.proofs.Common.{◌≡◌, ℕ, ◌+◌, ◌≤◌, Bool, true, false, cond, ◌&&◌, ◌||◌, eqb, ltb, List, [], ◌∷◌, ◌++◌, map, length, sym, refl, ap, ◌∙◌, subst, arith}
use Rattle.std.specs.List.{AllZip, AllByRecursion}
use Rattle.std.proofs.ByRecursion.{All-weaker}
use Rattle.std.proofs.lemmas.List.{append-nil, append_assoc}
use Rattle.std.proofs.lemmas.Bool.{cond_both, cond-true, ltb-false, eq-eqb}
use Rattle.std.proofs.lemmas.Bool.Decides.{nat_tests}
use Rattle.sharing.specs.Totals.{total}
use Rattle.rules.specs.declared.tape.Line.{Line}
use Rattle.rules.specs.declared.tape.Line.TheVariants.{Fill, Cancel, Filled, Rest, Route}
use Rattle.rules.specs.declared.tape.Step.{Step}
use Rattle.rules.specs.declared.terms.Entry.{Entry}
use Rattle.rules.specs.declared.terms.Side.{Side}
use Rattle.rules.specs.declared.terms.Side.TheVariants.{Buy, Sell}
use Rattle.rules.specs.Laws.{traded_in}
use Rattle.rules.specs.Level.{size_of, fills}
use Rattle.rules.specs.Numbers.{step_number}
use Rattle.rules.specs.Sides.{other_side, is_better}
use Rattle.laws.specs.Accounts.{got}
use Rattle.laws.specs.Priority.{EachAfter, NothingLeft}
use Rattle.laws.specs.Scenes.{Scene, earlier}
use Rattle.laws.proofs.Lists.{cond_none, cond_plus}

-- a fill's price is as told; no other line has one
abbrev pub Priced : (ℕ → Type 0) → Line → Type 0
Priced Q (Fill id firm size price step) = Q price
Priced Q (Cancel id firm size cause) = Unit {0}
Priced Q (Filled id firm) = Unit {0}
Priced Q (Rest id firm size price) = Unit {0}
Priced Q (Route id firm size) = Unit {0}

pub priced_weaker : (P Q : ℕ → Type 0) → ((p : ℕ) → P p → Q p) → (l : Line) → Priced P l → Priced Q l
priced_weaker P Q f (Fill id firm size price step) h = f price h
priced_weaker P Q f (Cancel id firm size cause) h = tt
priced_weaker P Q f (Filled id firm) h = tt
priced_weaker P Q f (Rest id firm size price) h = tt
priced_weaker P Q f (Route id firm size) h = tt

pub all_priced : (P Q : ℕ → Type 0) → ((p : ℕ) → P p → Q p) → (ls : List Line) → AllByRecursion (Priced P) ls → AllByRecursion (Priced Q) ls
all_priced P Q f ls h = All-weaker (Priced P) (Priced Q) (priced_weaker P Q f) ls h

-- the fills of a round, where a test tells whether they count
pub read_fills : (g : Line → ℕ) (b : Bool) (k : Step) (ns : List ℕ) (cs : List Entry) → length ns ≡ length cs → AllByRecursion (λ e. (n : ℕ) → g (Fill e.id e.firm n e.price k) ≡ cond b n 0) cs → total g (fills k ns cs) ≡ cond b (total (λ n. n) ns) 0
read_fills g b k [] cs long h = sym (cond_none b)
read_fills g b k (n ∷ ns) [] long h = absurd (omega arith)
read_fills g b k (n ∷ ns) (e ∷ cs) long h =
    let more = read_fills g b k ns cs (omega arith) h.1 in
    cond_both (ltb 0 n) _ _ (λ l. total g l ≡ cond b (n + total (λ m. m) ns) 0)
    (λ _. (λ t. h.0 n t + more t) ∙ sym (cond_plus b n (total (λ m. m) ns)))
    (λ small. let none : n ≡ 0 = omega (arith, ltb-false 0 n small) in more ∙ ap (λ m. cond b m 0) (omega arith))

pub level_test : (s : Side) (q p : ℕ) (c : Bool) → q ≡ p → (is_better s q p || (eqb q p && c)) ≡ c
level_test Buy q p c same = grind (arith, nat_tests)
level_test Sell q p c same = grind (arith, nat_tests)

better_test : (s : Side) (q p : ℕ) (c : Bool) → is_better s q p ≡ true → (is_better s q p || (eqb q p && c)) ≡ true
better_test s q p c h = ap (λ b. b || (eqb q p && c)) h

pub worse_test : (s : Side) (q p : ℕ) (c : Bool) → is_better s p q ≡ true → (is_better s q p || (eqb q p && c)) ≡ false
worse_test Buy q p c h = grind (arith, nat_tests)
worse_test Sell q p c h = grind (arith, nat_tests)

module _ (sc : Scene) (p k : ℕ) where
  -- where each price tells alike whether its fills are earlier, all fills count or none
  read_priced : (b : Bool) (Q : ℕ → Type 0) → ((q : ℕ) (c : Bool) → Q q → (is_better (other_side sc.side) q p || (eqb q p && c)) ≡ b) → (ls : List Line) → AllByRecursion (Priced Q) ls → total (earlier sc p k) ls ≡ cond b (total traded_in ls) 0
  read_priced b Q test [] h = sym (cond_none b)
  read_priced b Q test (l ∷ ls) h = (λ t. one l h.0 t + read_priced b Q test ls h.1 t) ∙ sym (cond_plus b (traded_in l) (total traded_in ls))
    where
      one : (l : Line) → Priced Q l → earlier sc p k l ≡ cond b (traded_in l) 0
      one (Fill id firm size price step) h = ap (λ c. cond c size 0) (test price (ltb (step_number step) k) h)
      one (Cancel id firm size cause) h = sym (cond_none b)
      one (Filled id firm) h = sym (cond_none b)
      one (Rest id firm size price) h = sym (cond_none b)
      one (Route id firm size) h = sym (cond_none b)

  -- fills at a better price are all earlier, and those at a worse price are not
  pub better_earlier : (ls : List Line) → AllByRecursion (Priced (λ q. is_better (other_side sc.side) q p ≡ true)) ls → total (earlier sc p k) ls ≡ total traded_in ls
  better_earlier = read_priced true (λ q. is_better (other_side sc.side) q p ≡ true) (λ q c. better_test (other_side sc.side) q p c)

  pub worse_later : (ls : List Line) → AllByRecursion (Priced (λ q. is_better (other_side sc.side) p q ≡ true)) ls → total (earlier sc p k) ls ≡ 0
  worse_later = read_priced false (λ q. is_better (other_side sc.side) p q ≡ true) (λ q c. worse_test (other_side sc.side) q p c)

  pub earlier_fills : (j : Step) (ns : List ℕ) (cs : List Entry) → length ns ≡ length cs → AllByRecursion (λ e. e.price ≡ p) cs → total (earlier sc p k) (fills j ns cs) ≡ cond (ltb (step_number j) k) (total (λ n. n) ns) 0
  earlier_fills j ns cs long level =
      read_fills (earlier sc p k) (ltb (step_number j) k) j ns cs long
      (All-weaker (λ e. e.price ≡ p) (λ e. (n : ℕ) → earlier sc p k (Fill e.id e.firm n e.price j) ≡ cond (ltb (step_number j) k) n 0)
      (λ e same n. ap (λ c. cond c n 0) (level_test (other_side sc.side) e.price p (ltb (step_number j) k) same)) cs level)

-- each entry of a round gets its number at least
pub each_gets : (k : Step) (tape : List Line) (ns : List ℕ) (cs : List Entry) → length ns ≡ length cs → ((i : ℕ) → total (got i) (fills k ns cs) ≤ total (got i) tape) → AllZip ◌≤◌ ns (map (λ e. total (got e.id) tape) cs)
each_gets k tape [] [] long part = tt
each_gets k tape [] (e ∷ cs) long part = absurd (omega arith)
each_gets k tape (n ∷ ns) [] long part = absurd (omega arith)
each_gets k tape (n ∷ ns) (e ∷ cs) long part = (
  cond_both (ltb 0 n) _ _ (λ l. ((i : ℕ) → total (got i) l ≤ total (got i) tape) → n ≤ total (got e.id) tape)
      (λ _ h. let own = cond-true (eqb e.id e.id) n 0 (eq-eqb e.id e.id refl) in omega (arith, h e.id, own))
      (λ small _. omega (arith, ltb-false 0 n small))
      part,
  each_gets k tape ns cs (omega arith) (λ i.
      cond_both (ltb 0 n) _ _ (λ l. total (got i) l ≤ total (got i) tape → total (got i) (fills k ns cs) ≤ total (got i) tape)
      (λ _ h. omega arith) (λ _ h. h) (part i)),
)

pub each_to_all : (f g : Entry → ℕ) (cs : List Entry) → AllZip ◌≤◌ (map f cs) (map g cs) → AllByRecursion (λ e. f e ≤ g e) cs
each_to_all f g [] le = tt
each_to_all f g (e ∷ cs) le = (le.0, each_to_all f g cs le.1)

-- a round that gives each entry its whole size leaves nothing of it
pub whole_gone : (k : Step) (tape : List Line) (ns : List ℕ) (cs : List Entry) → length ns ≡ length cs → ns ≡ map size_of cs → ((i : ℕ) → total (got i) (fills k ns cs) ≤ total (got i) tape) → AllByRecursion (NothingLeft tape) cs
whole_gone k tape ns cs long full part = each_to_all size_of (λ e. total (got e.id) tape) cs (subst (λ ms. AllZip ◌≤◌ ms (map (λ e. total (got e.id) tape) cs)) full (each_gets k tape ns cs long part))

-- each line of two tapes, one after the other
pub each_append : (P : List Line → Line → Type 0) (front xs ys : List Line) → EachAfter P front xs → EachAfter P (front ++ xs) ys → EachAfter P front (xs ++ ys)
each_append P front [] ys h k = subst (λ l. EachAfter P l ys) (append-nil front) k
each_append P front (x ∷ xs) ys h k = (h.0, each_append P (front ++ x ∷ []) xs ys h.1 (subst (λ l. EachAfter P l ys) (sym (append_assoc front (x ∷ []) xs)) k))
