-- What stands under an id on a list, and what goes with it. Assumes nothing.
use Rattle.std.proofs.Common.{◌≡◌, ℕ, ◌+◌, ◌≤◌, Bool, false, cond, not, eqb, List, [], ◌∷◌, is_some, Some, filter, sym, refl, ap, subst, inl, inr, ⊎_elim, arith}
use Rattle.std.specs.List.{AllByRecursion}
use Rattle.std.proofs.ByRecursion.{All-weaker}
use Rattle.std.proofs.lemmas.Bool.Decides.{nat_tests}
use Rattle.std.proofs.lemmas.Bool.{false≢true, cases_Bool, eq-eqb}
use Rattle.sharing.specs.Totals.{one_if, total, count}
use Rattle.rules.specs.declared.terms.Entry.{Entry}
use Rattle.rules.specs.Laws.{holding}
use Rattle.rules.specs.Level.{size_of}
use Rattle.rules.specs.Outcome.{found_in}
use Rattle.rules.proofs.CallsKeep.{found_head}
use Rattle.laws.specs.Priority.{Among}
use Rattle.laws.proofs.Lists.{total_none}

module _ {X : Type 0} (id size : X → ℕ) where
  -- what the elements with an id have
  abbrev pub having : ℕ → List X → ℕ
  having i xs = total (λ x. cond (eqb (id x) i) (size x) 0) xs

  -- the one with an id has all that is there under it
  pub found_having : (i : ℕ) (xs : List X) (y : X) → found_in id i xs ≡ Some y → count (λ x. eqb (id x) i) xs ≤ 1 → having i xs ≡ size y
  found_having i [] y found once = absurd (false≢true (ap is_some found))
  found_having i (x ∷ xs) y found once =
      ⊎_elim
      (λ here. let one = ap one_if here.0 in omega (arith, ap (λ b. cond b (size x) 0) here.0, total_none (λ y. eqb (id y) i) size xs (omega arith), ap size here.1))
      (λ else. let none = ap one_if else.0 in omega (arith, ap (λ b. cond b (size x) 0) else.0, found_having i xs y else.1 (omega arith)))
      (found_head id i x xs y found)

  -- those with another id keep what they have
  pub removed_having : (i j : ℕ) (xs : List X) → having i (filter (λ x. not (eqb (id x) j)) xs) + cond (eqb j i) (having i xs) 0 ≡ having i xs
  removed_having i j [] = grind (arith, nat_tests)
  removed_having i j (x ∷ xs) = grind (arith, nat_tests, removed_having i j xs)

-- those without an id
pub others_differ : {X : Type 0} (id : X → ℕ) (i : ℕ) (xs : List X) → count (λ x. eqb (id x) i) xs ≡ 0 → AllByRecursion (λ x. eqb i (id x) ≡ false) xs
others_differ id i [] none = tt
others_differ id i (x ∷ xs) none = (grind (arith, nat_tests), others_differ id i xs (omega arith))

-- where nobody has an id, nothing is held under it
pub none_held : (i : ℕ) (es : List Entry) → count (λ e. eqb e.id i) es ≡ 0 → holding i es ≡ 0
none_held i es none = total_none (λ e. eqb e.id i) size_of es none

-- each of some entries is one of them
pub all_among : (es : List Entry) → AllByRecursion (λ e. Among e es) es
all_among [] = tt
all_among (e ∷ es) = (inl refl, All-weaker (λ f. Among f es) (λ f. Among f (e ∷ es)) (λ f h. inr h) es (all_among es))

-- and what holds of each of them holds of one among them
pub among_all : (P : Entry → Type 0) (e : Entry) (es : List Entry) → AllByRecursion P es → Among e es → P e
among_all P e [] ps h = absurd h
among_all P e (f ∷ fs) ps (inl same) = subst P (sym same) ps.0
among_all P e (f ∷ fs) ps (inr h) = among_all P e fs ps.1 h

-- entries with the id of one that stands there
abbrev pub alike : Entry → Entry → Bool
alike e f = eqb f.id e.id

pub counted : (e : Entry) (es : List Entry) → Among e es → 1 ≤ count (alike e) es
counted e [] h = absurd h
counted e (f ∷ fs) (inl same) = omega (arith, ap one_if (eq-eqb f.id e.id (ap (λ (x : Entry). x.id) (sym same))))
counted e (f ∷ fs) (inr h) = omega (arith, counted e fs h)

-- where ids are unique, what stands with an entry's id is its size
pub own_holding : (e : Entry) (es : List Entry) → Among e es → count (alike e) es ≤ 1 → holding e.id es ≡ e.size
own_holding e [] h unique = absurd h
own_holding e (f ∷ fs) (inl same) unique =
    let here = eq-eqb f.id e.id (ap (λ (x : Entry). x.id) (sym same)) in
    omega (arith, ap one_if here, ap (λ b. cond b f.size 0) here, ap (λ (x : Entry). x.size) same, none_held e.id fs (omega (arith, ap one_if here)))
own_holding e (f ∷ fs) (inr h) unique =
    ⊎_elim
    (λ here. absurd (omega (arith, ap one_if here, counted e fs h)))
    (λ out. omega (arith, ap (λ b. cond b f.size 0) out, own_holding e fs h (omega arith)))
    (cases_Bool (eqb f.id e.id))
