-- Small facts on lists and numbers. Assumes nothing.
use Rattle.std.proofs.Common.{◌≡◌, ℕ, ◌+◌, Bool, cond, List, [], ◌∷◌, ◌++◌, refl, arith}
use Rattle.std.specs.List.{AllByRecursion}
use Rattle.std.proofs.lemmas.Bool.Decides.{nat_tests}
use Rattle.sharing.specs.Totals.{total, count}
use Rattle.sharing.specs.ToppedUp.{total_same}
pub use Rattle.ranked.proofs.Lists.{all_both}

pub all_and : {X : Type 0} (P Q : X → Type 0) (xs : List X) → AllByRecursion P xs → AllByRecursion Q xs → AllByRecursion (λ x. P x × Q x) xs
all_and P Q xs ps qs = all_both P Q (λ x. P x × Q x) (λ x p q. (p, q)) xs ps qs

-- what holds of everything
pub every : {X : Type 0} (P : X → Type 0) → ((x : X) → P x) → (xs : List X) → AllByRecursion P xs
every P p [] = tt
every P p (x ∷ xs) = (p x, every P p xs)

-- what holds of two lists, one behind the other
pub all_split : {X : Type 0} (P : X → Type 0) (xs ys : List X) → AllByRecursion P (xs ++ ys) → AllByRecursion P xs × AllByRecursion P ys
all_split P [] ys h = (tt, h)
all_split P (x ∷ xs) ys h = let more = all_split P xs ys h.1 in ((h.0, more.0), more.1)

-- where none passes, nothing adds up
pub total_none : {X : Type 0} (p : X → Bool) (f : X → ℕ) (xs : List X) → count p xs ≡ 0 → total (λ x. cond (p x) (f x) 0) xs ≡ 0
total_none p f [] none = refl
total_none p f (x ∷ xs) none = grind (arith, nat_tests, total_none p f xs)

pub total_each : {X : Type 0} (f g : X → ℕ) → ((x : X) → f x ≡ g x) → (xs : List X) → total f xs ≡ total g xs
total_each f g same xs = total_same f g xs (every (λ x. f x ≡ g x) same xs)

pub cond_none : (b : Bool) → cond {A = ℕ} b 0 0 ≡ 0
cond_none b = grind (arith, nat_tests)

pub cond_plus : (b : Bool) (m n : ℕ) → cond b (m + n) 0 ≡ cond b m 0 + cond b n 0
cond_plus b m n = grind (arith, nat_tests)
