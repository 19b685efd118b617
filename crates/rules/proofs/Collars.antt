-- The rulebook's bands, its 25% and its rounding never alter a collar. Assumes nothing.
use Rattle.std.proofs.Common.{◌≡◌, ℕ, ◌+◌, ◌-◌, ◌*◌, ◌/◌, ◌%◌, ◌≤◌, min, true, ◌||◌, eqb, Option, sym, ap, ◌∙◌, subst, ⊎_elim, arith}
use Rattle.std.proofs.lemmas.Bool.{eqb-true, or_cases}
use Rattle.std.proofs.lemmas.Bool.Decides.{nat_tests}
use Rattle.rules.specs.declared.terms.Side.{Side}
use Rattle.rules.specs.declared.terms.Side.TheVariants.{Buy, Sell}
use Rattle.rules.specs.Caps.{collar_amount, collar_of}
use Rattle.rules.specs.Prices.{is_tick, is_price}
use Rattle.rules.specs.Rulebook.{band_amount, rounded_down, rulebook_collar}

-- 25% of the reference is never the lesser where the rulebook asks for it
band_is : (r : ℕ) → band_amount r ≡ 4 * collar_amount r
band_is r = grind (arith, nat_tests)

-- the distance is a multiple of ten cents
pub tens : (r : ℕ) → collar_amount r % 10 ≡ 0
tens r = grind (arith, nat_tests)

pub in_tens : (r : ℕ) → (k : ℕ) × (collar_amount r ≡ 10 * k)
in_tens r = (collar_amount r / 10, omega (arith, tens r))

-- what holds of each tick there is holds of every valid one
pub at_tick : (P : ℕ → Type 0) → P 1 → P 5 → P 10 → (tick : ℕ) → is_tick tick ≡ true → P tick
at_tick P one five ten tick valid =
    ⊎_elim (λ h. subst P (sym (eqb-true tick 1 h)) one) (λ more. ⊎_elim (λ h. subst P (sym (eqb-true tick 5 h)) five) (λ h. subst P (sym (eqb-true tick 10 h)) ten) (or_cases (eqb tick 5) (eqb tick 10) more))
    (or_cases (eqb tick 1) (eqb tick 5 || eqb tick 10) valid)

-- a price moved by a multiple of ten cents is a multiple of the tick, and rounding leaves it
rounded_above : (r n : ℕ) → n % 10 ≡ 0 → (tick : ℕ) → is_tick tick ≡ true → is_price tick r ≡ true → rounded_down tick (4 * (r + n)) ≡ r + n
rounded_above r n tens = at_tick (λ t. is_price t r ≡ true → rounded_down t (4 * (r + n)) ≡ r + n) (λ p. grind (arith, nat_tests)) (λ p. grind (arith, nat_tests)) (λ p. grind (arith, nat_tests))

rounded_below : (r n : ℕ) → n % 10 ≡ 0 → n ≤ r → (tick : ℕ) → is_tick tick ≡ true → is_price tick r ≡ true → rounded_down tick (4 * (r - n)) ≡ r - n
rounded_below r n tens le = at_tick (λ t. is_price t r ≡ true → rounded_down t (4 * (r - n)) ≡ r - n) (λ p. grind (arith, nat_tests)) (λ p. grind (arith, nat_tests)) (λ p. grind (arith, nat_tests))

module _ (tick r : ℕ) (valid : is_tick tick ≡ true) (price : is_price tick r ≡ true) where
  rounds_above : rounded_down tick (4 * r + band_amount r) ≡ r + collar_amount r
  rounds_above =
      let whole : 4 * r + band_amount r ≡ 4 * (r + collar_amount r) = omega (arith, band_is r) in
      ap (rounded_down tick) whole ∙ rounded_above r (collar_amount r) (tens r) tick valid price

  rounds_below : collar_amount r ≤ r → rounded_down tick (4 * r - band_amount r) ≡ r - collar_amount r
  rounds_below le =
      let whole : 4 * r - band_amount r ≡ 4 * (r - collar_amount r) = omega (arith, band_is r) in
      ap (rounded_down tick) whole ∙ rounded_below r (collar_amount r) (tens r) le tick valid price

-- the theorem: for every valid tick and reference the rulebook's own computation gives this collar
pub rulebook_gives : (s : Side) (tick : ℕ) (limit : Option ℕ) (r : ℕ) → is_tick tick ≡ true → is_price tick r ≡ true → collar_of s tick limit r ≡ rulebook_collar s tick limit r
rulebook_gives Buy tick limit r valid price = ap (min 1000000) (sym (rounds_above tick r valid price))
rulebook_gives Sell tick limit r valid price = grind (arith, nat_tests, band_is r, rounds_below tick r valid price)
