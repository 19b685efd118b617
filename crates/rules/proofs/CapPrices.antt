-- A cap is a price. Assumes nothing.
use Rattle.std.proofs.Common.{◌≡◌, ℕ, ◌+◌, ◌-◌, ◌%◌, ◌≤◌, min, Bool, true, false, cond, not, leb, List, [], ◌∷◌, is_some, Some, None, Option, unwrap_or, refl, ap, arith}
use Rattle.std.specs.List.{AllByRecursion}
use Rattle.std.proofs.lemmas.Bool.Decides.{nat_tests}
use Rattle.std.proofs.lemmas.Bool.{false≢true, true≢false, leb-true, not-false, cond_both}
use Rattle.rules.specs.declared.terms.Entry.{Entry}
use Rattle.rules.specs.declared.terms.Side.{Side}
use Rattle.rules.specs.declared.terms.Side.TheVariants.{Buy, Sell}
use Rattle.rules.specs.Caps.{collar_amount, collar_of, cap_at}
use Rattle.rules.specs.Model.{Counters, best}
use Rattle.rules.specs.Outcome.{bad_price}
use Rattle.rules.specs.Prices.{is_tick, is_price, national}
use Rattle.rules.specs.Sides.{is_better}
use Rattle.rules.specs.Sound.{GoodEntry}
use Rattle.rules.proofs.Collars.{tens, at_tick}

-- a price that is moved by a multiple of ten cents, and stays in range, is a price
buyer_price : (r n : ℕ) → n % 10 ≡ 0 → (tick : ℕ) → is_tick tick ≡ true → is_price tick r ≡ true → is_price tick (min 1000000 (r + n)) ≡ true
buyer_price r n tens = at_tick (λ t. is_price t r ≡ true → is_price t (min 1000000 (r + n)) ≡ true) (λ p. grind (arith, nat_tests)) (λ p. grind (arith, nat_tests)) (λ p. grind (arith, nat_tests))

seller_price : (r n : ℕ) → n % 10 ≡ 0 → (tick : ℕ) → is_tick tick ≡ true → is_price tick r ≡ true → n + tick ≤ r → is_price tick (r - n) ≡ true
seller_price r n tens = at_tick (λ t. is_price t r ≡ true → n + t ≤ r → is_price t (r - n) ≡ true) (λ p le. grind (arith, nat_tests)) (λ p le. grind (arith, nat_tests)) (λ p le. grind (arith, nat_tests))

module _ (tick : ℕ) (valid : is_tick tick ≡ true) where
  tick_price : is_price tick tick ≡ true
  tick_price = at_tick (λ t. is_price t t ≡ true) refl refl refl tick valid

  or_tick : (limit : Option ℕ) → bad_price tick limit ≡ false → is_price tick (unwrap_or limit tick) ≡ true
  or_tick None h = tick_price
  or_tick (Some p) h = not-false (is_price tick p) h

  collar_price : (s : Side) (limit : Option ℕ) (r : ℕ) → is_price tick r ≡ true → bad_price tick limit ≡ false → is_price tick (collar_of s tick limit r) ≡ true
  collar_price Buy limit r price good = buyer_price r (collar_amount r) (tens r) tick valid price
  collar_price Sell limit r price good =
      cond_both (leb (collar_amount r + tick) r) (r - collar_amount r) (unwrap_or limit tick) (λ p. is_price tick p ≡ true)
      (λ yes. seller_price r (collar_amount r) (tens r) tick valid price (leb-true (collar_amount r + tick) r yes))
      (λ _. or_tick limit good)

  pub cap_price : (s : Side) (p reference : Option ℕ) (b : Bool) → (is_some p ≡ false → b ≡ false) → (is_some p ≡ false → is_some reference ≡ true) → bad_price tick p ≡ false → bad_price tick reference ≡ false → is_price tick (unwrap_or (cond b p (cap_at s tick p reference)) 0) ≡ true
  cap_price s None reference true limit known good far = absurd (true≢false (limit refl))
  cap_price s None None false limit known good far = absurd (false≢true (known refl))
  cap_price s None (Some r) false limit known good far = collar_price s None r (not-false (is_price tick r) far) refl
  cap_price s (Some p) reference true limit known good far = not-false (is_price tick p) good
  cap_price s (Some p) None false limit known good far = not-false (is_price tick p) good
  cap_price s (Some p) (Some r) false limit known good far =
      cond_both (is_better s p (collar_of s tick (Some p) r)) (collar_of s tick (Some p) r) p (λ q. is_price tick q ≡ true)
      (λ _. collar_price s (Some p) r (not-false (is_price tick r) far) good)
      (λ _. not-false (is_price tick p) good)

pub national_price : (tick : ℕ) (s : Side) (b a : Option ℕ) → bad_price tick b ≡ false → bad_price tick a ≡ false → bad_price tick (national s b a) ≡ false
national_price tick s None a here there = there
national_price tick s (Some p) None here there = here
national_price tick s (Some p) (Some q) here there = grind (arith, nat_tests, here, there)

pub best_price : (tick : ℕ) (n : Counters) (es : List Entry) → AllByRecursion (GoodEntry tick n) es → bad_price tick (best es) ≡ false
best_price tick n [] good = refl
best_price tick n (e ∷ es) good = ap not good.0.price
