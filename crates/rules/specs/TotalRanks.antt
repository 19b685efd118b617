-- Two ranks of which neither precedes are one: why the rank of entries is a total order. Assumes nothing.
use Rattle.std.specs.Prelude.{◌≡◌, ℕ, false}
use Rattle.std.proofs.Common.{arith}
use Rattle.std.proofs.lemmas.Bool.Decides.{nat_tests}
use Rattle.rules.specs.declared.terms.Side.{Side}
use Rattle.rules.specs.declared.terms.Side.TheVariants.{Buy, Sell}
use Rattle.rules.specs.Ranks.{rank_before}

pub same_price : (s : Side) (r t : ℕ × ℕ × ℕ) → rank_before s r t ≡ false → rank_before s t r ≡ false → r.0 ≡ t.0
same_price Buy r t p q = grind (arith, nat_tests)
same_price Sell r t p q = grind (arith, nat_tests)

pub same_class : (s : Side) (r t : ℕ × ℕ × ℕ) → rank_before s r t ≡ false → rank_before s t r ≡ false → r.1 ≡ t.1
same_class Buy r t p q = grind (arith, nat_tests)
same_class Sell r t p q = grind (arith, nat_tests)

pub same_time : (s : Side) (r t : ℕ × ℕ × ℕ) → rank_before s r t ≡ false → rank_before s t r ≡ false → r.2 ≡ t.2
same_time Buy r t p q = grind (arith, nat_tests)
same_time Sell r t p q = grind (arith, nat_tests)
