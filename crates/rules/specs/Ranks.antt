-- The rank of entries on a side. Assumes nothing.
use Rattle.std.specs.Prelude.{ℕ, Bool, true, false, cond, ◌&&◌, ◌||◌, ◌==◌, nat_lt}
use Rattle.rules.specs.declared.ranks.Class.{Class}
use Rattle.rules.specs.declared.ranks.Class.TheVariants.{CustomerMarketOrder, OtherMarketOrder, CustomerLimitOrder, OtherInterest}
use Rattle.rules.specs.declared.terms.Entry.{Entry}
use Rattle.rules.specs.declared.terms.Kind.{Kind}
use Rattle.rules.specs.declared.terms.Kind.TheVariants.{Customer, Other, MakerQuote, SpecialistQuote}
use Rattle.rules.specs.declared.terms.Side.{Side}
use Rattle.rules.specs.Sides.{is_better}

abbrev pub is_customer : Kind → Bool
is_customer Customer = true
is_customer Other = false
is_customer MakerQuote = false
is_customer SpecialistQuote = false

-- the number of a class, by which classes are ranked
abbrev pub class_number : Class → ℕ
class_number CustomerMarketOrder = 1
class_number OtherMarketOrder = 2
class_number CustomerLimitOrder = 3
class_number OtherInterest = 4

-- Market Orders before Limit Orders and quotes, and in each customers before others
abbrev pub class_of : Entry → ℕ
class_of e = cond e.market (cond (is_customer e.kind) 1 2) (cond (is_customer e.kind) 3 4)

-- the price, the class and the working time
abbrev pub rank_of : Entry → ℕ × ℕ × ℕ
rank_of e = (e.price, class_of e, e.time)

-- the better price, then the earlier class, then the earlier time
abbrev pub rank_before : Side → ℕ × ℕ × ℕ → ℕ × ℕ × ℕ → Bool
rank_before s r t = is_better s r.0 t.0 || (r.0 == t.0 && (nat_lt r.1 t.1 || (r.1 == t.1 && nat_lt r.2 t.2)))
