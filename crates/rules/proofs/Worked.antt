-- The worked examples, by computation. Assumes nothing.
use Rattle.std.proofs.Common.{refl}
use Rattle.sharing.specs.Examples as shares
use Rattle.rules.specs.Calls.{entry_of}
use Rattle.rules.specs.Examples.{LeastSizeMissed, Examples}

least_size_missed : LeastSizeMissed
unfolding entry_of
least_size_missed rule = refl

shared : shares.Examples
shared = record { tens = refl; one_and_nine = refl }

pub worked : Examples
worked = record {
  buyer_at_100 = λ tick limit. refl;
  buyer_at_201 = λ tick limit. refl;
  selling_market_order_at_20 = refl;
  guarantee_of_100 = refl;
  guarantee_of_2 = refl;
  least_size_missed = least_size_missed;
  sharing = shared;
}
