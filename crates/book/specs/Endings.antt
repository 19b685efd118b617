-- How an order ends, as the code says it, beside the definition. Assumes nothing.
use Rattle.std.specs.Prelude.{Bool, true, false}
use Rattle.rules.specs.Trade.{Ending}
use Rattle.rules.specs.Trade.Ending.{is_filled, is_routed, is_cancelled, rests}
use Rattle.book.specs.declared.ending.End.{End}
use Rattle.book.specs.declared.ending.End.TheVariants.{Filled, Routes, Cancelled, Rests}

-- the ending that an end means
abbrev pub meant : End → Ending
meant Filled = is_filled
meant Routes = is_routed
meant (Cancelled why) = is_cancelled why
meant Rests = rests

-- the order goes out
abbrev pub routes : Ending → Bool
routes is_filled = false
routes is_routed = true
routes (is_cancelled why) = false
routes rests = false
