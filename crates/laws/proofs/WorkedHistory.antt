-- The worked history, by computation. Assumes nothing.
use Rattle.std.proofs.Common.{refl}
use Rattle.rules.specs.Calls.{entry_of, return_of, resize_of, cancel_of, market_of}
use Rattle.rules.specs.Level.{step, makers, unbarred, level}
use Rattle.rules.specs.Trade.{ending, traded, finished, trade}
use Rattle.rules.specs.Walk.{walk}
use Rattle.laws.specs.Worked.{WorkedHistory}

pub worked_history : WorkedHistory
unfolding entry_of return_of resize_of cancel_of market_of step makers unbarred level ending traded finished trade walk
worked_history lawful = record { tapes = refl; accounts = refl; rests = refl; bought = refl; sold = refl }
