-- The number of each refusal, each cause of a cancel and each step. Assumes nothing.
use Rattle.std.specs.Prelude.{ℕ}
use Rattle.rules.specs.declared.numbers.Cause.{Cause}
use Rattle.rules.specs.declared.numbers.Cause.TheVariants.{OwnFirm, Immediate, LeastSize, AwayPrice, NoPlaceOnReturn, ByTheFirm}
use Rattle.rules.specs.declared.numbers.Refusal.{Refusal}
use Rattle.rules.specs.declared.numbers.Refusal.TheVariants.{TapeTooShort, ClaimSheetTooShort, BadPlaces, BadTickOrSeries, IdNotAboveAllBefore, FirmZero, BadPrice, BadSize, TermsClash, NoReference, NeitherRestingNorOut, AnotherFirms, OutOnRoute, SideFull, SixteenOut, LastTimeReached, NotOutHere, MoreThanRouted}
use Rattle.rules.specs.declared.tape.Step.{Step}
use Rattle.rules.specs.declared.tape.Step.TheVariants.{CustomerMarketOrders, OtherMarketOrders, CustomerLimitOrders, GuaranteedQuotes, OtherInterest}

-- for the host 11 to 14, for the firm 21 to 29, for the book 31 to 33, for a ticket's holder 41 and 42
abbrev pub refusal_number : Refusal → ℕ
refusal_number TapeTooShort = 11
refusal_number ClaimSheetTooShort = 12
refusal_number BadPlaces = 13
refusal_number BadTickOrSeries = 14
refusal_number IdNotAboveAllBefore = 21
refusal_number FirmZero = 22
refusal_number BadPrice = 23
refusal_number BadSize = 24
refusal_number TermsClash = 25
refusal_number NoReference = 26
refusal_number NeitherRestingNorOut = 27
refusal_number AnotherFirms = 28
refusal_number OutOnRoute = 29
refusal_number SideFull = 31
refusal_number SixteenOut = 32
refusal_number LastTimeReached = 33
refusal_number NotOutHere = 41
refusal_number MoreThanRouted = 42

abbrev pub cause_number : Cause → ℕ
cause_number OwnFirm = 1
cause_number Immediate = 2
cause_number LeastSize = 3
cause_number AwayPrice = 4
cause_number NoPlaceOnReturn = 5
cause_number ByTheFirm = 6

abbrev pub step_number : Step → ℕ
step_number CustomerMarketOrders = 1
step_number OtherMarketOrders = 2
step_number CustomerLimitOrders = 3
step_number GuaranteedQuotes = 4
step_number OtherInterest = 5
