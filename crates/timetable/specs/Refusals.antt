-- The refusals by their numbers: "Bad input gets its numbered refusal". A refusal is named after what it says; the paper's words for each stand at the definition
-- that gives it. 30 is given to nothing, 32 is retired. Assumes nothing.
use Rattle.std.specs.Prelude.{ℕ}
use Rattle.timetable.specs.declared.refusal.Refusal.{Refusal}
use Rattle.timetable.specs.declared.refusal.Refusal.TheVariants.{FileTooLong, LinesMissing, FourthLine, FormBroken, NoPeriod, NumberRepeated, NumberBarred, FrameWrong, StopUnlisted, BitFieldUnlisted, LineUnknown, BeforeServices, TooMany, TooFewCalls, TimesWrong, RangeEndWrong, CategoryNotOnce, DaysNotOnce, RunTorn, TableTooShort, NoTable, NoSuchDate, OutsidePeriod, NoSuchService, NoSuchRun, ClassTooHigh, StopUnknown, NoSuchBitField, TooFewWords, LegFieldUnknown, LegCategoryNotOnce, LegDaysNotOnce, TwoStretches, TimeNeeded, TariffMixed, CategoryUnlisted, NoNameList, NotAskable, NameOutside, NoProperField, NotItsIndex, NotWritable, TextTooShort, PartsNotWhole, CallNotListed, NotBoardable, OtherStop, WaitTooShort, HelperTooShort}

abbrev pub number_of : Refusal → ℕ
number_of FileTooLong = 1
number_of LinesMissing = 2
number_of FourthLine = 3
number_of FormBroken = 4
number_of NoPeriod = 5
number_of NumberRepeated = 6
number_of NumberBarred = 7
number_of FrameWrong = 8
number_of StopUnlisted = 9
number_of BitFieldUnlisted = 10
number_of LineUnknown = 11
number_of BeforeServices = 12
number_of TooMany = 13
number_of TooFewCalls = 14
number_of TimesWrong = 15
number_of RangeEndWrong = 16
number_of CategoryNotOnce = 17
number_of DaysNotOnce = 18
number_of RunTorn = 19
number_of TableTooShort = 20
number_of NoTable = 21
number_of NoSuchDate = 22
number_of OutsidePeriod = 23
number_of NoSuchService = 24
number_of NoSuchRun = 25
number_of ClassTooHigh = 26
number_of StopUnknown = 27
number_of NoSuchBitField = 28
number_of TooFewWords = 29
number_of LegFieldUnknown = 31
number_of LegCategoryNotOnce = 33
number_of LegDaysNotOnce = 34
number_of TwoStretches = 35
number_of TimeNeeded = 36
number_of TariffMixed = 37
number_of CategoryUnlisted = 38
number_of NoNameList = 39
number_of NotAskable = 40
number_of NameOutside = 41
number_of NoProperField = 42
number_of NotItsIndex = 43
number_of NotWritable = 44
number_of TextTooShort = 45
number_of PartsNotWhole = 46
number_of CallNotListed = 47
number_of NotBoardable = 48
number_of OtherStop = 49
number_of WaitTooShort = 50
number_of HelperTooShort = 51
