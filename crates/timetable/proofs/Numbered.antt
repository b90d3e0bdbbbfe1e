-- The numbers of the refusals: no two have one number (`number-one`), and none has 0 (`numbered`). Assumes nothing.
use mathlib.Core.Path.{◌≡◌, refl, sym, ap, ◌∙◌}
use mathlib.Core.List.{List, [], ◌∷◌}
use mathlib.Core.Option.{Option, none, some}
use Prim.Native.Nat.{ℕ, ◌≤◌}
use native.Mathlib.Omega.{arith}
use lib.Dec.{eqb}
use Rattle.base.specs.Lists.{find}
use Rattle.timetable.specs.Refusals.{number_of}
use Rattle.timetable.specs.declared.refusal.Refusal.{Refusal}
use Rattle.timetable.specs.declared.refusal.Refusal.TheVariants.{FileTooLong, LinesMissing, FourthLine, FormBroken, NoPeriod, NumberRepeated, NumberBarred, FrameWrong, StopUnlisted, BitFieldUnlisted, LineUnknown, BeforeServices, TooMany, TooFewCalls, TimesWrong, RangeEndWrong, CategoryNotOnce, DaysNotOnce, RunTorn, TableTooShort, NoTable, NoSuchDate, OutsidePeriod, NoSuchService, NoSuchRun, ClassTooHigh, StopUnknown, NoSuchBitField, TooFewWords, LegFieldUnknown, LegCategoryNotOnce, LegDaysNotOnce, TwoStretches, TimeNeeded, TariffMixed, CategoryUnlisted, NoNameList, NotAskable, NameOutside, NoProperField, NotItsIndex, NotWritable, TextTooShort, PartsNotWhole, CallNotListed, NotBoardable, OtherStop, WaitTooShort, HelperTooShort}

all : List Refusal
all = FileTooLong ∷ LinesMissing ∷ FourthLine ∷ FormBroken ∷ NoPeriod ∷ NumberRepeated ∷ NumberBarred ∷ FrameWrong ∷ StopUnlisted ∷ BitFieldUnlisted ∷ LineUnknown ∷ BeforeServices ∷ TooMany ∷ TooFewCalls ∷ TimesWrong ∷ RangeEndWrong ∷ CategoryNotOnce ∷ DaysNotOnce ∷ RunTorn ∷ TableTooShort ∷ NoTable ∷ NoSuchDate ∷ OutsidePeriod ∷ NoSuchService ∷ NoSuchRun ∷ ClassTooHigh ∷ StopUnknown ∷ NoSuchBitField ∷ TooFewWords ∷ LegFieldUnknown ∷ LegCategoryNotOnce ∷ LegDaysNotOnce ∷ TwoStretches ∷ TimeNeeded ∷ TariffMixed ∷ CategoryUnlisted ∷ NoNameList ∷ NotAskable ∷ NameOutside ∷ NoProperField ∷ NotItsIndex ∷ NotWritable ∷ TextTooShort ∷ PartsNotWhole ∷ CallNotListed ∷ NotBoardable ∷ OtherStop ∷ WaitTooShort ∷ HelperTooShort ∷ []

-- the refusal of a number
refusal_by : Option Refusal → Refusal
refusal_by none = FileTooLong
refusal_by (some r) = r

refusal_of : ℕ → Refusal
refusal_of n = refusal_by (find (λ (r : Refusal). eqb (number_of r) n) all)

back : (r : Refusal) → refusal_of (number_of r) ≡ r
unfolding refusal_of refusal_by all find
back FileTooLong = refl
back LinesMissing = refl
back FourthLine = refl
back FormBroken = refl
back NoPeriod = refl
back NumberRepeated = refl
back NumberBarred = refl
back FrameWrong = refl
back StopUnlisted = refl
back BitFieldUnlisted = refl
back LineUnknown = refl
back BeforeServices = refl
back TooMany = refl
back TooFewCalls = refl
back TimesWrong = refl
back RangeEndWrong = refl
back CategoryNotOnce = refl
back DaysNotOnce = refl
back RunTorn = refl
back TableTooShort = refl
back NoTable = refl
back NoSuchDate = refl
back OutsidePeriod = refl
back NoSuchService = refl
back NoSuchRun = refl
back ClassTooHigh = refl
back StopUnknown = refl
back NoSuchBitField = refl
back TooFewWords = refl
back LegFieldUnknown = refl
back LegCategoryNotOnce = refl
back LegDaysNotOnce = refl
back TwoStretches = refl
back TimeNeeded = refl
back TariffMixed = refl
back CategoryUnlisted = refl
back NoNameList = refl
back NotAskable = refl
back NameOutside = refl
back NoProperField = refl
back NotItsIndex = refl
back NotWritable = refl
back TextTooShort = refl
back PartsNotWhole = refl
back CallNotListed = refl
back NotBoardable = refl
back OtherStop = refl
back WaitTooShort = refl
back HelperTooShort = refl

pub number-one : (a b : Refusal) → number_of a ≡ number_of b → a ≡ b
number-one a b e = sym (back a) ∙ ap refusal_of e ∙ back b

pub numbered : (r : Refusal) → 1 ≤ number_of r
numbered FileTooLong = omega arith
numbered LinesMissing = omega arith
numbered FourthLine = omega arith
numbered FormBroken = omega arith
numbered NoPeriod = omega arith
numbered NumberRepeated = omega arith
numbered NumberBarred = omega arith
numbered FrameWrong = omega arith
numbered StopUnlisted = omega arith
numbered BitFieldUnlisted = omega arith
numbered LineUnknown = omega arith
numbered BeforeServices = omega arith
numbered TooMany = omega arith
numbered TooFewCalls = omega arith
numbered TimesWrong = omega arith
numbered RangeEndWrong = omega arith
numbered CategoryNotOnce = omega arith
numbered DaysNotOnce = omega arith
numbered RunTorn = omega arith
numbered TableTooShort = omega arith
numbered NoTable = omega arith
numbered NoSuchDate = omega arith
numbered OutsidePeriod = omega arith
numbered NoSuchService = omega arith
numbered NoSuchRun = omega arith
numbered ClassTooHigh = omega arith
numbered StopUnknown = omega arith
numbered NoSuchBitField = omega arith
numbered TooFewWords = omega arith
numbered LegFieldUnknown = omega arith
numbered LegCategoryNotOnce = omega arith
numbered LegDaysNotOnce = omega arith
numbered TwoStretches = omega arith
numbered TimeNeeded = omega arith
numbered TariffMixed = omega arith
numbered CategoryUnlisted = omega arith
numbered NoNameList = omega arith
numbered NotAskable = omega arith
numbered NameOutside = omega arith
numbered NoProperField = omega arith
numbered NotItsIndex = omega arith
numbered NotWritable = omega arith
numbered TextTooShort = omega arith
numbered PartsNotWhole = omega arith
numbered CallNotListed = omega arith
numbered NotBoardable = omega arith
numbered OtherStop = omega arith
numbered WaitTooShort = omega arith
numbered HelperTooShort = omega arith
