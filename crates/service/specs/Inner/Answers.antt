-- What the checks of one service answer, by the definitions of the crate timetable. Nobody has to believe this file. Assumes nothing.
use Rattle.std.specs.Prelude.{ℕ, ◌+◌, ◌≤◌, ◌≡◌, List, map, Bool, false, not, cond, length, leb, ltb, Option as RustOption, Some, None, Result, Ok, Err}
use Rattle.std.proofs.Math.Option.{Option, none, some}
use Rattle.base.specs.Lists.{some_of, below}
use Rattle.words.specs.Words.{write}
use Rattle.timetable.specs.Delivery.{BitField, StopRecord, CategoryClass, CategoryRange, DayRange, Service}
use Rattle.timetable.specs.Offences.{◌<|>◌, given}
use Rattle.timetable.specs.Service.{legs_on}
use Rattle.timetable.specs.Legs.{operated, stretches}
use Rattle.timetable.specs.Checks.{is_none, each_once, times_first, ends_first, legs_first, service_first}
use Rattle.timetable.specs.Table.{service_words}
use Rattle.timetable.specs.declared.Call.{Call}
use Rattle.timetable.specs.declared.Offence.{Offence}
use Rattle.timetable.specs.declared.RangeKind.{RangeKind}
use Rattle.timetable.specs.declared.RangeKind.TheVariants.{Category, Days, Extra}
use Rattle.timetable.specs.declared.RangeLine.{RangeLine}
use Rattle.draft.specs.Inner.Draft.{calls_lent, ranges_lent, calls_on, calls_in, ranges_on, ranges_in, ranges#, Within, part_in, drafted_service}
use Rattle.draft.specs.declared.Counts.{Counts}
use Rattle.draft.specs.declared.Drafted.{Drafted}
use Rattle.reading.specs.Inner.Reading.{service_lines_at}
use Rattle.reading.specs.Inner.Services.{ServiceTaken}
use Rattle.range_words.specs.Inner.Parts.{range_gives, part_words}
use Rattle.reading.specs.declared.Taken.{Taken}
use Rattle.service.specs.declared.schedule.RowEnds.{RowEnds}

-- ---- the answer for a service of a file

-- "every line's own checks, then the service's checks": its first offence, or its words
abbrev pub CheckedAs : List BitField → List StopRecord → List CategoryClass → ℕ → List ℕ → ℕ → ℕ → Result Taken Offence → Type 0
CheckedAs fields stops classes days f at n (Err o) = service_first fields stops classes days (service_lines_at f at n) ≡ some o
CheckedAs fields stops classes days f at n (Ok t) = (service_first fields stops classes days (service_lines_at f at n) ≡ none) × ServiceTaken f at n t.words t.end t.no

-- ---- the same for a draft

-- the words lent hold as many calls, and ranges of each kind, as the counts say
pub record Counted (k : Counts) (calls ranges : List ℕ) : Type 0 where
  pub within : Within k
  pub lent_calls : calls_lent ≤ length calls
  pub lent_ranges : ranges_lent ≤ length ranges
  pub categories : length (part_in Category (ranges_in (ranges# k) ranges)) ≡ k.categories
  pub days : length (part_in Days (ranges_in (ranges# k) ranges)) ≡ k.days
  pub extras : length (part_in Extra (ranges_in (ranges# k) ranges)) ≡ k.extras

-- the places after the words that a range gives
abbrev pub ends_after : RowEnds → List Call → RangeLine → RowEnds
ends_after z cs r = record { categories = z.categories + length (range_gives Category cs r); operating = z.operating + length (range_gives Days cs r) }

-- those, or that its ends are not found
abbrev pub row_by : RowEnds → List Call → RangeLine → RustOption RowEnds
row_by z cs r = cond (is_none (legs_on cs r)) None (Some (ends_after z cs r))

-- if 16 has no offence, the words of a part stand at the front of words that were t
pub record PartFound (v : Result (Unit {0}) Offence) (p : RangeKind) (cs : List Call) (rs : List RangeLine) (t t' : List ℕ) : Type 0 where
  pub written : v ≡ Ok tt → t' ≡ write t 0 (part_words p cs rs)

-- the service that the words hold
abbrev pub service_in : Drafted → List ℕ → List ℕ → Service
service_in d calls ranges = drafted_service d.opening d.line (calls_in d.counts.calls calls) (ranges_in (ranges# d.counts) ranges)

-- 16, then 17 to 19
abbrev pub ranges_first : List BitField → ℕ → Drafted → List ℕ → List ℕ → Option Offence
ranges_first fields days d calls ranges =
    ends_first (calls_in d.counts.calls calls) (ranges_on (ranges# d.counts) ranges)
    <|> legs_first fields days d.line (service_in d calls ranges)

-- 14, 15, then those
abbrev pub draft_first : List BitField → ℕ → Drafted → List ℕ → List ℕ → Option Offence
draft_first fields days d calls ranges =
    given (ltb d.counts.calls 2) 14 d.line
    <|> times_first d.counts.calls 0 0 (calls_on d.counts.calls calls)
    <|> ranges_first fields days d calls ranges

abbrev pub check_by : Option Offence → Service → Drafted → Result Taken Offence
check_by none s d = Ok (record { words = length (service_words s); end = d.end; no = d.no })
check_by (some o) s d = Err o

-- ---- 17, and 18 and 19 of operating-day ranges, over so many legs

-- on a day the operated legs form two or more separate stretches
abbrev pub rows_broken : List BitField → ℕ → List DayRange → ℕ → Bool
rows_broken fields legs rs d = leb 2 (stretches false (map (operated fields rs d) (below legs)))

-- on some day of n days they do
abbrev pub rows_torn : List BitField → ℕ → ℕ → List DayRange → Bool
rows_torn fields n legs rs = some_of (rows_broken fields legs rs) (below n)

abbrev pub days_first : List BitField → ℕ → ℕ → ℕ → List DayRange → Option Offence
days_first fields n line legs rs = given (not (each_once (λ (r : DayRange). r.legs) legs rs)) 18 line <|> given (rows_torn fields n legs rs) 19 line

-- 17, and those, of *G ranges beside them
abbrev pub rows_first : List BitField → ℕ → ℕ → ℕ → List CategoryRange → List DayRange → Option Offence
rows_first fields n line legs gs rs = given (not (each_once (λ (r : CategoryRange). r.legs) legs gs)) 17 line <|> days_first fields n line legs rs
