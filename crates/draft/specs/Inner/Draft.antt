-- The draft of a service in words, written and read back. Nobody has to believe this file: the loader's promises do not cite it, and what a draft
-- means is said by what it reads back as. Assumes nothing.
use Rattle.std.specs.Prelude.{ℕ, ◌+◌, ◌*◌, ◌≤◌, ◌≡◌, List, [], ◌∷◌, ◌++◌, map, cond, length, eqb}
use Rattle.base.specs.Lists.{gathered}
use Rattle.lines.specs.Lines.{Line}
use Rattle.fields.specs.declared.RangeEnd.{RangeEnd}
use Rattle.fields.specs.declared.RangeEnd.TheVariants.{Outer, Index, Stop, NoEnd}
use Rattle.fields.specs.declared.Detail.{Detail}
use Rattle.fields.specs.declared.Detail.TheVariants.{Plain, Nth, Timed, NoDetail}
use Rattle.timetable.specs.Layout.{most_calls, most_categories, most_days, most_extras}
use Rattle.timetable.specs.Delivery.{Service}
use Rattle.timetable.specs.Plan.{as_call, as_range, part_number, of_part, part_lines, said_on}
use Rattle.timetable.specs.Service.{opened, announced, holding, called_on, calls_of, category_range, day_range, extra_range}
use Rattle.timetable.specs.Table.{word, rows_in, call_at}
use Rattle.timetable.specs.declared.Announced.{Announced}
use Rattle.timetable.specs.declared.Call.{Call}
use Rattle.timetable.specs.declared.CallLine.{CallLine}
use Rattle.timetable.specs.declared.Opening.{Opening}
use Rattle.timetable.specs.declared.End.{End}
use Rattle.timetable.specs.declared.RangeKind.{RangeKind}
use Rattle.timetable.specs.declared.RangeKind.TheVariants.{Category, Days, Extra}
use Rattle.timetable.specs.declared.RangeLine.{RangeLine}
use Rattle.timetable.specs.declared.Told.{Told}
use Rattle.draft.specs.declared.Counts.{Counts}

-- the words of a call, of a range, and of one of its ends, in the draft
abbrev pub draft_call : ℕ
draft_call = 8

abbrev pub draft_range : ℕ
draft_range = 12

abbrev pub draft_end : ℕ
draft_end = 4

-- the words lent for them
abbrev pub most_ranges : ℕ
most_ranges = most_categories + most_days + most_extras

abbrev pub calls_lent : ℕ
calls_lent = draft_call * most_calls

abbrev pub ranges_lent : ℕ
ranges_lent = draft_range * most_ranges

-- ---- written

abbrev pub call_draft : ℕ × Call → List ℕ
call_draft x = x.1.stop ∷ x.1.arrival ∷ x.1.departure ∷ x.1.flags ∷ x.1.number ∷ x.1.high ∷ x.1.low ∷ x.0 ∷ []

abbrev pub place_tag : RangeEnd → ℕ
place_tag Outer = 0
place_tag (Index k) = 1
place_tag (Stop n) = 2
place_tag NoEnd = 3

abbrev pub place_value : RangeEnd → ℕ
place_value Outer = 0
place_value (Index k) = k.0
place_value (Stop n) = n.0
place_value NoEnd = 0

abbrev pub detail_tag : Detail → ℕ
detail_tag Plain = 0
detail_tag (Nth k) = 1
detail_tag (Timed m) = 2
detail_tag NoDetail = 3

abbrev pub detail_value : Detail → ℕ
detail_value Plain = 0
detail_value (Nth k) = k.0
detail_value (Timed m) = m
detail_value NoDetail = 0

abbrev pub end_draft : End → List ℕ
end_draft e = place_tag e.place ∷ place_value e.place ∷ detail_tag e.detail ∷ detail_value e.detail ∷ []

abbrev pub range_draft : ℕ × RangeLine → List ℕ
range_draft x = x.0 ∷ part_number x.1.part ∷ x.1.name ∷ x.1.field ∷ (end_draft x.1.ends.from ++ end_draft x.1.ends.to)

-- ---- read back

abbrev pub call_back : List ℕ → ℕ × Call
call_back w = (word w 7, call_at w)

abbrev pub place_back : ℕ → ℕ → RangeEnd
place_back tag x = cond (eqb tag 0) Outer (cond (eqb tag 1) (Index (record { 0 = x })) (cond (eqb tag 2) (Stop (record { 0 = x })) NoEnd))

abbrev pub detail_back : ℕ → ℕ → Detail
detail_back tag x = cond (eqb tag 0) Plain (cond (eqb tag 1) (Nth (record { 0 = x })) (cond (eqb tag 2) (Timed x) NoDetail))

abbrev pub part_back : ℕ → RangeKind
part_back k = cond (eqb k 0) Category (cond (eqb k 1) Days Extra)

-- the end in the four words from the k-th on
abbrev pub end_back : ℕ → List ℕ → End
end_back k w = record { place = place_back (word w k) (word w (k + 1)); detail = detail_back (word w (k + 2)) (word w (k + 3)) }

abbrev pub line_back : List ℕ → RangeLine
line_back w = record { part = part_back (word w 1); name = word w 2; field = word w 3; ends = record { from = end_back 4 w; to = end_back 8 w } }

abbrev pub range_back : List ℕ → ℕ × RangeLine
range_back w = (word w 0, line_back w)

-- c calls, each with its line's number, and without
abbrev pub calls_on : ℕ → List ℕ → List (ℕ × Call)
calls_on c w = rows_in call_back draft_call c w

abbrev pub calls_in : ℕ → List ℕ → List Call
calls_in c w = rows_in (λ (u : List ℕ). (call_back u).1) draft_call c w

-- n ranges, each with its line's number, and without
abbrev pub ranges_on : ℕ → List ℕ → List (ℕ × RangeLine)
ranges_on n w = rows_in range_back draft_range n w

abbrev pub ranges_in : ℕ → List ℕ → List RangeLine
ranges_in n w = rows_in line_back draft_range n w

-- things said on line n, each with that number
unfoldable pub on_line : {X : Type 0} → ℕ → List X → List (ℕ × X)
on_line n xs = map (λ x. (n, x)) xs

-- what holds after calls, where a held before them
unfoldable pub last_of : Announced → List (ℕ × Call) → Announced
last_of a [] = a
last_of a (c ∷ cs) = last_of (announced c.1) cs

-- calls of a service, and those of line n behind them
unfoldable pub calls_after : Opening → List (ℕ × Call) → ℕ → List CallLine → List (ℕ × Call)
calls_after o cs n ls = cs ++ holding (last_of (opened o) cs) (on_line n ls)

-- ---- counts

abbrev pub counts_of : List Line → Counts
counts_of ls = record { calls = length (calls_of ls); categories = length (part_lines Category ls); days = length (part_lines Days ls); extras = length (part_lines Extra ls) }

abbrev pub ranges# : Counts → ℕ
ranges# k = k.categories + k.days + k.extras

-- of no lines, and with what one line more says
abbrev pub no_counts : Counts
no_counts = record { calls = 0; categories = 0; days = 0; extras = 0 }

abbrev pub count_calls : Counts → List CallLine → Counts
count_calls k [] = k
count_calls k (c ∷ cs) = record { calls = k.calls + 1; categories = k.categories; days = k.days; extras = k.extras }

abbrev pub count_part : Counts → RangeKind → Counts
count_part k Category = record { calls = k.calls; categories = k.categories + 1; days = k.days; extras = k.extras }
count_part k Days = record { calls = k.calls; categories = k.categories; days = k.days + 1; extras = k.extras }
count_part k Extra = record { calls = k.calls; categories = k.categories; days = k.days; extras = k.extras + 1 }

abbrev pub count_ranges : Counts → List RangeLine → Counts
count_ranges k [] = k
count_ranges k (r ∷ rs) = count_part k r.part

abbrev pub counted : Counts → Told → Counts
counted k t = count_ranges (count_calls k (as_call t)) (as_range t)

-- no more than a service may have
pub record Within (k : Counts) : Type 0 where
  pub calls : k.calls ≤ most_calls
  pub categories : k.categories ≤ most_categories
  pub days : k.days ≤ most_days
  pub extras : k.extras ≤ most_extras

-- the words lent hold the draft of lines: so many calls and ranges, and they read back as what the lines say
pub record DraftOf (ls : List Line) (k : Counts) (calls ranges : List ℕ) : Type 0 where
  pub counts : counts_of ls ≡ k
  pub within : Within k
  pub lent_calls : calls_lent ≤ length calls
  pub lent_ranges : ranges_lent ≤ length ranges
  pub called : calls_on k.calls calls ≡ called_on ls
  pub ranged : ranges_on (ranges# k) ranges ≡ said_on as_range ls

-- ---- the service that a draft is, where `opening` and `line` are its opening line's

abbrev pub part_in : RangeKind → List RangeLine → List RangeLine
part_in p rs = gathered (of_part p) rs

unfoldable pub drafted_service : Opening → ℕ → List Call → List RangeLine → Service
drafted_service o line cs rs = record {
  line = line;
  opening = o;
  calls = cs;
  categories = gathered (category_range cs) (part_in Category rs);
  days = gathered (day_range cs) (part_in Days rs);
  extras = gathered (extra_range cs) (part_in Extra rs);
}
