-- A service's words as they are written from its draft: its calls, its ranges part by part, its head; by the definitions of the crate timetable.
-- Nobody has to believe this file. Assumes nothing.
use Rattle.std.specs.Prelude.{ℕ, ◌+◌, ◌/◌, List, [], ◌∷◌, ◌++◌, length}
use Rattle.base.specs.Lists.{gathered}
use Rattle.timetable.specs.Layout.{service_head, category_size, day_size, extra_size}
use Rattle.timetable.specs.Delivery.{StopRecord, Service}
use Rattle.timetable.specs.Table.{stop_place, with_stop, pointing, call_words, service_words}
use Rattle.timetable.specs.declared.Call.{Call}
use Rattle.timetable.specs.declared.Opening.{Opening}
use Rattle.timetable.specs.declared.RangeKind.TheVariants.{Category, Days, Extra}
use Rattle.timetable.specs.declared.RangeLine.{RangeLine}
use Rattle.draft.specs.Inner.Draft.{calls_in, ranges_in, ranges#, drafted_service}
use Rattle.draft.specs.declared.Drafted.{Drafted}
use Rattle.range_words.specs.Inner.Parts.{part_words}
use Rattle.service_words.specs.declared.RangeEnds.{RangeEnds}
use Rattle.service_words.specs.declared.Sizes.{Sizes}

-- ---- one call

-- its words, with a place for its stop
abbrev pub placed_call : ℕ → Call → List ℕ
placed_call place c = place ∷ c.arrival ∷ c.departure ∷ c.flags ∷ c.number ∷ c.high ∷ c.low ∷ []

-- the same as the table has them
abbrev pub pointed_words : List StopRecord → Call → List ℕ
pointed_words stops c = call_words (with_stop (λ (n : ℕ). stop_place n stops) c)

-- ---- all ranges

-- their words, and where each ends if they begin at place q
abbrev pub range_words : List Call → List RangeLine → List ℕ
range_words cs rs = part_words Category cs rs ++ (part_words Days cs rs ++ part_words Extra cs rs)

abbrev pub range_ends : ℕ → List Call → List RangeLine → RangeEnds
range_ends q cs rs = record {
  categories = q + length (part_words Category cs rs);
  day_ranges = q + length (part_words Category cs rs) + length (part_words Days cs rs);
  extras = q + length (part_words Category cs rs) + length (part_words Days cs rs) + length (part_words Extra cs rs);
}

-- all words after the head, and the sizes told by them
abbrev pub body_of : List StopRecord → List Call → List RangeLine → List ℕ
body_of stops cs rs = gathered (pointed_words stops) cs ++ range_words cs rs

abbrev pub sizes_by : List StopRecord → List Call → List RangeLine → Sizes
sizes_by stops cs rs = record {
  calls = length cs;
  categories = length (part_words Category cs rs) / category_size;
  day_ranges = length (part_words Days cs rs) / day_size;
  extras = length (part_words Extra cs rs) / extra_size;
  words = service_head + length (body_of stops cs rs);
}

-- ---- a whole service

-- the service that the words of a draft hold, as the table has it
abbrev pub placed_in : List StopRecord → Drafted → List ℕ → List ℕ → Service
placed_in stops d calls ranges = pointing stops (drafted_service d.opening d.line (calls_in d.counts.calls calls) (ranges_in (ranges# d.counts) ranges))

abbrev pub sizes_of : Service → Sizes
sizes_of s = record { calls = length s.calls; categories = length s.categories; day_ranges = length s.days; extras = length s.extras; words = length (service_words s) }

abbrev pub head_by : Sizes → Opening → ℕ → List ℕ
head_by z o line =
    z.words ∷ o.number ∷ o.high ∷ o.low ∷ o.repeats ∷ o.offset ∷ z.calls ∷ z.categories ∷ z.day_ranges ∷ z.extras ∷ line ∷ o.kind ∷ []
