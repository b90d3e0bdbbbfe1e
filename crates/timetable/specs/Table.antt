-- Table (32-bit words): the words of a delivery as load writes them, any words read back, and when they are "not a table (21)". Reading is total:
-- n records from the front of the words. Sizes and limits: Layout. Assumes nothing.
use Rattle.std.specs.Prelude.{ℕ, zero, suc, ◌+◌, ◌-◌, ◌*◌, List, [], ◌∷◌, ◌++◌, map, Bool, true, false, cond, ◌&&◌, length, get_or, take, drop, ltb, leb, eqb}
use Rattle.std.proofs.Math.Option.{Option, none, some}
use Rattle.std.proofs.Math.ListN.{get_elem?}
use Rattle.base.specs.Lists.{every, gathered}
use Rattle.calendar.specs.Calendar.{last_day}
use Rattle.timetable.specs.Layout.{header_size, bit_words, bit_field_size, stop_size, interchange_size, class_size, service_head, call_size, category_size, day_size, extra_size, record_size, first_service}
use Rattle.timetable.specs.Layout.{most_period_days, most_class, most_calls, most_categories, most_days, most_extras, latest_time, all_flags}
use Rattle.timetable.specs.Delivery.{Period, BitField, StopRecord, Interchange, CategoryClass, Legs, CategoryRange, DayRange, ExtraRange, Service, Delivery}
use Rattle.timetable.specs.Ranges.{in_order}
use Rattle.timetable.specs.Runs.{opening_sound}
use Rattle.timetable.specs.declared.Call.{Call}
use Rattle.timetable.specs.declared.Opening.{Opening}

-- ---- document 02, No. 10: "A call now holds the place of its stop in the stop section, counted from 0, in place of the number." In a table's own
-- calls the stop is such a place: a delivery's calls point at its stops when they are written, and are resolved when they are read back.

-- the place of the first stop with a number, where the first of these stands at place k (0 where there is none: such a delivery is refused, 9)
unfoldable pub stop_place_from : ℕ → ℕ → List StopRecord → ℕ
stop_place_from k n [] = 0
stop_place_from k n (s ∷ stops) = cond (eqb s.number n) k (stop_place_from (k + 1) n stops)

abbrev pub stop_place : ℕ → List StopRecord → ℕ
stop_place n stops = stop_place_from 0 n stops

abbrev pub number_by : Option StopRecord → ℕ
number_by none = 0
number_by (some s) = s.number

-- the number of the stop at a place (0 where there is none: such words are not a table)
unfoldable pub stop_number_at : List StopRecord → ℕ → ℕ
stop_number_at stops place = number_by (get_elem? stops place)

-- a call with another stop, and a service with each call's stop looked up
abbrev pub with_stop : (ℕ → ℕ) → Call → Call
with_stop f c = record { stop = f c.stop; arrival = c.arrival; departure = c.departure; flags = c.flags; number = c.number; high = c.high; low = c.low }

abbrev pub with_stops : (ℕ → ℕ) → Service → Service
with_stops f s = record { line = s.line; opening = s.opening; calls = map (with_stop f) s.calls; categories = s.categories; days = s.days; extras = s.extras }

-- a service as the table has it, and back: "Rows still show the number."
unfoldable pub pointing : List StopRecord → Service → Service
pointing stops s = with_stops (λ (n : ℕ). stop_place n stops) s

unfoldable pub resolved : List StopRecord → Service → Service
resolved stops s = with_stops (stop_number_at stops) s

-- ---- as load writes it: "per bit field 13 (number, 12 words), stop 3 .., interchange 3 (number, two times), then services, all in file order";
-- No. 1's section stands between the interchange records and the services

abbrev pub bit_field_words : BitField → List ℕ
bit_field_words b = b.number ∷ b.words

abbrev pub stop_words : StopRecord → List ℕ
stop_words s = s.number ∷ s.offset ∷ s.size ∷ []

abbrev pub interchange_words : Interchange → List ℕ
interchange_words c = c.number ∷ c.first_time ∷ c.second_time ∷ []

-- document 02, No. 1: "a section of two words each (code, class)"
abbrev pub class_words : CategoryClass → List ℕ
class_words c = c.code ∷ c.class ∷ []

-- "calls of 4 (stop, arrival, departure, flags ..)"; document 02, No. 5: "Each call grows from 4 to 7 words: number and the two administration words
-- follow the flags." (The stop is a place: No. 10.)
abbrev pub call_words : Call → List ℕ
call_words c = c.stop ∷ c.arrival ∷ c.departure ∷ c.flags ∷ c.number ∷ c.high ∷ c.low ∷ []

-- "*G of 3 (category .., from, to), *A VE of 3 (bit field, from, to), other of 4 (code .., bit field, from, to)"
abbrev pub category_words : CategoryRange → List ℕ
category_words r = r.name ∷ r.legs.from ∷ r.legs.to ∷ []

abbrev pub day_words : DayRange → List ℕ
day_words r = r.field ∷ r.legs.from ∷ r.legs.to ∷ []

abbrev pub extra_words : ExtraRange → List ℕ
extra_words r = r.code ∷ r.field ∷ r.legs.from ∷ r.legs.to ∷ []

abbrev pub service_size : Service → ℕ
service_size s = record_size (length s.calls) (length s.categories) (length s.days) (length s.extras)

-- "Service: its word count, number, administration .., repeats, offset, calls c, *G g, *A VE v, other a, *Z line: 11 words"; document 02, No. 8: "a
-- twelfth word, its kind"
abbrev pub head_words : Service → List ℕ
head_words s =
    service_size s ∷ s.opening.number ∷ s.opening.high ∷ s.opening.low ∷ s.opening.repeats ∷ s.opening.offset
    ∷ length s.calls ∷ length s.categories ∷ length s.days ∷ length s.extras ∷ s.line ∷ s.opening.kind ∷ []

unfoldable pub service_words : Service → List ℕ
service_words s =
    head_words s
    ++ (gathered call_words s.calls ++ (gathered category_words s.categories ++ (gathered day_words s.days ++ gathered extra_words s.extras)))

-- all after the header; No. 1: the section of categories "stands before the services"
abbrev pub sections : Delivery → List ℕ
sections d =
    gathered bit_field_words d.fields
    ++ (gathered stop_words d.stops
    ++ (gathered interchange_words d.interchanges
    ++ (gathered class_words d.classes
    ++ gathered service_words (map (pointing d.stops) d.services))))

-- "Header: words used, first day, n, bit fields B, stops S, interchange records U, services V, place of first service."; No. 1: "nine words, the last being
-- the count of categories"
unfoldable pub table_words : Delivery → List ℕ
table_words d =
    (header_size + length (sections d))
    ∷ d.period.start
    ∷ d.period.n
    ∷ length d.fields
    ∷ length d.stops
    ∷ length d.interchanges
    ∷ length d.services
    ∷ first_service (length d.fields) (length d.stops) (length d.interchanges) (length d.classes)
    ∷ length d.classes
    ∷ sections d

-- ---- any words read back

-- the word at a place
abbrev pub word : List ℕ → ℕ → ℕ
word w k = get_or w k 0

-- n things of a size each from the front of the words
unfoldable pub rows_in : {X : Type 0} → (List ℕ → X) → ℕ → ℕ → List ℕ → List X
rows_in f size zero w = []
rows_in f size (suc n) w = f w ∷ rows_in f size n (drop size w)

abbrev pub bit_field_at : List ℕ → BitField
bit_field_at w = record { number = word w 0; words = take bit_words (drop 1 w) }

abbrev pub stop_at : List ℕ → StopRecord
stop_at w = record { number = word w 0; offset = word w 1; size = word w 2 }

abbrev pub interchange_at : List ℕ → Interchange
interchange_at w = record { number = word w 0; first_time = word w 1; second_time = word w 2 }

abbrev pub class_at : List ℕ → CategoryClass
class_at w = record { code = word w 0; class = word w 1 }

-- the stop is a place here, unresolved (No. 10)
abbrev pub call_at : List ℕ → Call
call_at w = record { stop = word w 0; arrival = word w 1; departure = word w 2; flags = word w 3; number = word w 4; high = word w 5; low = word w 6 }

-- the legs in the words k and k + 1
abbrev pub legs_at : ℕ → List ℕ → Legs
legs_at k w = record { from = word w k; to = word w (k + 1) }

abbrev pub category_at : List ℕ → CategoryRange
category_at w = record { name = word w 0; legs = legs_at 1 w }

abbrev pub day_at : List ℕ → DayRange
day_at w = record { field = word w 0; legs = legs_at 1 w }

abbrev pub extra_at : List ℕ → ExtraRange
extra_at w = record { code = word w 0; field = word w 1; legs = legs_at 2 w }

-- the head of a service's words, by its names: its word count, and the counts c, g, v, a
abbrev pub word_count_in : List ℕ → ℕ
word_count_in w = word w 0

abbrev pub calls# : List ℕ → ℕ
calls# w = word w 6

abbrev pub categories# : List ℕ → ℕ
categories# w = word w 7

abbrev pub days# : List ℕ → ℕ
days# w = word w 8

abbrev pub extras# : List ℕ → ℕ
extras# w = word w 9

-- where the sections of a service's words begin, in words
abbrev pub category_place : List ℕ → ℕ
category_place w = service_head + call_size * calls# w

abbrev pub day_place : List ℕ → ℕ
day_place w = category_place w + category_size * categories# w

abbrev pub extra_place : List ℕ → ℕ
extra_place w = day_place w + day_size * days# w

-- what its opening line says
abbrev pub opening_at : List ℕ → Opening
opening_at w = record { number = word w 1; high = word w 2; low = word w 3; repeats = word w 4; offset = word w 5; kind = word w 11 }

-- its calls' stops are places, unresolved
unfoldable pub service_at : List ℕ → Service
service_at w = record {
  line = word w 10;
  opening = opening_at w;
  calls = rows_in call_at call_size (calls# w) (drop service_head w);
  categories = rows_in category_at category_size (categories# w) (drop (category_place w) w);
  days = rows_in day_at day_size (days# w) (drop (day_place w) w);
  extras = rows_in extra_at extra_size (extras# w) (drop (extra_place w) w);
}

-- V records, each as long as its first word says; their calls' stops are places, unresolved
unfoldable pub services_in : ℕ → List ℕ → List Service
services_in zero w = []
services_in (suc v) w = service_at w ∷ services_in v (drop (word_count_in w) w)

-- the header's words, by their names
abbrev pub used_words : List ℕ → ℕ
used_words w = word w 0

abbrev pub first_day : List ℕ → ℕ
first_day w = word w 1

abbrev pub period_days : List ℕ → ℕ
period_days w = word w 2

abbrev pub bit_fields# : List ℕ → ℕ
bit_fields# w = word w 3

abbrev pub stops# : List ℕ → ℕ
stops# w = word w 4

abbrev pub interchanges# : List ℕ → ℕ
interchanges# w = word w 5

abbrev pub services# : List ℕ → ℕ
services# w = word w 6

abbrev pub services_place : List ℕ → ℕ
services_place w = word w 7

abbrev pub classes# : List ℕ → ℕ
classes# w = word w 8

-- the words used, from the front of the words lent
abbrev pub used : List ℕ → List ℕ
used w = take (used_words w) w

-- the stop section, which the calls point into
unfoldable pub stops_at : List ℕ → List StopRecord
stops_at w = rows_in stop_at stop_size (stops# w) (drop (header_size + bit_field_size * bit_fields# w) (used w))

unfoldable pub table_of : List ℕ → Delivery
table_of w = record {
  period = record { start = first_day w; n = period_days w };
  fields = rows_in bit_field_at bit_field_size (bit_fields# w) (drop header_size (used w));
  stops = stops_at w;
  interchanges = rows_in interchange_at interchange_size (interchanges# w) (drop (header_size + bit_field_size * bit_fields# w + stop_size * stops# w) (used w));
  classes = rows_in class_at class_size (classes# w) (drop (header_size + bit_field_size * bit_fields# w + stop_size * stops# w + interchange_size * interchanges# w) (used w));
  services = map (resolved (stops_at w)) (services_in (services# w) (drop (services_place w) (used w)));
}

-- ---- not a table (21): the conditions, said as what a table keeps

-- "a time over 59,999, flags over 15"; document 02, No. 10: "21 additionally refuses a place not below S"
abbrev pub call_sound : ℕ → Call → Bool
call_sound stops c = ltb c.stop stops && (leb c.arrival latest_time && (leb c.departure latest_time && leb c.flags all_flags))

-- "a range end not below c or in wrong order"
abbrev pub legs_sound : Bool → ℕ → Legs → Bool
legs_sound loose c g = in_order loose g.from g.to && ltb g.to c

-- its opening line, and each call and range, of a table with so many stops
abbrev pub service_sound : ℕ → Service → Bool
service_sound stops s =
    opening_sound s.opening
    && (every (call_sound stops) s.calls
    && (every (λ (r : CategoryRange). legs_sound false (length s.calls) r.legs) s.categories
    && (every (λ (r : DayRange). legs_sound false (length s.calls) r.legs) s.days
    && every (λ (r : ExtraRange). legs_sound true (length s.calls) r.legs) s.extras)))

-- "c outside 2 to 200, g, v, a over 50, 50, 100"
abbrev pub counts_sound : ℕ → ℕ → ℕ → ℕ → Bool
counts_sound c g v a = leb 2 c && (leb c most_calls && (leb g most_categories && (leb v most_days && leb a most_extras)))

-- the record at the front of the words: its head, counts in their bounds, "a count differs from 11 + 4c + 3g + 3v + 4a" (with document 02's No. 5 and
-- No. 8, from 12 + 7c + 3g + 3v + 4a), and not past the words' end
abbrev pub sizes_sound : List ℕ → Bool
sizes_sound w =
    leb service_head (length w) && (counts_sound (calls# w) (categories# w) (days# w) (extras# w)
    && (eqb (word_count_in w) (record_size (calls# w) (categories# w) (days# w) (extras# w)) && leb (word_count_in w) (length w)))

unfoldable pub record_sound : ℕ → List ℕ → Bool
record_sound stops w = sizes_sound w && service_sound stops (service_at w)

-- "the V records do not end exactly at words used"
unfoldable pub records_sound : ℕ → ℕ → List ℕ → Bool
records_sound stops zero w = eqb (length w) 0
records_sound stops (suc v) w = record_sound stops w && records_sound stops v (drop (word_count_in w) w)

-- "fewer than 8, or words used under 8 or over those lent; n not 1 to 380, or last day after 31.12.2199; U is 0;
-- word 7 is not 8 + 13B + 3S + 3U or is beyond words used" (document 02, No. 1: "21 reads the new sizes": 9 for 8, and 9 + 13B + 3S + 3U + 2K): of the
-- words lent, and of words 0 to 5, 7 and 8
unfoldable pub head_sound : ℕ → ℕ → ℕ → ℕ → ℕ → ℕ → ℕ → ℕ → ℕ → Bool
head_sound lent end first n b s u place k =
    leb header_size end && (leb end lent
    && (leb 1 n && (leb n most_period_days && (leb (first + n) (last_day + 1)
    && (leb 1 u && (eqb place (first_service b s u k) && leb place end))))))

-- No. 1: "and refuses a class over 13"
abbrev pub class_sound : CategoryClass → Bool
class_sound c = leb c.class most_class

-- "Any words are not a table (21) exactly if": this is false
unfoldable pub is_table : List ℕ → Bool
is_table w =
    leb header_size (length w)
    && (head_sound (length w) (used_words w) (first_day w) (period_days w) (bit_fields# w) (stops# w) (interchanges# w) (services_place w) (classes# w)
    && (every class_sound (table_of w).classes
    && records_sound (stops# w) (services# w) (drop (services_place w) (used w))))
