-- The sizes of the table's records and the limits of the rules, each a number of the paper with a name (but for the last); what the ground knows has its
-- name there. The code's names for them are tied to these by `timetable::sizes_tied` and `limits_tied`. Assumes nothing.
use Rattle.std.specs.Prelude.{ℕ, ◌+◌, ◌*◌}
-- "A bit field is twelve words held together as one value"
pub use Rattle.bitfield.specs.BitField.{bit_words}
-- "A period of n days has 1 to 380."
pub use Rattle.calendar.specs.Calendar.{most_period_days}
-- "1 file over 16,777,216 bytes"
pub use Rattle.forms.specs.Form.{most_file_bytes}

-- ---- sizes in words

-- "Header: words used, first day, n, bit fields B, stops S, interchange records U, services V, place of first service."; document 02, No. 1: "The header
-- grows to nine words, the last being the count of categories"
abbrev pub header_size : ℕ
header_size = 9

-- "per bit field 13 (number, 12 words)"
abbrev pub bit_field_size : ℕ
bit_field_size = 1 + bit_words

-- "stop 3 (number, byte offset .., name length ..)"
abbrev pub stop_size : ℕ
stop_size = 3

-- "interchange 3 (number, two times)"
abbrev pub interchange_size : ℕ
interchange_size = 3

-- No. 1: "a section of two words each (code, class) stands before the services"
abbrev pub class_size : ℕ
class_size = 2

-- "Service: .. 11 words."; document 02, No. 8: "A service record gains a twelfth word, its kind"
abbrev pub service_head : ℕ
service_head = 12

-- document 02, No. 5: "Each call grows from 4 to 7 words". It replaces document 01's "calls of 4".
abbrev pub call_size : ℕ
call_size = 7

-- "*G of 3"
abbrev pub category_size : ℕ
category_size = 3

-- "*A VE of 3"
abbrev pub day_size : ℕ
day_size = 3

-- "other of 4"
abbrev pub extra_size : ℕ
extra_size = 4

-- document 02, No. 5: "Rows grow to 10 in the same way". It replaces document 01's "Rows of 7".
abbrev pub row_size : ℕ
row_size = 10

-- No. 13: "helper words are lent: 64, and four for each line of BITFELD, BAHNHOF and UMSTEIGB"
abbrev pub helper_head : ℕ
helper_head = 64

abbrev pub helper_line : ℕ
helper_line = 4

-- the words of a service with c calls, g *G, v *A VE and a other *A: "11 + 4c + 3g + 3v + 4a"; by document 02's No. 5, "the counts in 21 and 29
-- follow": 11 + 7c + 3g + 3v + 4a; by its No. 8 a twelfth word: 12 + 7c + 3g + 3v + 4a
abbrev pub record_size : ℕ → ℕ → ℕ → ℕ → ℕ
record_size c g v a = service_head + call_size * c + category_size * g + day_size * v + extra_size * a

-- the place of the first service: "8 + 13B + 3S + 3U"; by No. 1, 9 + 13B + 3S + 3U + 2K
abbrev pub first_service : ℕ → ℕ → ℕ → ℕ → ℕ
first_service b s u k = header_size + bit_field_size * b + stop_size * s + interchange_size * u + class_size * k

-- ---- kinds of services. No. 8: "its kind (0 for *Z, 1 for *T, ..)"

abbrev pub kind_z : ℕ
kind_z = 0

abbrev pub kind_t : ℕ
kind_t = 1

-- ---- limits

-- "26 class over 13"; No. 1: "21 .. refuses a class over 13"
abbrev pub most_class : ℕ
most_class = 13

-- "13 in one service over 200 calls, 50 *G, 50 *A VE or 100 other *A"
abbrev pub most_calls : ℕ
most_calls = 200

abbrev pub most_categories : ℕ
most_categories = 50

abbrev pub most_days : ℕ
most_days = 50

abbrev pub most_extras : ℕ
most_extras = 100

-- "repeats or offset over 999": the limit of both
abbrev pub most_repeats : ℕ
most_repeats = 999

-- No. 8: "21 allows 9,999 there": the limit of a *T's running time and density
abbrev pub most_running : ℕ
most_running = 9999

-- "a time over 59,999"
abbrev pub latest_time : ℕ
latest_time = 59999

-- "flags over 15"
abbrev pub all_flags : ℕ
all_flags = 15

-- how late a run may be, for contracts of inner functions only: `most_repeats` times `most_repeats` (a *T's runs are less late)
abbrev pub most_delay : ℕ
most_delay = 998001
