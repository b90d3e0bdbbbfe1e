-- What the functions on a table's words ask of them. Assumes nothing.
use Rattle.std.specs.Prelude.{ℕ, ◌+◌, ◌*◌, ◌≡◌, List, Bool, true, false, ◌&&◌, length, drop}
use Rattle.base.specs.Lists.{every}
use Rattle.timetable.specs.Layout.{header_size, bit_field_size, stop_size, interchange_size, category_size, day_size, extra_size, record_size}
use Rattle.timetable.specs.Runs.{opening_sound}
use Rattle.timetable.specs.Table.{used_words, first_day, period_days, bit_fields#, stops#, interchanges#, services_place, classes#, calls#, categories#, days#, extras#, rows_in, legs_at, opening_at, category_place, day_place, extra_place, legs_sound, head_sound, is_table}

-- the words of a table, and no later ones
pub record JustTable (w : List ℕ) : Type 0 where
  pub table : is_table w ≡ true
  pub ends : used_words w ≡ length w

-- the header at the front of the words
abbrev pub header_sound : List ℕ → Bool
header_sound w = head_sound (length w) (used_words w) (first_day w) (period_days w) (bit_fields# w) (stops# w) (interchanges# w) (services_place w) (classes# w)

-- where the stops, the interchange records, and the categories with their classes begin
abbrev pub stops_place : List ℕ → ℕ
stops_place w = header_size + bit_field_size * bit_fields# w

abbrev pub interchanges_place : List ℕ → ℕ
interchanges_place w = stops_place w + stop_size * stops# w

abbrev pub classes_place : List ℕ → ℕ
classes_place w = interchanges_place w + interchange_size * interchanges# w

-- where the record at the front of the words ends, by its counts
abbrev pub record_end : List ℕ → ℕ
record_end w = record_size (calls# w) (categories# w) (days# w) (extras# w)

-- all that it holds but its calls is within bounds
abbrev pub bounds_sound : List ℕ → Bool
bounds_sound w =
    opening_sound (opening_at w)
    && (every (legs_sound false (calls# w)) (rows_in (legs_at 1) category_size (categories# w) (drop (category_place w) w))
    && (every (legs_sound false (calls# w)) (rows_in (legs_at 1) day_size (days# w) (drop (day_place w) w))
    && every (legs_sound true (calls# w)) (rows_in (legs_at 2) extra_size (extras# w) (drop (extra_place w) w))))

-- its other *A are sound
abbrev pub extras_sound : List ℕ → Bool
extras_sound w = every (legs_sound true (calls# w)) (rows_in (legs_at 2) extra_size (extras# w) (drop (extra_place w) w))
