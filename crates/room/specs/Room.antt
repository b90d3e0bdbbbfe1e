-- Words that are enough for a delivery, from the sizes of its files alone: asked for by the planner's side, not by 01 or 02 (docs/DECISIONS 90 and 111).
-- Assumes nothing.
use Rattle.std.specs.Prelude.{◌≡◌, cond, ℕ, ◌+◌, ◌*◌, ◌/◌, ◌≤◌, length, ltb}
use Rattle.columns.specs.LineFields.{bit_field_bits, stop_names, interchange_second, class_supplement, plan_mark}
use Rattle.timetable.specs.Layout.{header_size, bit_field_size, stop_size, interchange_size, class_size, most_file_bytes}
use Rattle.timetable.specs.Delivery.{Files}
use Rattle.timetable.specs.Load.{loaded}
use Rattle.timetable.specs.declared.Loaded.{Loaded}
use Rattle.timetable.specs.declared.Loaded.TheVariants.{Accepted, Refused}

-- ---- the bytes that a line needs at least, if it gives the table anything: up to the last column that may not be blank

-- BITFELD: "8-103 hex digits"
abbrev pub bit_field_least : ℕ
bit_field_least = bit_field_bits.to

-- BAHNHOF: "13-62 name not all blank"
abbrev pub stop_least : ℕ
stop_least = stop_names.from

-- UMSTEIGB: "12-13 count"
abbrev pub interchange_least : ℕ
interchange_least = interchange_second.to

-- ZUGART: "supplement 21 (0 to 2)"
abbrev pub class_least : ℕ
class_least = class_supplement.to

-- FPLAN: "column 59 is "%""
abbrev pub plan_least : ℕ
plan_least = plan_mark.to

-- a service takes 12 words, 7 for each call, 3 or 4 for each range; it has two calls, a *G and an *A VE at least: so not more than 8 for each line of these
abbrev pub plan_line_size : ℕ
plan_line_size = 8

-- ---- the words

-- no more bytes than a file may have ("1 file over 16,777,216 bytes"): a longer one is refused in any case
abbrev pub counted : ℕ → ℕ
counted bytes = cond (ltb most_file_bytes bytes) most_file_bytes bytes

-- what a file of so many bytes gives at most: `size` words for each line of `least` bytes
abbrev pub share : ℕ → ℕ → ℕ → ℕ
share size least bytes = size * counted bytes / least

unfoldable pub room_for : ℕ → ℕ → ℕ → ℕ → ℕ → ℕ
room_for bitfeld bahnhof umsteigb fplan zugart =
    header_size + share bit_field_size bit_field_least bitfeld + share stop_size stop_least bahnhof + share interchange_size interchange_least umsteigb
    + share class_size class_least zugart + share plan_line_size plan_least fplan

-- so many words are enough: no delivery of these sizes is refused by 20 for want of them, whatever its text and however many helper words are lent
pub record Enough (bitfeld bahnhof umsteigb fplan zugart words : ℕ) : Type 0 where
  pub never_20 : (f : Files) → length f.bitfeld ≡ bitfeld → length f.bahnhof ≡ bahnhof → length f.umsteigb ≡ umsteigb → length f.fplan ≡ fplan → length f.zugart ≡ zugart
      → (room helper file line column needed : ℕ) → words ≤ room → loaded f room helper ≡ Refused 20 file line column needed → ⊥
