-- The form of a line as data: a list of column rules, as in the paper's table. "Columns named by no field are blank."
-- Assumes nothing.
use Rattle.std.specs.Prelude.{ℕ, zero, suc, ◌+◌, ◌-◌, List, [], ◌∷◌, Bool, true, false, cond, not, ◌&&◌, ◌||◌, length, get_or, drop, leb, eqb, Result, Ok, Err}
use Rattle.base.specs.Lists.{every}
use Rattle.columns.specs.Columns as C
use Rattle.columns.specs.LineFields.{LineField, date_day, date_month, date_year, field_in}
use Rattle.fields.specs.Fields as F
use Rattle.fields.specs.declared.Time.{Time}
use Rattle.fields.specs.declared.Time.TheVariants.{Absent, Stated, NoTime}
use Rattle.fields.specs.declared.RangeEnd.{RangeEnd}
use Rattle.fields.specs.declared.RangeEnd.TheVariants.{Outer, Index, Stop, NoEnd}
use Rattle.fields.specs.declared.Detail.{Detail}
use Rattle.fields.specs.declared.Detail.TheVariants.{Plain, Nth, Timed, NoDetail}

-- ---- what may be asked of the columns p of a line

abbrev pub Rule : Type 0
Rule = List ℕ → List ℕ → Bool

abbrev pub free : Rule
free line p = true

abbrev pub digits_only : Rule
digits_only line p = C.digits p

abbrev pub hex_digits : Rule
hex_digits line p = every C.is_hex p

abbrev pub non_blank : Rule
non_blank line p = every (λ (b : ℕ). not (C.is_blank b)) p

abbrev pub byte : ℕ → Rule
byte m line p = every (λ (b : ℕ). eqb b m) p

abbrev pub or_blank : Rule → Rule
or_blank r line p = C.blank p || r line p

-- "name not all blank"
abbrev pub not_all_blank : Rule
not_all_blank line p = not (C.blank p)

-- "(4 not blank)": the first of the columns
abbrev pub first_not_blank : Rule
first_not_blank line p = not (C.is_blank (get_or p 0 32))

-- "count to 60"
abbrev pub a_count : ℕ → Rule
a_count m line p = C.count_to m p

-- DD.MM.YYYY ("." is byte 46); the field starts in column 1, so its columns are the line's
abbrev pub a_date : Rule
a_date line p =
    C.digits (field_in date_day p) && eqb (C.column 3 p) 46 && C.digits (field_in date_month p) && eqb (C.column 6 p) 46 && C.digits (field_in date_year p)

abbrev pub is_time : Time → Bool
is_time Absent = true
is_time (Stated minutes barred) = true
is_time NoTime = false

abbrev pub a_time : Rule
a_time line p = is_time (F.time p)

abbrev pub is_end : RangeEnd → Bool
is_end Outer = true
is_end (Index i) = true
is_end (Stop n) = true
is_end NoEnd = false

abbrev pub a_range_end : Rule
a_range_end line p = is_end (F.range_end p)

abbrev pub is_stop : RangeEnd → Bool
is_stop Outer = false
is_stop (Index i) = false
is_stop (Stop n) = true
is_stop NoEnd = false

abbrev pub is_detail : Detail → Bool
is_detail Plain = true
is_detail (Nth k) = true
is_detail (Timed m) = true
is_detail NoDetail = false

-- the detail of the range end in the seven columns from c: "with no stop number it is not read and may hold anything"
abbrev pub detail_of : ℕ → Rule
detail_of c line p = cond (is_stop (F.range_end (C.columns c (c + 6) line))) (is_detail (F.detail p)) true

-- the offset beside the repeats in the three columns from c: "digits, both or neither blank";
-- "One or more repeats need an offset of at least 1, else 4." Digits say 1 or more exactly where not all of them are "0" (byte 48): laws `one-or-more`, `offset-is`.
abbrev pub offset_of : ℕ → Rule
offset_of c line p =
    cond (C.blank (C.columns c (c + 2) line)) (C.blank p)
    (C.digits p && (byte 48 line (C.columns c (c + 2) line) || not (byte 48 line p)))

-- digits that say at least 1: not all of them are "0" (byte 48); law `from-one-is`
abbrev pub from_one : Rule
from_one line p = C.digits p && not (byte 48 line p)

-- of one column, "A to H": a letter from "A" (byte 65) to m
abbrev pub letter_to : ℕ → Rule
letter_to m line p = leb 65 (get_or p 0 32) && leb (get_or p 0 32) m

-- of one column, "N, B, F": bytes 78, 66 and 70
abbrev pub transport_flag : Rule
transport_flag line p = eqb (get_or p 0 32) 78 || (eqb (get_or p 0 32) 66 || eqb (get_or p 0 32) 70)

-- ---- the form that a list of rules says

-- columns `from` to `to`, and what is asked of them
pub record FieldRule : Type 0 where
  pub from : ℕ
  pub to : ℕ
  pub rule : Rule

abbrev pub field_rule : ℕ → ℕ → Rule → FieldRule
field_rule a b r = record { from = a; to = b; rule = r }

abbrev pub column_rule : ℕ → Rule → FieldRule
column_rule a r = field_rule a a r

infix 70 ◌is◌
-- a field, and what is asked of it
abbrev pub ◌is◌ : LineField → Rule → FieldRule
f is r = field_rule f.from f.to r

-- "1 file over 16,777,216 bytes"
abbrev pub most_file_bytes : ℕ
most_file_bytes = 16777216

-- "from 63 free": to the line's end, since no file is longer
abbrev pub rest_rule : ℕ → Rule → FieldRule
rest_rule a r = field_rule a most_file_bytes r

-- what is said of a line: it fits, or is broken at this column, where the leftmost field or unnamed column that breaks the form starts
abbrev pub Form : Type 0
Form = Result (Unit {0}) ℕ

pattern abbrev pub Fits : Form
Fits = Ok tt

pattern abbrev pub Broken : ℕ → Form
Broken c = Err c

-- the first of two that is broken
abbrev pub before : Form → Form → Form
before Fits g = g
before (Broken c) g = Broken c

-- w columns from column c on, where l is what the line has from there: the first that is not blank
unfoldable pub stray_from : ℕ → ℕ → List ℕ → Form
stray_from c zero l = Fits
stray_from c (suc w) [] = Fits
stray_from c (suc w) (b ∷ l) = cond (C.is_blank b) (stray_from (c + 1) w l) (Broken c)

-- "Columns named by no field are blank": those after column c, up to column e
unfoldable pub unnamed : ℕ → ℕ → List ℕ → Form
unnamed c e line = stray_from (c + 1) (e - c) (drop c line)

abbrev pub broken_unless : ℕ → Bool → Form
broken_unless a true = Fits
broken_unless a false = Broken a

-- one row, where the columns up to c are done
unfoldable pub row_form : ℕ → FieldRule → List ℕ → Form
row_form c x line = before (unnamed c (x.from - 1) line) (broken_unless x.from (x.rule line (C.columns x.from x.to line)))

unfoldable pub form_from : ℕ → List FieldRule → List ℕ → Form
form_from c [] line = unnamed c (length line) line
form_from c (x ∷ xs) line = before (row_form c x line) (form_from x.to xs line)

-- whether a line has the form, or the column where the leftmost field or unnamed column that breaks it starts (01 asks only whether)
abbrev pub form_of : List FieldRule → List ℕ → Form
form_of rows line = form_from 0 rows line

abbrev pub is_fit : Form → Bool
is_fit Fits = true
is_fit (Broken c) = false

-- whether a line has the form
abbrev pub has_form : List FieldRule → List ℕ → Bool
has_form rows line = is_fit (form_of rows line)
