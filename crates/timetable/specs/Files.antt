-- Files 1 to 4 and 6, line by line: what a line holds, and its own offences "by the order 12, 11, 4, 13, 5, 7, 6, 8, 9, 10" (document 02, No. 3: 39
-- directly after 4; No. 1: 37 after 6). Assumes nothing.
use Rattle.std.specs.Prelude.{ℕ, zero, ◌+◌, ◌-◌, ◌*◌, ◌/◌, ◌%◌, List, [], ◌∷◌, ◌++◌, Bool, true, false, cond, not, ◌&&◌, ◌||◌, length, ltb, leb, eqb, Option as Optional, Some, None}
use Rattle.std.proofs.Math.Option.{Option, none, some}
use Rattle.base.specs.Lists.{some_of}
use Rattle.columns.specs.Columns.{column, is_blank, number}
use Rattle.columns.specs.LineFields.{field_in, bit_field_number, stop_number, stop_names, interchange_stop, interchange_first, interchange_second, class_code, class_number, class_tariff}
use Rattle.lines.specs.Lines.{Line, lines_of, skipped}
use Rattle.calendar.specs.Calendar.{date_in, period_of}
use Rattle.bitfield.specs.BitField.{bits_in, framed}
use Rattle.forms.specs.Form.{FieldRule, form_of, Form, Fits, Broken}
use Rattle.forms.specs.Columns.{date_columns, bit_field_columns, stop_columns, interchange_columns, class_columns}
use Rattle.names.specs.Names.{is_name_list}
use Rattle.names.specs.NameField.{name_length, name_field}
use Rattle.timetable.specs.Delivery.{Period, BitField, StopRecord, Interchange, CategoryClass}
use Rattle.timetable.specs.Offences.{offence_at, given, form_offence, ◌<|>◌, first}
use Rattle.timetable.specs.Plan.{three_bytes}
use Rattle.timetable.specs.declared.Offence.{Offence}

-- ---- what a line holds: nothing (skipped), nothing that can be read (broken, at a column), or a record

pub data Held (X : Type 0) : Type 0 where
  skip : Held X
  broken : ℕ → Held X
  held : X → Held X

abbrev pub listed : {X : Type 0} → Held X → List X
listed skip = []
listed (broken column) = []
listed (held x) = x ∷ []

-- what the lines of a file hold, in order
unfoldable pub held_in : {X : Type 0} → (Line → Held X) → List Line → List X
held_in f [] = []
held_in f (l ∷ ls) = listed (f l) ++ held_in f ls

abbrev pub held_by : {X : Type 0} → Form → X → Held X
held_by Fits x = held x
held_by (Broken c) x = broken c

-- a line that is not skipped holds what `read` says, if it has the form
abbrev pub held_line : {X : Type 0} → List FieldRule → (Line → X) → Line → Held X
held_line rows read l = cond (skipped l.text) skip (held_by (form_of rows l.text) (read l))

-- the offence of a line by its number: 4, then its record's own
abbrev pub held_offence : {X : Type 0} → (X → Option Offence) → ℕ → Held X → Option Offence
held_offence own line skip = none
held_offence own line (broken c) = form_offence (Broken c) line
held_offence own line (held x) = own x

-- ---- 1 ECKDATEN: "exactly three lines"; no line is skipped there

-- the day number of a line that is a date, 0 of another
abbrev pub day_number : Optional ℕ → ℕ
day_number (Some d) = d
day_number None = 0

abbrev pub no_date : Optional ℕ → Bool
no_date (Some d) = false
no_date None = true

abbrev pub no_period : Optional ℕ → Bool
no_period (Some n) = false
no_period None = true

-- 4, then "5 no such date"
abbrev pub date_line_offence : Line → Option Offence
date_line_offence l = form_offence (form_of date_columns l.text) l.no <|> given (no_date (date_in l.text)) 5 l.no

-- line 1; line 2 after line 1: "5 end before start; over 380 days (line 2 for both last)"; "line 3 free"; "3 ECKDATEN fourth line" (a fifth comes
-- too late to be the first offence)
abbrev pub period_line_offence : List Line → Line → Option Offence
period_line_offence [] l = date_line_offence l
period_line_offence (s ∷ []) l =
    date_line_offence l <|> given (no_period (period_of (day_number (date_in s.text)) (day_number (date_in l.text)))) 5 l.no
period_line_offence (s ∷ e ∷ []) l = none
period_line_offence (s ∷ e ∷ t ∷ before) l = some (offence_at 3 l.no)

-- "2 ECKDATEN under three lines", at "lines + 1"; "Refusal 2 comes after the own checks of the lines that are there."
unfoldable pub period_first : List Line → Option Offence
period_first ls = first period_line_offence [] ls <|> given (ltb (length ls) 3) 2 (length ls + 1)

abbrev pub days_in : Optional ℕ → ℕ
days_in (Some n) = n
days_in None = 0

-- the period of the first two lines; with fewer the delivery is refused (2)
abbrev pub period_in : List Line → Period
period_in [] = record { start = 0; n = 0 }
period_in (s ∷ []) = record { start = 0; n = 0 }
period_in (s ∷ e ∷ ls) = record {
  start = day_number (date_in s.text);
  n = days_in (period_of (day_number (date_in s.text)) (day_number (date_in e.text)));
}

-- ---- 2 BITFELD

abbrev pub bit_field_of : Line → Held BitField
bit_field_of l =
    held_line bit_field_columns
    (λ (l : Line). record { number = number (field_in bit_field_number l.text); words = bits_in l.text })
    l

-- the bit fields of BITFELD
abbrev pub bit_fields_in : List ℕ → List BitField
bit_fields_in f = held_in bit_field_of (lines_of f)

abbrev pub has_field : ℕ → List BitField → Bool
has_field n fields = some_of (λ (f : BitField). eqb f.number n) fields

-- "7 BITFELD 000000", "6 number seen earlier in the same file" at the later one, "8 frame bits wrong" for n days
abbrev pub bit_field_offence : ℕ → List BitField → ℕ → BitField → Option Offence
bit_field_offence n earlier line f =
    given (eqb f.number 0) 7 line <|> given (has_field f.number earlier) 6 line <|> given (not (framed n f.words)) 8 line

-- 4, then those
abbrev pub bit_field_line_offence : ℕ → List Line → Line → Option Offence
bit_field_line_offence n before l = held_offence (bit_field_offence n (held_in bit_field_of before) l.no) l.no (bit_field_of l)

unfoldable pub bit_fields_first : ℕ → List Line → Option Offence
bit_fields_first n ls = first (bit_field_line_offence n) [] ls

-- ---- 3 BAHNHOF

-- "number, byte offset of column 13 in BAHNHOF from 0, name length"
abbrev pub stop_of : Line → Held StopRecord
stop_of l =
    held_line stop_columns
    (λ (l : Line). record { number = number (field_in stop_number l.text); offset = l.start + 12; size = name_length (field_in stop_names l.text) })
    l

-- the stops of BAHNHOF
abbrev pub stops_in : List ℕ → List StopRecord
stops_in f = held_in stop_of (lines_of f)

-- 001, 5.7: "The virtual stop number 9999999 is entered in the first line of the file to define the default value."
abbrev pub default_stop : ℕ
default_stop = 9999999

abbrev pub has_stop : ℕ → List StopRecord → Bool
has_stop n stops = some_of (λ (s : StopRecord). eqb s.number n) stops

-- "7 BAHNHOF stop 9999999 or ending 00000", 6
abbrev pub stop_offence : List StopRecord → ℕ → StopRecord → Option Offence
stop_offence earlier line s =
    given (eqb s.number default_stop || eqb (s.number % 100000) 0) 7 line <|> given (has_stop s.number earlier) 6 line

-- document 02, No. 3: "at load 39 after 4 for a bad list", so before those
abbrev pub named_stop_offence : List StopRecord → ℕ → List ℕ → StopRecord → Option Offence
named_stop_offence earlier line text s = given (not (is_name_list (name_field text))) 39 line <|> stop_offence earlier line s

-- 4, then these
abbrev pub stop_line_offence : List Line → Line → Option Offence
stop_line_offence before l = held_offence (named_stop_offence (held_in stop_of before) l.no l.text) l.no (stop_of l)

unfoldable pub stops_first : List Line → Option Offence
stops_first ls = first stop_line_offence [] ls

-- ---- 4 UMSTEIGB

abbrev pub interchange_of : Line → Held Interchange
interchange_of l =
    held_line interchange_columns
    (λ (l : Line). record { number = number (field_in interchange_stop l.text); first_time = number (field_in interchange_first l.text); second_time = number (field_in interchange_second l.text) })
    l

-- the records of UMSTEIGB
abbrev pub interchanges_in : List ℕ → List Interchange
interchanges_in f = held_in interchange_of (lines_of f)

abbrev pub has_interchange : ℕ → List Interchange → Bool
has_interchange n records = some_of (λ (c : Interchange). eqb c.number n) records

-- "7 first UMSTEIGB record not 9999999"; after it 6, "9 UMSTEIGB (after its first record) .. stop not in BAHNHOF"
abbrev pub interchange_offence : List StopRecord → List Interchange → ℕ → Interchange → Option Offence
interchange_offence stops [] line c = given (not (eqb c.number default_stop)) 7 line
interchange_offence stops (e ∷ earlier) line c = given (has_interchange c.number (e ∷ earlier)) 6 line <|> given (not (has_stop c.number stops)) 9 line

-- 4, then those
abbrev pub interchange_line_offence : List StopRecord → List Line → Line → Option Offence
interchange_line_offence stops before l = held_offence (interchange_offence stops (held_in interchange_of before) l.no) l.no (interchange_of l)

-- "2 UMSTEIGB without a record", at "lines + 1" (skipped lines count too), after the own checks of its lines
unfoldable pub interchanges_first : List StopRecord → List Line → Option Offence
interchanges_first stops ls =
    first (interchange_line_offence stops) [] ls
    <|> given (eqb (length (held_in interchange_of ls)) 0) 2 (length ls + 1)

-- ---- 6 ZUGART (document 02, No. 1): "its lengths and lines checked after UMSTEIGB's"

-- "code 1-3", "class 5-6"
abbrev pub class_of : Line → Held CategoryClass
class_of l =
    held_line class_columns
    (λ (l : Line). record { code = three_bytes class_code.from l.text; class = number (field_in class_number l.text) })
    l

-- the categories of ZUGART
abbrev pub classes_in : List ℕ → List CategoryClass
classes_in f = held_in class_of (lines_of f)

abbrev pub has_class : ℕ → List CategoryClass → Bool
has_class code classes = some_of (λ (c : CategoryClass). eqb c.code code) classes

-- "tariff group 8 (A to H or blank)": whether a line has one
abbrev pub has_tariff : List ℕ → Bool
has_tariff text = not (is_blank (column class_tariff.from text))

-- whether the lines of a file have one, in order, those that are skipped left out
abbrev pub tariff_of : Line → Held Bool
tariff_of l = held_line class_columns (λ (l : Line). has_tariff l.text) l

-- "37 for a tariff group missing or alone (first line that has one where the file's first has none, or the other way)"
abbrev pub tariff_offence : List Bool → ℕ → Bool → Option Offence
tariff_offence [] line has = none
tariff_offence (first ∷ earlier) line has = given (cond first (not has) has) 37 line

-- "6 for a repeated code, then 37"
abbrev pub class_offence : List CategoryClass → List Bool → ℕ → List ℕ → CategoryClass → Option Offence
class_offence earlier tariffs line text c = given (has_class c.code earlier) 6 line <|> tariff_offence tariffs line (has_tariff text)

-- 4, then those
abbrev pub class_line_offence : List Line → Line → Option Offence
class_line_offence before l = held_offence (class_offence (held_in class_of before) (held_in tariff_of before) l.no l.text) l.no (class_of l)

unfoldable pub classes_first : List Line → Option Offence
classes_first ls = first class_line_offence [] ls
