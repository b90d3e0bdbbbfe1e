-- Files 2, 3, 4 and 6 side by side: what is said of each in the crate timetable, by the section of the table that it gives. Assumes nothing.
use Rattle.std.specs.Prelude.{ℕ, ◌+◌, List, [], ◌∷◌, Bool, true, false, cond, length, replicate, eqb, Result}
use Rattle.std.proofs.Math.Option.{Option, none, some}
use Rattle.base.specs.Lists.{every, some_of, find, gathered}
use Rattle.columns.specs.Columns.{number}
use Rattle.columns.specs.LineFields.{field_in, bit_field_number, stop_number, interchange_stop, class_code}
use Rattle.lines.specs.Lines.{Line, lines_of, skipped}
use Rattle.bitfield.specs.BitField.{bit_words, bits_in}
use Rattle.forms.specs.Form.{form_of, Form, Fits, Broken as BrokenForm}
use Rattle.forms.specs.Columns.{columns_of}
use Rattle.forms.specs.declared.LineKind.{LineKind}
use Rattle.forms.specs.declared.LineKind.TheVariants.{BitField as BitFieldLine, Stop, Interchange, CategoryClass}
use Rattle.timetable.specs.Delivery.{BitField, StopRecord, Interchange as InterchangeRecord}
use Rattle.timetable.specs.Offences.{form_offence, first, verdict_by, checked_by}
use Rattle.timetable.specs.Files.{held_in, bit_field_of, bit_field_offence, stop_of, named_stop_offence, interchange_of, interchange_offence, class_of, tariff_of, class_offence}
use Rattle.timetable.specs.Files.{bit_fields_in, bit_fields_first, stops_in, stops_first, interchanges_in, interchanges_first}
use Rattle.timetable.specs.Plan.{three_bytes}
use Rattle.timetable.specs.declared.Offence.{Offence}
use Rattle.sections.specs.declared.Section.{Section}
use Rattle.sections.specs.declared.Section.TheVariants.{BitFields, Stops, Interchanges, Classes}
use Rattle.sections.specs.declared.Numbered.{Numbered}
use Rattle.sections.specs.declared.Numbered.TheVariants.{Number, Skipped, Broken}

-- ---- the number of the record on a line

-- the kind of its lines
abbrev pub line_kind : Section → LineKind
line_kind BitFields = BitFieldLine
line_kind Stops = Stop
line_kind Interchanges = Interchange
line_kind Classes = CategoryClass

-- its number, which starts in column 1; a category's is its code
abbrev pub key_on : Section → List ℕ → ℕ
key_on BitFields text = number (field_in bit_field_number text)
key_on Stops text = number (field_in stop_number text)
key_on Interchanges text = number (field_in interchange_stop text)
key_on Classes text = three_bytes class_code.from text

abbrev pub numbered_by : Form → ℕ → Numbered
numbered_by Fits n = Number n
numbered_by (BrokenForm c) n = Broken c

unfoldable pub number_on : Section → List ℕ → Numbered
number_on s text = cond (skipped text) Skipped (numbered_by (form_of (columns_of (line_kind s)) text) (key_on s text))

abbrev pub as_number : Numbered → List ℕ
as_number Skipped = []
as_number (Broken column) = []
as_number (Number n) = n ∷ []

-- the numbers of the records of lines, in order
unfoldable pub numbers : Section → List Line → List ℕ
numbers s ls = gathered (λ (l : Line). as_number (number_on s l.text)) ls

abbrev pub has_number : ℕ → List ℕ → Bool
has_number n ns = some_of (λ (x : ℕ). eqb x n) ns

-- a line that is skipped or holds a record: its form is not broken
abbrev pub is_sound : Numbered → Bool
is_sound Skipped = true
is_sound (Broken column) = false
is_sound (Number n) = true

-- and all lines of a section
unfoldable pub sound_section : Section → List Line → Bool
sound_section s ls = every (λ (l : Line). is_sound (number_on s l.text)) ls

-- ---- records of which only this much matters

abbrev pub numbered_field : ℕ → List ℕ → BitField
numbered_field k text = record { number = k; words = bits_in text }

abbrev pub numbered_stop : ℕ → StopRecord
numbered_stop k = record { number = k; offset = 0; size = 0 }

abbrev pub numbered_interchange : ℕ → InterchangeRecord
numbered_interchange k = record { number = k; first_time = 0; second_time = 0 }

-- ---- what is wrong with a line

-- with the record of number k on a line, after the lines before it: its own offence looks at nothing else of the record but a bit field's words, a stop's name and
-- whether a category has a tariff group
unfoldable pub record_offence : Section → ℕ → List StopRecord → List Line → ℕ → List ℕ → ℕ → Option Offence
record_offence BitFields n stops before line text k = bit_field_offence n (held_in bit_field_of before) line (numbered_field k text)
record_offence Stops n stops before line text k = named_stop_offence (held_in stop_of before) line text (numbered_stop k)
record_offence Interchanges n stops before line text k = interchange_offence stops (held_in interchange_of before) line (numbered_interchange k)
record_offence Classes n stops before line text k = class_offence (held_in class_of before) (held_in tariff_of before) line text (record { code = k; class = 0 })

-- 4, then the record's own
abbrev pub numbered_offence : (ℕ → Option Offence) → ℕ → Numbered → Option Offence
numbered_offence own line Skipped = none
numbered_offence own line (Broken c) = form_offence (BrokenForm c) line
numbered_offence own line (Number k) = own k

-- a line's own offence after the lines before it
unfoldable pub line_offence : Section → ℕ → List StopRecord → List Line → Line → Option Offence
line_offence s n stops before l = numbered_offence (record_offence s n stops before l.no l.text) l.no (number_on s l.text)

-- the own checks of a line that has n for a number, after the part of its file before it
abbrev pub line_verdict : Section → ℕ → List ℕ → List ℕ → ℕ → List ℕ → Numbered → Result (Unit {0}) Offence
line_verdict s days bahnhof before line text n = verdict_by (numbered_offence (record_offence s days (stops_in bahnhof) (lines_of before) line text) line n)

abbrev pub interchange_verdict : List ℕ → List ℕ → ℕ → ℕ → Result (Unit {0}) Offence
interchange_verdict bahnhof before line k = verdict_by (interchange_offence (stops_in bahnhof) (interchanges_in before) line (numbered_interchange k))

-- ---- what the checks of whole files answer

abbrev pub section_checked : Section → ℕ → List ℕ → List ℕ → Result (ℕ × ℕ) Offence
section_checked s days bahnhof f = checked_by (first (line_offence s days (stops_in bahnhof)) [] (lines_of f)) (length (numbers s (lines_of f))) (length (lines_of f) + 1)

abbrev pub fields_checked : ℕ → List ℕ → Result (ℕ × ℕ) Offence
fields_checked days f = checked_by (bit_fields_first days (lines_of f)) (length (bit_fields_in f)) (length (lines_of f) + 1)

abbrev pub stops_checked : List ℕ → Result (ℕ × ℕ) Offence
stops_checked f = checked_by (stops_first (lines_of f)) (length (stops_in f)) (length (lines_of f) + 1)

abbrev pub interchanges_checked : List ℕ → List ℕ → Result (ℕ × ℕ) Offence
interchanges_checked bahnhof f = checked_by (interchanges_first (stops_in bahnhof) (lines_of f)) (length (interchanges_in f)) (length (lines_of f) + 1)

-- ---- the twelve words of a bit field that was found, zeros where there is none

abbrev pub words_by : Option BitField → List ℕ
words_by none = replicate bit_words 0
words_by (some f) = f.words

abbrev pub words_of : ℕ → List BitField → List ℕ
words_of number fields = words_by (find (λ (f : BitField). eqb f.number number) fields)
