-- FPLAN, line by line: what each kind of line says. Assumes nothing.
use Rattle.std.specs.Prelude.{ℕ, ◌+◌, ◌*◌, List, [], ◌∷◌, map, Bool, true, false, cond, not, eqb, Option, Some, None}
use Rattle.base.specs.Lists.{gathered}
use Rattle.columns.specs.Columns.{column, blank, number}
use Rattle.columns.specs.LineFields.{field_in, opening_number, opening_administration, opening_repeats, opening_offset, frequency_time, frequency_density}
use Rattle.columns.specs.LineFields.{category_name, category_from, category_to, category_from_detail, category_to_detail}
use Rattle.columns.specs.LineFields.{attribute_code, attribute_from, attribute_to, attribute_bit_field, attribute_from_detail, attribute_to_detail}
use Rattle.columns.specs.LineFields.{call_stop, call_arrival, call_departure, call_number, call_administration}
use Rattle.lines.specs.Lines.{Line, skipped}
use Rattle.fields.specs.Fields.{time, range_end, detail}
use Rattle.fields.specs.declared.Time.{Time}
use Rattle.fields.specs.declared.Time.TheVariants.{Absent, Stated, NoTime}
use Rattle.forms.specs.Form.{form_of, Form, Fits, Broken as BrokenForm}
use Rattle.forms.specs.Columns.{service_columns, frequency_columns, category_columns, attribute_columns, call_columns}
use Rattle.forms.specs.Kinds.{kind_of}
use Rattle.forms.specs.declared.Kind.{Kind}
use Rattle.forms.specs.declared.Kind.TheVariants.{Opening as OpeningKind, Frequency, Category as CategoryKind, Attribute, Schedule, Other as OtherKind}
use Rattle.timetable.specs.Layout.{kind_z, kind_t}
use Rattle.timetable.specs.declared.Opening.{Opening}
use Rattle.timetable.specs.declared.Administration.{Administration}
use Rattle.timetable.specs.declared.CallLine.{CallLine}
use Rattle.timetable.specs.declared.RangeKind.{RangeKind}
use Rattle.timetable.specs.declared.RangeKind.TheVariants.{Category, Days, Extra}
use Rattle.timetable.specs.declared.RangeLine.{RangeLine}
use Rattle.timetable.specs.declared.Told.{Told}
use Rattle.timetable.specs.declared.Told.TheVariants.{Skip, Other, Broken, Opens, Ranges, Calls}

-- "Bytes share a word first byte highest."
abbrev pub two_bytes : ℕ → List ℕ → ℕ
two_bytes c text = column c text * 256 + column (c + 1) text

abbrev pub three_bytes : ℕ → List ℕ → ℕ
three_bytes c text = two_bytes c text * 256 + column (c + 2) text

-- "*Z: 4-8 digits, 10-15 six non-blank bytes, 23-25 repeats and 27-29 offset"; "Blank repeats mean 0 and 0."
abbrev pub opening_in : List ℕ → Opening
opening_in text = record {
  number = number (field_in opening_number text);
  high = three_bytes opening_administration.from text;
  low = three_bytes (opening_administration.from + 3) text;
  repeats = number (field_in opening_repeats text);
  offset = number (field_in opening_offset text);
  kind = kind_z;
}

-- document 02, No. 8: "*T (section 5.3.3): running time in minutes 17-20, density in seconds 22-25"; "for kind 1 the repeats word holds the running time and
-- the offset word the density"
abbrev pub frequency_in : List ℕ → Opening
frequency_in text = record {
  number = number (field_in opening_number text);
  high = three_bytes opening_administration.from text;
  low = three_bytes (opening_administration.from + 3) text;
  repeats = number (field_in frequency_time text);
  offset = number (field_in frequency_density text);
  kind = kind_t;
}

-- "*G: 4-6 category .., 8-14 from, 16-22 to, 24-29 from-detail, 31-36 to-detail"
abbrev pub category_in : List ℕ → RangeLine
category_in text = record {
  part = Category;
  name = three_bytes category_name.from text;
  field = 0;
  ends = record {
    from = record { place = range_end (field_in category_from text); detail = detail (field_in category_from_detail text) };
    to = record { place = range_end (field_in category_to text); detail = detail (field_in category_to_detail text) };
  };
}

-- ""VE" means operating days": V is byte 86, E byte 69
abbrev pub VE : ℕ
VE = 22085

abbrev pub attribute_part : ℕ → RangeKind
attribute_part code = cond (eqb code VE) Days Extra

-- "*A: 4-5 code .., 7-13 from, 15-21 to, 23-28 bit field digits or blank, 30-35 and 37-42 details"; "A blank bit field means 000000, daily."
abbrev pub attribute_in : List ℕ → RangeLine
attribute_in text = record {
  part = attribute_part (two_bytes attribute_code.from text);
  name = two_bytes attribute_code.from text;
  field = number (field_in attribute_bit_field text);
  ends = record {
    from = record { place = range_end (field_in attribute_from text); detail = detail (field_in attribute_from_detail text) };
    to = record { place = range_end (field_in attribute_to text); detail = detail (field_in attribute_to_detail text) };
  };
}

-- "absent time 0"
abbrev pub minutes_of : Time → ℕ
minutes_of Absent = 0
minutes_of (Stated minutes barred) = minutes
minutes_of NoTime = 0

-- "flags: 1 arrival, 2 departure, 4 no alighting, 8 no boarding": f for a stated time, and four times that where "-" forbids
abbrev pub flags_of : ℕ → Time → ℕ
flags_of f Absent = 0
flags_of f (Stated minutes barred) = f + cond barred (4 * f) 0
flags_of f NoTime = 0

-- what columns 44-48 and 50-55 of a schedule line say, where they are not blank
abbrev pub number_said : List ℕ → Option ℕ
number_said text = cond (blank (field_in call_number text)) None (Some (number (field_in call_number text)))

abbrev pub administration_said : List ℕ → Option Administration
administration_said text =
    cond (blank (field_in call_administration text)) None (Some (record { high = three_bytes call_administration.from text; low = three_bytes (call_administration.from + 3) text }))

-- "schedule: 1-7 digits, .., 30-35 arrival, 37-42 departure, 44-48 digits or blank, 50-55 all or no blanks"; document 02, No. 5: "Columns 44-48 and
-- 50-55 of schedule lines are now kept", the number and the administration, each of which may be blank without the other
abbrev pub call_in : List ℕ → CallLine
call_in text = record {
  stop = number (field_in call_stop text);
  arrival = minutes_of (time (field_in call_arrival text));
  departure = minutes_of (time (field_in call_departure text));
  flags = flags_of 1 (time (field_in call_arrival text)) + flags_of 2 (time (field_in call_departure text));
  number = number_said text;
  administration = administration_said text;
}

-- a line of a kind says what is read from it, if it has the form
abbrev pub formed : Form → Told → Told
formed Fits t = t
formed (BrokenForm c) t = Broken c

abbrev pub told_by : Kind → List ℕ → Told
told_by OpeningKind text = formed (form_of service_columns text) (Opens (opening_in text))
told_by Frequency text = formed (form_of frequency_columns text) (Opens (frequency_in text))
told_by CategoryKind text = formed (form_of category_columns text) (Ranges (category_in text))
told_by Attribute text = formed (form_of attribute_columns text) (Ranges (attribute_in text))
told_by Schedule text = formed (form_of call_columns text) (Calls (call_in text))
told_by OtherKind text = Other

-- what a line says: nothing where it is skipped, else what its kind reads
unfoldable pub told_in : List ℕ → Told
told_in text = cond (skipped text) Skip (told_by (kind_of text) text)

-- whether a line opens a service, whatever its form
abbrev pub is_opening : Kind → Bool
is_opening OpeningKind = true
is_opening Frequency = true
is_opening CategoryKind = false
is_opening Attribute = false
is_opening Schedule = false
is_opening OtherKind = false

unfoldable pub opens_service : Line → Bool
opens_service l = is_opening (kind_of l.text)

-- what lines say, in order
unfoldable pub tolds : List Line → List Told
tolds [] = []
tolds (l ∷ ls) = told_in l.text ∷ tolds ls

-- ---- what is said of each kind. "Only schedule lines are taken as calls; every other kind is passed over when the route is gathered."

abbrev pub as_call : Told → List CallLine
as_call Skip = []
as_call Other = []
as_call (Broken c) = []
as_call (Opens o) = []
as_call (Ranges r) = []
as_call (Calls c) = c ∷ []

abbrev pub as_opening : Told → List Opening
as_opening Skip = []
as_opening Other = []
as_opening (Broken c) = []
as_opening (Opens o) = o ∷ []
as_opening (Ranges r) = []
as_opening (Calls c) = []

abbrev pub as_range : Told → List RangeLine
as_range Skip = []
as_range Other = []
as_range (Broken c) = []
as_range (Opens o) = []
as_range (Ranges r) = r ∷ []
as_range (Calls c) = []

abbrev pub ranges_of : List Line → List RangeLine
ranges_of ls = gathered as_range (tolds ls)

-- the three kinds of ranges, numbered in the table's order
abbrev pub part_number : RangeKind → ℕ
part_number Category = 0
part_number Days = 1
part_number Extra = 2

abbrev pub is_part : RangeKind → RangeLine → Bool
is_part p r = eqb (part_number r.part) (part_number p)

abbrev pub of_part : RangeKind → RangeLine → List RangeLine
of_part p r = cond (is_part p r) (r ∷ []) []

-- the ranges of one kind, in line order
abbrev pub part_lines : RangeKind → List Line → List RangeLine
part_lines p ls = gathered (of_part p) (ranges_of ls)

-- what is said of a kind, each with the number of its line
unfoldable pub said_on : {X : Type 0} → (Told → List X) → List Line → List (ℕ × X)
said_on say ls = gathered (λ (l : Line). map (λ x. (l.no, x)) (say (told_in l.text))) ls
