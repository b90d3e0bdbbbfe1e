-- What FPLAN's clean text can hold and gives back (document 02, No. 11): "44 for a value that its columns cannot hold or that would answer 4 when read", or
-- that would be read as another. One test for each kind of line; what 21 refuses is not asked again. Assumes nothing.
use Rattle.std.specs.Prelude.{ℕ, ◌/◌, ◌%◌, Bool, not, ◌&&◌, ◌||◌, ltb, leb, eqb}
use Rattle.base.specs.Lists.{every}
use Rattle.columns.specs.Columns.{is_blank}
use Rattle.timetable.specs.Delivery.{CategoryRange, DayRange, ExtraRange, Service}
use Rattle.timetable.specs.Plan.{VE}
use Rattle.timetable.specs.Ranges.{has_arrival, has_departure}
use Rattle.timetable.specs.declared.Opening.{Opening}
use Rattle.timetable.specs.declared.Call.{Call}
use Rattle.line_text.specs.Text.{two_of, three_of}
use Rattle.line_text.specs.Laid.{not_lf}
use Rattle.plan_text.specs.PlanText.{no_alighting, no_boarding}

-- ---- bytes

-- "non-blank bytes"; a line ends at an LF
abbrev pub filled_byte : ℕ → Bool
filled_byte b = not (is_blank b) && not_lf b

-- "10-15 six non-blank bytes": each half is a word of three bytes. Of a call, 50-55: some blanks answer 4, six would repeat the call before.
unfoldable pub half_writable : ℕ → Bool
half_writable n = ltb n 16777216 && every filled_byte (three_of n)

abbrev pub administration_writable : ℕ → ℕ → Bool
administration_writable high low = half_writable high && half_writable low

-- ---- lines

-- "4-8 digits"; "One or more repeats need an offset of at least 1, else 4." (Of a *T 21 has refused a density 0.)
unfoldable pub opening_writable : Opening → Bool
opening_writable o = ltb o.number 100000 && (administration_writable o.high o.low && (eqb o.repeats 0 || leb 1 o.offset))

-- "4-6 category (4 not blank)"
unfoldable pub name_writable : ℕ → Bool
name_writable name = ltb name 16777216 && (not (is_blank (name / 65536 % 256)) && every not_lf (three_of name))

abbrev pub category_writable : CategoryRange → Bool
category_writable r = name_writable r.name

-- "bit fields as six digits"
abbrev pub field_writable : ℕ → Bool
field_writable n = ltb n 1000000

abbrev pub days_writable : DayRange → Bool
days_writable r = field_writable r.field

-- "4-5 code (4 not blank; "VE" means operating days)": another *A would be read as one of those
unfoldable pub code_writable : ℕ → Bool
code_writable code = ltb code 65536 && (not (is_blank (code / 256 % 256)) && (every not_lf (two_of code) && not (eqb code VE)))

abbrev pub extra_writable : ExtraRange → Bool
extra_writable r = code_writable r.code && field_writable r.field

-- a time that is not stated is blank: it reads as 0, and forbids nothing
abbrev pub time_writable : Bool → Bool → ℕ → Bool
time_writable stated barred minutes = stated || (not barred && eqb minutes 0)

abbrev pub times_writable : Call → Bool
times_writable c = time_writable (has_arrival c) (no_alighting c) c.arrival && time_writable (has_departure c) (no_boarding c) c.departure

-- "1-7 digits", "44-48 digits"
unfoldable pub call_writable : Call → Bool
call_writable c = ltb c.stop 10000000 && (ltb c.number 100000 && (administration_writable c.high c.low && times_writable c))

-- ---- a service

unfoldable pub service_writable : Service → Bool
service_writable s =
    opening_writable s.opening
    && (every category_writable s.categories
    && (every days_writable s.days
    && (every extra_writable s.extras
    && every call_writable s.calls)))
