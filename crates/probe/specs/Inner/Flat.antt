-- The ground's answers as numbers, and the numbers by which its classes and line kinds are asked for. Assumes nothing.
use Rattle.std.specs.Prelude.{ℕ, Bool, cond, eqb, Option, Some, None}
use Rattle.columns.specs.declared.ByteClass.{ByteClass}
use Rattle.columns.specs.declared.ByteClass.TheVariants.{Digit, Hex, Filled, Byte}
use Rattle.lines.specs.declared.Cut.{Cut}
use Rattle.fields.specs.declared.Time.{Time}
use Rattle.fields.specs.declared.Time.TheVariants.{Absent, Stated, NoTime}
use Rattle.fields.specs.declared.RangeEnd.{RangeEnd}
use Rattle.fields.specs.declared.RangeEnd.TheVariants.{Outer, Index, Stop, NoEnd}
use Rattle.fields.specs.declared.Detail.{Detail}
use Rattle.fields.specs.declared.Detail.TheVariants.{Plain, Nth, Timed, NoDetail}
use Rattle.forms.specs.declared.Kind.{Kind}
use Rattle.forms.specs.declared.Kind.TheVariants.{Opening, Frequency, Category, Attribute, Schedule, Other}
use Rattle.forms.specs.Form.{Form, Fits, Broken}
use Rattle.forms.specs.declared.LineKind.{LineKind}
use Rattle.forms.specs.declared.LineKind.TheVariants as K
use Rattle.probe.specs.declared.Step.{Step}
use Rattle.probe.specs.declared.Told.{Told}

-- ---- answers

abbrev pub flat_cut : Cut → Step
flat_cut c = record { stop = c.stop; next = c.next; no = c.no }

abbrev pub no_step : Step
no_step = record { stop = 0; next = 0; no = 0 }

abbrev pub told : ℕ → ℕ → Told
told k v = record { kind = k; value = v }

-- a stated time's kind says whether it is barred
abbrev pub flat_time : Time → Told
flat_time Absent = told 0 0
flat_time (Stated minutes barred) = told (cond barred 2 1) minutes
flat_time NoTime = told 3 0

abbrev pub flat_end : RangeEnd → Told
flat_end Outer = told 0 0
flat_end (Index i) = told 1 i.0
flat_end (Stop n) = told 2 n.0
flat_end NoEnd = told 3 0

abbrev pub flat_detail : Detail → Told
flat_detail Plain = told 0 0
flat_detail (Nth k) = told 1 k.0
flat_detail (Timed minutes) = told 2 minutes
flat_detail NoDetail = told 3 0

abbrev pub flat_number : Option ℕ → Told
flat_number (Some n) = told 1 n
flat_number None = told 0 0

abbrev pub flat_kind : Kind → ℕ
flat_kind Opening = 1
flat_kind Category = 2
flat_kind Attribute = 3
flat_kind Schedule = 4
flat_kind Frequency = 5
flat_kind Other = 0

-- 0, or the broken column
abbrev pub flat_form : Form → ℕ
flat_form Fits = 0
flat_form (Broken c) = c

-- ---- what is asked for

-- class k; 3 is the byte m
abbrev pub class_of : ℕ → ℕ → ByteClass
class_of k m = cond (eqb k 0) Digit (cond (eqb k 1) Hex (cond (eqb k 2) Filled (Byte m)))

-- line kind k, in the order of the paper's table; 8 is *T, 9 a line of ZUGART
abbrev pub line_kind : ℕ → LineKind
line_kind k =
    cond (eqb k 0) K.Date
    (cond (eqb k 1) K.BitField
    (cond (eqb k 2) K.Stop
    (cond (eqb k 3) K.Interchange
    (cond (eqb k 4) K.Opening
    (cond (eqb k 5) K.Category
    (cond (eqb k 6) K.Attribute
    (cond (eqb k 8) K.Frequency
    (cond (eqb k 9) K.CategoryClass
    K.Schedule))))))))
