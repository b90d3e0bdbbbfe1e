-- The services of FPLAN: the lines of each, and what they hold. Assumes nothing.
use Rattle.std.specs.Prelude.{ℕ, List, [], ◌∷◌, map, Bool, true, false, cond}
use Rattle.std.specs.Option.{unwrap_or}
use Rattle.std.proofs.Math.Option.{Option, none, some}
use Rattle.base.specs.Lists.{gathered}
use Rattle.lines.specs.Lines.{Line}
use Rattle.timetable.specs.Delivery.{Legs, CategoryRange, DayRange, ExtraRange, Service}
use Rattle.timetable.specs.Plan.{told_in, opens_service, as_call, as_opening, part_lines, said_on}
use Rattle.timetable.specs.Ranges.{legs_of}
use Rattle.timetable.specs.declared.Opening.{Opening}
use Rattle.timetable.specs.declared.Announced.{Announced}
use Rattle.timetable.specs.declared.Call.{Call}
use Rattle.timetable.specs.declared.Administration.{Administration}
use Rattle.timetable.specs.declared.CallLine.{CallLine}
use Rattle.timetable.specs.declared.RangeKind.{RangeKind}
use Rattle.timetable.specs.declared.RangeKind.TheVariants.{Category, Days, Extra}
use Rattle.timetable.specs.declared.RangeLine.{RangeLine}

-- the lines before the first that opens a service
unfoldable pub head_lines : List Line → List Line
head_lines [] = []
head_lines (l ∷ ls) = cond (opens_service l) [] (l ∷ head_lines ls)

-- the lines of each service: from a *Z line, or (document 02, No. 8) a *T line, to the next of either
unfoldable pub blocks : List Line → List (List Line)
blocks [] = []
blocks (l ∷ ls) = cond (opens_service l) ((l ∷ head_lines ls) ∷ blocks ls) (blocks ls)

-- the line that opens a service (a service always has one)
abbrev pub first_line : List Line → Line
first_line [] = record { no = 0; start = 0; text = [] }
first_line (l ∷ ls) = l

-- what it says (where its form is broken the delivery is refused: 4)
abbrev pub first_opening : List Opening → Opening
first_opening [] = record { number = 0; high = 0; low = 0; repeats = 0; offset = 0; kind = 0 }
first_opening (o ∷ os) = o

abbrev pub opening_of : List Line → Opening
opening_of ls = first_opening (as_opening (told_in (first_line ls).text))

-- ---- document 02, No. 5: "Conductors announce the number that holds from a call on." "A blank field repeats the call before; the first call's
-- blanks take the *Z values." No. 8: "the *Z values of No. 5, may be a *T's".

-- the opening line's values, and what holds at a call
abbrev pub opened : Opening → Announced
opened o = record { number = o.number; high = o.high; low = o.low }

abbrev pub announced : Call → Announced
announced c = record { number = c.number; high = c.high; low = c.low }

-- what a schedule line says, else what a says
abbrev pub administration_by : Announced → CallLine → Administration
administration_by a l = unwrap_or l.administration (record { high = a.high; low = a.low })

-- the call of a schedule line, where a held before it: of its two fields, number and administration, each that is blank repeats a's
abbrev pub call_by : Announced → CallLine → Call
call_by a l = record {
  stop = l.stop;
  arrival = l.arrival;
  departure = l.departure;
  flags = l.flags;
  number = unwrap_or l.number a.number;
  high = (administration_by a l).high;
  low = (administration_by a l).low;
}

-- calls one after the other, where a held before the first; each with the number of its line
unfoldable pub holding : Announced → List (ℕ × CallLine) → List (ℕ × Call)
holding a [] = []
holding a (l ∷ ls) = (l.0, call_by a l.1) ∷ holding (announced (call_by a l.1)) ls

-- the calls of a service, each with the number of its line, and without
unfoldable pub called_on : List Line → List (ℕ × Call)
called_on ls = holding (opened (opening_of ls)) (said_on as_call ls)

abbrev pub calls_of : List Line → List Call
calls_of ls = map (λ (c : ℕ × Call). c.1) (called_on ls)

-- ---- ranges

-- a range whose ends are found; one that is not (16) holds nothing
abbrev pub with_legs : {X : Type 0} → (Legs → X) → Option Legs → List X
with_legs f none = []
with_legs f (some g) = f g ∷ []

-- "*G and operating-day ranges need from < to ..; other *A need from ≤ to" (these are loose)
abbrev pub loose : RangeKind → Bool
loose Category = false
loose Days = false
loose Extra = true

-- the calls between which a range lies, where its line has both ends on the route and in order
abbrev pub legs_on : List Call → RangeLine → Option Legs
legs_on cs r = legs_of (loose r.part) cs r.ends

abbrev pub category_range : List Call → RangeLine → List CategoryRange
category_range cs r = with_legs (λ (x : Legs). record { name = r.name; legs = x }) (legs_on cs r)

abbrev pub day_range : List Call → RangeLine → List DayRange
day_range cs r = with_legs (λ (x : Legs). record { field = r.field; legs = x }) (legs_on cs r)

abbrev pub extra_range : List Call → RangeLine → List ExtraRange
extra_range cs r = with_legs (λ (x : Legs). record { code = r.name; field = r.field; legs = x }) (legs_on cs r)

-- ---- what a service's lines hold

unfoldable pub service_of : List Line → Service
service_of ls = record {
  line = (first_line ls).no;
  opening = opening_of ls;
  calls = calls_of ls;
  categories = gathered (category_range (calls_of ls)) (part_lines Category ls);
  days = gathered (day_range (calls_of ls)) (part_lines Days ls);
  extras = gathered (extra_range (calls_of ls)) (part_lines Extra ls);
}
