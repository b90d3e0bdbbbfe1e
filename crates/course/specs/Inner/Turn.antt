-- What the operating-day ranges of a service say of a day, range by range, where they follow each other. Assumes nothing.
use Rattle.std.specs.Prelude.{ℕ, List, [], ◌∷◌, Bool, cond, eqb, Result, Ok, Err}
use Rattle.timetable.specs.Delivery.{DayRange}
use Rattle.timetable.specs.View.{View}
use Rattle.timetable.specs.declared.refusal.Refusal.{Refusal}
use Rattle.timetable.specs.declared.refusal.Refusal.TheVariants.{LegFieldUnknown}
use Rattle.course.specs.declared.legs.DayLegs.{DayLegs}

-- before the first range
abbrev pub no_legs : DayLegs
no_legs = record { start = 0; end = 0; again = 0 }

-- the legs so far, which end at `from`, with those from there to `to`, all operated
unfoldable pub with_operated : ℕ → ℕ → DayLegs → DayLegs
with_operated from to l = cond (eqb l.end from) (record { start = l.start; end = to; again = to }) l

-- with those, none operated
unfoldable pub with_idle : ℕ → ℕ → DayLegs → DayLegs
with_idle from to l =
    cond (eqb l.start from) (record { start = to; end = to; again = to })
    (cond (eqb l.again from) (record { start = l.start; end = l.end; again = to }) l)

abbrev pub with_range : Bool → ℕ → ℕ → DayLegs → DayLegs
with_range runs from to l = cond runs (with_operated from to l) (with_idle from to l)

-- with all ranges, on day d; 31 where one has an unknown bit field
unfoldable pub ranges_say : View → ℕ → DayLegs → List DayRange → Result DayLegs Refusal
ranges_say v d l [] = Ok l
ranges_say v d l (r ∷ rs) = cond (v.known r.field) (ranges_say v d (with_range (v.runs r.field d) r.legs.from r.legs.to l) rs) (Err LegFieldUnknown)
