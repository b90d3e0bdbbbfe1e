-- Range ends on route R of document 01, as a draft holds it, its calls on lines 5 to 8: "1000011 (dep 00800), 1000022 (00810, 00812), 1000033 (00830, 00835),
-- 1000022 (arr 00855)". An end that is not found answers 16. Assumes nothing.
use mathlib.Core.Path.{◌≡◌, refl}
use mathlib.Core.List.{List, [], ◌∷◌}
use mathlib.Core.Bool.{true, false}
use mathlib.Core.Option.{none, some}
use Prim.Native.Nat.{ℕ}
use Rattle.fields.specs.declared.RangeEnd.TheVariants.{Index, Stop}
use Rattle.fields.specs.declared.Detail.{Detail}
use Rattle.fields.specs.declared.Detail.TheVariants.{Plain, Nth, Timed}
use Rattle.timetable.specs.Ranges.{places, last_place, from_place, to_place, legs_of}
use Rattle.timetable.specs.Table.{rows_in}
use Rattle.timetable.specs.declared.Call.{Call}
use Rattle.timetable.specs.declared.End.{End}
use Rattle.draft.specs.Inner.Draft.{calls_in}

abbrev route_r : List Call
route_r =
    calls_in 4
    (1000011 ∷ 0 ∷ 480 ∷ 2 ∷ 42 ∷ 4605266 ∷ 5396831 ∷ 5
    ∷ 1000022 ∷ 490 ∷ 492 ∷ 3 ∷ 42 ∷ 4605266 ∷ 5396831 ∷ 6
    ∷ 1000033 ∷ 510 ∷ 515 ∷ 3 ∷ 42 ∷ 4605266 ∷ 5396831 ∷ 7
    ∷ 1000022 ∷ 535 ∷ 0 ∷ 1 ∷ 42 ∷ 4605266 ∷ 5396831 ∷ 8
    ∷ [])

abbrev stop : ℕ → Detail → End
stop n d = record { place = Stop (record { 0 = n }); detail = d }

abbrev index : ℕ → End
index k = record { place = Index (record { 0 = k }); detail = Plain }

abbrev nth : ℕ → Detail
nth k = Nth (record { 0 = k })

-- "On R, to 1000022 is 3, from it is 1, to with "#0" or " 00810" is 1, "#2" answers 16, from "#4" answers 16."
pub to-it : to_place route_r (stop 1000022 Plain) ≡ some 3
unfolding rows_in places last_place to_place
to-it = refl

pub from-it : from_place route_r (stop 1000022 Plain) ≡ some 1
unfolding rows_in places from_place
from-it = refl

pub to-first-appearance : to_place route_r (stop 1000022 (nth 0)) ≡ some 1
unfolding rows_in places to_place
to-first-appearance = refl

pub to-arrival : to_place route_r (stop 1000022 (Timed 490)) ≡ some 1
unfolding rows_in places last_place to_place
to-arrival = refl

pub no-third-appearance : to_place route_r (stop 1000022 (nth 2)) ≡ none
unfolding rows_in places to_place
no-third-appearance = refl

pub no-fifth-call : from_place route_r (index 4) ≡ none
unfolding rows_in from_place
no-fifth-call = refl

-- a departure is no arrival, and a time that is absent is no 0
pub to-no-departure : to_place route_r (stop 1000022 (Timed 492)) ≡ none
unfolding rows_in places last_place to_place
to-no-departure = refl

pub from-no-absent : from_place route_r (stop 1000022 (Timed 0)) ≡ none
unfolding rows_in places from_place
from-no-absent = refl

-- from may equal to only in a loose range
pub strict-empty : legs_of false route_r (record { from = index 1; to = index 1 }) ≡ none
unfolding rows_in from_place to_place legs_of
strict-empty = refl

pub loose-empty : legs_of true route_r (record { from = index 1; to = index 1 }) ≡ some (record { from = 1; to = 1 })
unfolding rows_in from_place to_place legs_of
loose-empty = refl
