-- Each answer of a connection, on the trial week's table and on changed copies of it. Assumes nothing.
use Rattle.std.specs.Prelude.{Ok}
use Prim.Native.Nat.{ℕ, zero, suc, ◌+◌}
use mathlib.Core.Path.{◌≡◌, refl}
use mathlib.Core.List.{List, [], ◌∷◌, ◌++◌}
use lib.ListN.{take, drop, set}
use Rattle.base.specs.Lists.{every, some_of, count_if, find, upto}
use Rattle.bitfield.specs.BitField.{bit}
use Rattle.calendar.specs.Calendar.{years_before, months_before, exists, day_of}
use Rattle.timetable.specs.Offences.{◌<|>◌}
use Rattle.timetable.specs.Legs.{field_runs, stretches}
use Rattle.timetable.specs.Runs.{has_run, lateness, opening_sound}
use Rattle.timetable.specs.Table.{rows_in, service_at, services_in, stop_number_at, resolved, stops_at, table_of, record_sound, records_sound, head_sound, is_table}
use Rattle.timetable.specs.View.{interchange_at_stop, class_for}
use Rattle.timetable.specs.Run.{first_refusal, idle_legs, leading_legs, call_refusal, calls_refusal, stretch_course, day_course, course_on, service_course, run_of}
use Rattle.timetable.specs.Trial.{trial_words as words}
use Rattle.timetable.specs.declared.refusal.Refusal.TheVariants.{NoTable, NoSuchDate, OutsidePeriod, NoSuchService, NoSuchRun, LegCategoryNotOnce, CategoryUnlisted, PartsNotWhole, CallNotListed, NotBoardable, OtherStop, WaitTooShort}
use Rattle.connections.specs.Connection.{bad_part, stage_of, change_to, parts_after, connection_in, connection_asked}

-- a part of the one service in December 2025: its repeat, its day, and the calls where it is boarded and left
abbrev part : ℕ → ℕ → ℕ → ℕ → List ℕ
part repeat day board alight = 0 ∷ repeat ∷ day ∷ 12 ∷ 2025 ∷ board ∷ alight ∷ []

-- the trial week with repeats: 1000022 is left at 08:12 (call 1) and reached at 08:10 (call 1) and at 08:55 (call 3), each later by the offset for each repeat
abbrev repeating : ℕ → ℕ → List ℕ
repeating repeats offset = set (set words 40 repeats) 41 offset

-- one run after the other, an hour later each
unfoldable pub hourly : ℕ → ℕ → List ℕ
hourly zero r = []
hourly (suc n) r = part r 5 1 3 ++ hourly n (r + 1)

-- a lone part; the day after, and the day before; "46 not 1 to 10 whole parts"
pub days : (connection_asked words (part 0 5 0 3) ≡ Ok tt)
    × (connection_asked words (part 0 4 1 3 ++ part 0 5 1 3) ≡ Ok tt)
    × (connection_asked words (part 0 5 1 3 ++ part 0 4 1 3) ≡ bad_part WaitTooShort 2)
    × (connection_asked (repeating 9 60) (hourly 10 0) ≡ Ok tt)
    × (connection_asked (repeating 10 60) (hourly 11 0) ≡ bad_part PartsNotWhole 0)
    × (connection_asked words [] ≡ bad_part PartsNotWhole 0)
    × (connection_asked words (take 6 (part 0 5 0 3)) ≡ bad_part PartsNotWhole 0)
    × (connection_asked words (part 0 5 0 3 ++ (0 ∷ [])) ≡ bad_part PartsNotWhole 0)
    × (connection_asked (take 81 words) [] ≡ bad_part NoTable 0)
unfolding every some_of count_if find upto bit years_before months_before exists day_of ◌<|>◌ field_runs stretches rows_in service_at services_in stop_number_at resolved stops_at table_of record_sound records_sound head_sound is_table interchange_at_stop class_for first_refusal idle_legs leading_legs call_refusal calls_refusal stretch_course day_course course_on service_course run_of has_run lateness opening_sound stage_of change_to parts_after connection_in connection_asked hourly
days = (refl, refl, refl, refl, refl, refl, refl, refl, refl)

-- the refusals of a part, here of the second of three: "the walk's own refusals", 47 (also where it does not run that day), 48
pub stages : (connection_asked words (part 0 1 1 3 ++ (part 0 31 0 3 ++ part 9 5 0 3)) ≡ bad_part OutsidePeriod 2)
    × (connection_asked words (part 0 1 1 3 ++ (part 0 32 0 3 ++ part 9 5 0 3)) ≡ bad_part NoSuchDate 2)
    × (connection_asked words (part 0 1 1 3 ++ (set (part 1 5 0 3) 0 1 ++ part 9 5 0 3)) ≡ bad_part NoSuchService 2)
    × (connection_asked words (part 0 1 1 3 ++ (part 1 5 0 3 ++ part 9 5 0 3)) ≡ bad_part NoSuchRun 2)
    × (connection_asked (set words 78 2) (part 0 1 1 3 ++ (part 0 5 0 3 ++ part 9 5 0 3)) ≡ bad_part LegCategoryNotOnce 1)
    × (connection_asked words (part 0 1 1 3 ++ (part 0 6 0 3 ++ part 9 5 0 3)) ≡ bad_part CallNotListed 2)
    × (connection_asked words (part 0 1 1 3 ++ (part 0 5 4 3 ++ part 9 5 0 3)) ≡ bad_part CallNotListed 2)
    × (connection_asked words (part 0 1 1 3 ++ (part 0 5 3 4 ++ part 9 5 0 3)) ≡ bad_part CallNotListed 2)
    × (connection_asked words (part 0 1 1 3 ++ (part 0 5 2 2 ++ part 9 5 0 3)) ≡ bad_part NotBoardable 2)
    × (connection_asked words (part 0 1 1 3 ++ (part 0 5 2 1 ++ part 9 5 0 3)) ≡ bad_part NotBoardable 2)
    × (connection_asked (set words 51 10) (part 0 1 1 3 ++ (part 0 5 0 3 ++ part 9 5 0 3)) ≡ bad_part NotBoardable 2)
    × (connection_asked (set words 72 5) (part 0 1 1 2 ++ (part 0 5 2 3 ++ part 9 5 0 3)) ≡ bad_part NotBoardable 2)
unfolding every some_of count_if find upto bit years_before months_before exists day_of ◌<|>◌ field_runs stretches rows_in service_at services_in stop_number_at resolved stops_at table_of record_sound records_sound head_sound is_table interchange_at_stop class_for first_refusal idle_legs leading_legs call_refusal calls_refusal stretch_course day_course course_on service_course run_of has_run lateness opening_sound stage_of change_to parts_after connection_in connection_asked
stages = (refl, refl, refl, refl, refl, refl, refl, refl, refl, refl, refl, refl)

-- two categories: the first leg's is BAT, of class 4, the others' is 65, of class 2
abbrev listing : List ℕ → List ℕ
listing w = set (set (set (set (set (take 36 w) 0 87) 7 38) 8 2 ++ (65 ∷ 2 ∷ drop 36 w)) 38 49) 45 2

abbrev categories : List ℕ → List ℕ
categories w = take 78 (listing w) ++ (4342100 ∷ 0 ∷ 1 ∷ 65 ∷ 1 ∷ 3 ∷ drop 81 (listing w))

-- the changes: BAT asks for 3 minutes, and a wait of 3 is enough; staying on the same run is a change like any other; the leg arriving is that into the call;
-- "49 other stop, 38, 50"
pub changes : (connection_asked (repeating 1 46) (part 0 5 1 3 ++ part 1 5 1 3) ≡ Ok tt)
    × (connection_asked (repeating 1 45) (part 0 5 1 3 ++ part 1 5 1 3) ≡ bad_part WaitTooShort 2)
    × (connection_asked words (part 0 5 0 1 ++ part 0 5 1 3) ≡ bad_part WaitTooShort 2)
    × (connection_asked words (part 0 5 0 2 ++ part 0 5 2 3) ≡ Ok tt)
    × (connection_asked (categories (repeating 1 45)) (part 0 5 1 3 ++ part 1 5 1 3) ≡ Ok tt)
    × (connection_asked (categories (repeating 1 44)) (part 0 5 1 3 ++ part 1 5 1 3) ≡ bad_part WaitTooShort 2)
    × (connection_asked words (part 0 5 0 2 ++ part 0 5 1 3) ≡ bad_part OtherStop 2)
    × (connection_asked (set words 34 7) (part 0 5 0 2 ++ part 0 5 1 3) ≡ bad_part OtherStop 2)
    × (connection_asked (set words 34 7) (part 0 5 0 1 ++ part 0 5 1 3) ≡ bad_part CategoryUnlisted 2)
    × (connection_asked (set words 34 7) (part 0 5 0 3) ≡ Ok tt)
    × (connection_asked words (part 0 5 0 1 ++ (part 0 5 1 3 ++ part 0 32 0 3)) ≡ bad_part WaitTooShort 2)
unfolding every some_of count_if find upto bit years_before months_before exists day_of ◌<|>◌ field_runs stretches rows_in service_at services_in stop_number_at resolved stops_at table_of record_sound records_sound head_sound is_table interchange_at_stop class_for first_refusal idle_legs leading_legs call_refusal calls_refusal stretch_course day_course course_on service_course run_of has_run lateness opening_sound stage_of change_to parts_after connection_in connection_asked
changes = (refl, refl, refl, refl, refl, refl, refl, refl, refl, refl, refl)
