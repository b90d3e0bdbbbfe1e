-- Each answer of the day question and of both interchange questions, on the trial week's table. Assumes nothing.
use Prim.Native.Nat.{ℕ}
use mathlib.Core.Path.{◌≡◌, refl}
use mathlib.Core.List.{List, ◌∷◌, ◌++◌}
use mathlib.Core.Bool.{true, false}
use Rattle.std.specs.Prelude.{Ok, Err}
use lib.ListN.{take, drop, set}
use Rattle.base.specs.Lists.{every, some_of, find}
use Rattle.bitfield.specs.BitField.{bit}
use Rattle.calendar.specs.Calendar.{years_before, months_before, exists, day_of}
use Rattle.timetable.specs.Legs.{field_runs}
use Rattle.timetable.specs.Runs.{opening_sound}
use Rattle.timetable.specs.Table.{rows_in, service_at, services_in, stops_at, table_of, record_sound, records_sound, head_sound, is_table}
use Rattle.timetable.specs.View.{interchange_at_stop, class_for}
use Rattle.timetable.specs.Questions.{day_in, day_asked, interchange_in, interchange_asked, between_in, between_asked}
use Rattle.timetable.specs.declared.refusal.Refusal.TheVariants.{NoTable, NoSuchDate, OutsidePeriod, ClassTooHigh, StopUnknown, NoSuchBitField, CategoryUnlisted}
use Rattle.timetable.specs.Trial.{trial_words as words}

-- FE6 runs on days 0 to 4: Monday to Friday
pub days : (day_asked words 1 12 2025 1 ≡ Ok true)
    × (day_asked words 5 12 2025 1 ≡ Ok true)
    × (day_asked words 6 12 2025 1 ≡ Ok false)
    × (day_asked words 7 12 2025 1 ≡ Ok false)
    × (day_asked words 7 12 2025 0 ≡ Ok true)
    × (day_asked words 7 12 2025 2 ≡ Err NoSuchBitField)
    × (day_asked words 30 11 2025 2 ≡ Err OutsidePeriod)
    × (day_asked words 8 12 2025 0 ≡ Err OutsidePeriod)
    × (day_asked words 31 11 2025 1 ≡ Err NoSuchDate)
    × (day_asked (take 81 words) 31 11 2025 1 ≡ Err NoTable)
unfolding day_asked day_in is_table head_sound records_sound record_sound service_at services_in rows_in every table_of field_runs find some_of day_of exists years_before months_before bit opening_sound
days = (refl, refl, refl, refl, refl, refl, refl, refl, refl, refl)

-- the trial week with a second interchange record: 1000022, 5, 6
abbrev changes : List ℕ
changes = set (set (set (take 34 words) 0 85) 5 2) 7 39 ++ (1000022 ∷ 5 ∷ 6 ∷ drop 34 words)

-- document 02, No. 2: "its marked case for classes 2, 2 change (now 2); classes 2, 3 give 3"
pub interchanges : (interchange_asked words 1000022 1 1 ≡ Ok 2)
    × (interchange_asked words 1000022 2 2 ≡ Ok 2)
    × (interchange_asked words 1000022 2 3 ≡ Ok 3)
    × (interchange_asked words 1000022 3 2 ≡ Ok 3)
    × (interchange_asked words 1000022 13 0 ≡ Ok 3)
    × (interchange_asked changes 1000011 0 1 ≡ Ok 2)
    × (interchange_asked changes 1000022 0 1 ≡ Ok 5)
    × (interchange_asked changes 1000022 1 13 ≡ Ok 6)
    × (interchange_asked words 9999999 1 1 ≡ Err StopUnknown)
    × (interchange_asked words 7 14 0 ≡ Err ClassTooHigh)
    × (interchange_asked words 7 0 14 ≡ Err ClassTooHigh)
    × (interchange_asked (take 81 words) 7 14 14 ≡ Err NoTable)
unfolding interchange_asked interchange_in interchange_at_stop is_table head_sound records_sound record_sound service_at services_in rows_in every stops_at table_of find some_of opening_sound
interchanges = (refl, refl, refl, refl, refl, refl, refl, refl, refl, refl, refl, refl)

-- the same with four categories more: 65 of class 2, 66 of class 1, 67 of class 3, and 66 again, of class 13
abbrev listing : List ℕ
listing = set (set (set (take 39 changes) 0 93) 7 47) 8 5 ++ (65 ∷ 2 ∷ 66 ∷ 1 ∷ 67 ∷ 3 ∷ 66 ∷ 13 ∷ drop 39 changes)

-- document 02, No. 1: "a stop and two categories"; BAT, the trial week's, is of class 4; "Lookups take the first match."
pub categories : (between_asked words 1000022 4342100 4342100 ≡ Ok 3)
    × (between_asked listing 1000011 65 66 ≡ Ok 2)
    × (between_asked listing 1000011 66 65 ≡ Ok 2)
    × (between_asked listing 1000022 65 66 ≡ Ok 5)
    × (between_asked listing 1000022 65 67 ≡ Ok 6)
    × (between_asked listing 1000022 67 65 ≡ Ok 6)
    × (between_asked listing 1000022 66 4342100 ≡ Ok 6)
    × (between_asked listing 1000022 65 68 ≡ Err CategoryUnlisted)
    × (between_asked listing 1000022 68 65 ≡ Err CategoryUnlisted)
    × (between_asked listing 9999999 65 66 ≡ Err StopUnknown)
    × (between_asked listing 7 68 68 ≡ Err StopUnknown)
    × (between_asked (set listing 38 14) 7 68 68 ≡ Err NoTable)
unfolding between_asked between_in class_for interchange_at_stop is_table head_sound records_sound record_sound service_at services_in rows_in every stops_at table_of find some_of opening_sound
categories = (refl, refl, refl, refl, refl, refl, refl, refl, refl, refl, refl, refl)
