-- Calls that point at stops (document 02, No. 10), in the trial week. Assumes nothing.
use Rattle.std.specs.Prelude.{ℕ, ◌+◌, ◌*◌, List, [], ◌∷◌, ◌++◌, map, true, false, drop, take, set}
use Rattle.base.specs.Lists.{gathered}
use Rattle.timetable.specs.declared.refusal.Refusal.TheVariants.{NoTable}
use Rattle.timetable.specs.Delivery.{Files, Service}
use Rattle.timetable.specs.Layout.{header_size, bit_field_size, stop_size, service_head}
use Rattle.timetable.specs.Load.{delivered}
use Rattle.timetable.specs.Table.{table_words, services#, services_place, services_in, is_table}
use Rattle.timetable.specs.Questions.{Journey, refused, rows as listed, walk_of}
use Rattle.timetable.specs.declared.Call.{Call}
use Rattle.whole_runs.specs.OldTable.{as_now, retired, old_table_words, old_walk_of, old_walk_rows}
use Rattle.examples.specs.Trial.{line, trial, friday_rows}
use Rattle.examples.specs.Rows.{Row, row}

-- the first words of the calls, as they stand in a delivery's table
abbrev pub places : Files → List ℕ
places f = gathered (λ (s : Service). map (λ (c : Call). c.stop) s.calls) (services_in (services# (table_words (delivered f))) (drop (services_place (table_words (delivered f))) (table_words (delivered f))))

-- the trial week with its stops in another order, after one where it does not call
abbrev pub other_order : Files
other_order = record {
  eckdaten = trial.eckdaten;
  bitfeld = trial.bitfeld;
  bahnhof = line "1000044     Quay D" ++ line "1000033     Quay C" ++ line "1000011     Quay A" ++ line "1000022     Quay B";
  umsteigb = trial.umsteigb;
  fplan = trial.fplan;
  zugart = trial.zugart;
}

-- the trial week with interchange times of 1000011's own
abbrev pub own_times : Files
own_times = record { eckdaten = trial.eckdaten; bitfeld = trial.bitfeld; bahnhof = trial.bahnhof; umsteigb = trial.umsteigb ++ line "1000011  5  6"; fplan = trial.fplan; zugart = trial.zugart }

-- a delivery's words, the place of the first call in them changed
abbrev pub first_call_at : ℕ → Files → List ℕ
first_call_at place f = set (table_words (delivered f)) (services_place (table_words (delivered f)) + service_head) place

-- the words of `own_times`, the number of the stop at place 2 changed, so that two stops have 1000011
abbrev pub listed_twice : List ℕ
listed_twice = set (table_words (delivered own_times)) (header_size + bit_field_size * 1 + stop_size * 2) 1000011

-- the walk on 05.12.2025
abbrev pub on_friday : List ℕ → Journey
on_friday w = walk_of w 0 0 5 12 2025

-- the trial week's rows from the second on
abbrev pub later_rows : List ℕ
later_rows = drop 10 friday_rows

abbrev pub rows : List Row
rows =
    -- "A call now holds the place of its stop in the stop section, counted from 0, in place of the number."
    row (places trial) (0 ∷ 1 ∷ 2 ∷ 1 ∷ [])
    ∷ row (places other_order) (2 ∷ 3 ∷ 1 ∷ 3 ∷ [])
    -- "Rows still show the number."
    ∷ row (on_friday (table_words (delivered trial))) (listed friday_rows)
    ∷ row (on_friday (table_words (delivered other_order))) (listed friday_rows)
    -- a row's number and interchange times go by the record at the place
    ∷ row (on_friday (first_call_at 0 own_times)) (listed (1000011 ∷ 0 ∷ 480 ∷ 2 ∷ 42 ∷ 4605266 ∷ 5396831 ∷ 4342100 ∷ 5 ∷ 6 ∷ later_rows))
    ∷ row (on_friday (first_call_at 2 own_times)) (listed (1000033 ∷ 0 ∷ 480 ∷ 2 ∷ 42 ∷ 4605266 ∷ 5396831 ∷ 4342100 ∷ 2 ∷ 3 ∷ later_rows))
    -- so too where words from elsewhere list a number twice: the third row, at place 2, has the number that stands there, and that number's times
    ∷ row (on_friday listed_twice)
    (listed
    (1000011 ∷ 0 ∷ 480 ∷ 2 ∷ 42 ∷ 4605266 ∷ 5396831 ∷ 4342100 ∷ 5 ∷ 6
    ∷ take 10 later_rows ++ (1000011 ∷ 510 ∷ 515 ∷ 3 ∷ 42 ∷ 4605266 ∷ 5396831 ∷ 4342100 ∷ 5 ∷ 6 ∷ drop 20 later_rows)))
    -- "21 additionally refuses a place not below S": S is 3; so it refuses the old table's words
    ∷ row (is_table (first_call_at 2 trial)) true
    ∷ row (is_table (first_call_at 3 trial)) false
    ∷ row (on_friday (first_call_at 3 trial)) (refused NoTable)
    ∷ row (on_friday (old_table_words (delivered trial))) (refused NoTable)
    -- "each question answers as it did on the old table"
    ∷ row (old_walk_of (old_table_words (delivered trial)) 0 0 5 12 2025) (as_now (listed friday_rows))
    -- a walk left as it was would take a place for a number
    ∷ row (old_walk_of (table_words (delivered trial)) 0 0 5 12 2025) (retired 32)
    -- and leave the rows as lent
    ∷ row (old_walk_rows (table_words (delivered trial)) 0 0 5 12 2025 (7 ∷ [])) (7 ∷ [])
    ∷ []
