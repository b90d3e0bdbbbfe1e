-- Edges that the papers' examples leave out: a name list as long as its columns and one byte longer (No. 3), a first call with a number of its own (No. 5).
-- Assumes nothing.
use Rattle.std.specs.Prelude.{ℕ, List, [], ◌∷◌, ◌++◌, take, drop, replicate, Result, Ok, Err}
use Rattle.std.proofs.Math.Option.{none}
use Rattle.base.specs.Text.{bytes}
use Rattle.timetable.specs.declared.refusal.Refusal.{Refusal}
use Rattle.timetable.specs.declared.refusal.Refusal.TheVariants.{NoNameList, NameOutside}
use Rattle.timetable.specs.Delivery.{Files}
use Rattle.timetable.specs.Load.{delivered, offence}
use Rattle.timetable.specs.StopNames.{stop_name_asked}
use Rattle.timetable.specs.Table.{table_words}
use Rattle.timetable.specs.Trial.{trial_words}
use Rattle.timetable.specs.declared.NamePart.{NamePart}
use Rattle.examples.specs.Trial.{line, trial_period, bit_field, category_over_all, days_over_all, week_along}
use Rattle.examples.specs.Rows.{Row, row, numbers}
use Rattle.examples.specs.Names.{with_stops}

-- a fourth stop, whose name goes on behind column 62
abbrev pub long_name : Files
long_name = with_stops (bytes "1000044     " ++ (replicate 51 65 ++ (10 ∷ [])))

-- the trial week's words with another length of the first stop's name (word 24), asked with a BAHNHOF of 63 bytes "A" (the name starts at byte 12)
abbrev pub named : ℕ → Result NamePart Refusal
named size = stop_name_asked (take 24 trial_words ++ (size ∷ drop 25 trial_words)) (replicate 63 65) 1000011 0 0

-- R with number 00044 and administration BOAT__ at its first call
abbrev pub own_first : Files
own_first =
    week_along trial_period (bit_field "000001" "FE6") (category_over_all ++ days_over_all)
    (line "1000011                              00800 00044 BOAT__   %"
    ++ (line "1000022                       00810  00812                %"
    ++ line "1000033                       00830                       %"))

abbrev pub rows : List Row
rows =
    -- columns 13-62 are the name, the byte behind them is free (the fourth line starts at byte 57)
    row (offence long_name) none
    ∷ row (stop_name_asked (table_words (delivered long_name)) long_name.bahnhof 1000044 0 0) (Ok (record { start = 69; size = 50 }))
    -- in words from elsewhere: 50 bytes are a name list, 51 cannot stand in columns 13-62
    ∷ row (named 50) (Ok (record { start = 12; size = 50 }))
    ∷ row (named 51) (Err NoNameList)
    -- and one byte more is outside the bytes given
    ∷ row (named 52) (Err NameOutside)
    -- "the first call's blanks take the *Z values": what is not blank there holds from there on (BOA is 42 4F 41 and T__ 54 5F 5F in hex)
    ∷ row (numbers own_first) (replicate 3 (44 ∷ 4345665 ∷ 5529439 ∷ []))
    ∷ []
