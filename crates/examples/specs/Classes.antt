-- ZUGART (request No. 1): the trial week with other lines there or in FPLAN, at load, and the question between two categories. Assumes nothing.
use Rattle.std.specs.Prelude.{ℕ, zero, suc, List, [], ◌∷◌, ◌++◌, take, drop, Result, Ok, Err}
use Rattle.timetable.specs.declared.refusal.Refusal.{Refusal}
use Rattle.timetable.specs.declared.refusal.Refusal.TheVariants.{NoTable, StopUnknown, CategoryUnlisted}
use Rattle.timetable.specs.Delivery.{Files}
use Rattle.timetable.specs.Load.{delivered}
use Rattle.timetable.specs.Questions.{rows as listed, between_asked, walk_of}
use Rattle.timetable.specs.Table.{table_words}
use Rattle.timetable.specs.Trial.{trial_words}
use Rattle.timetable.specs.declared.Loaded.TheVariants.{Accepted, Refused}
use Rattle.examples.specs.Trial.{line, opening, bat, category_over_all, trial, friday_rows, planned_listing, planned}
use Rattle.examples.specs.Rows.{Row, row, answer, with_category}

-- the trial week with another ZUGART, or without an UMSTEIGB too
abbrev pub listing : List ℕ → Files
listing zugart = planned_listing trial.fplan zugart

abbrev pub listing_alone : List ℕ → Files
listing_alone zugart = record { eckdaten = trial.eckdaten; bitfeld = trial.bitfeld; bahnhof = trial.bahnhof; umsteigb = []; fplan = trial.fplan; zugart = zugart }

-- lines of ZUGART: without a tariff group (as `bat`), and with one
abbrev pub bat0 : List ℕ
bat0 = line "BAT  0   0 BAT      0 B"

abbrev pub ice : List ℕ
ice = line "ICE  0   0 ICE      2"

abbrev pub bat_a : List ℕ
bat_a = line "BAT  4 A 0 BAT      0 B"

abbrev pub ice_b : List ℕ
ice_b = line "ICE  0 B 0 ICE      2"

-- 5.5's example "N 3 A 0 N 0 N Nahverkehrs zug", set to its columns
abbrev pub local : List ℕ
local = line "N    3 A 0 N        0 N      Nahverkehrs zug"

-- the first line of 5.5.1's example
abbrev pub text : List ℕ
text = line "<text>"

-- n *G lines, and one of a category that is not listed
unfoldable pub category_lines : ℕ → List ℕ
category_lines zero = []
category_lines (suc n) = category_over_all ++ category_lines n

abbrev pub other_category : List ℕ
other_category = line "*G XXX                                                    %"

-- BAT of class 4, ICE of class 0 and IC of class 2, asked of that delivery's table (BAT is 42 41 54, ICE 49 43 45 and "IC " 49 43 20 in hex)
abbrev pub three_classes : Files
three_classes = listing (bat ++ (ice ++ line "IC   2   0 IC       1"))

abbrev pub between : ℕ → ℕ → ℕ → Result ℕ Refusal
between stop a b = between_asked (table_words (delivered three_classes)) stop a b

-- the trial week's words with another code and class in the record of its one category (words 34 and 35)
abbrev pub of_class : ℕ → ℕ → List ℕ
of_class code class = take 34 trial_words ++ (code ∷ class ∷ drop 36 trial_words)

abbrev pub rows : List Row
rows =
    -- the printed line, and one more; 37 at the "first line that has one where the file's first has none, or the other way", skipped lines left out
    row (answer (listing (local ++ bat_a))) (Accepted 84)
    ∷ row (answer (listing (local ++ bat))) (Refused 37 6 2 0 0)
    ∷ row (answer (listing (line "% note" ++ (bat ++ (line "" ++ (ice ++ local)))))) (Refused 37 6 5 0 0)
    -- "6 for a repeated code, then 37": in one line; 37 in a line before 4 in a later one
    ∷ row (answer (listing (bat ++ bat_a))) (Refused 6 6 2 0 0)
    ∷ row (answer (listing (bat ++ (ice_b ++ text)))) (Refused 37 6 2 0 0)
    -- "Section 5.5.1's extra lines answer 4": column 4 is not blank; "class 5-6 (count to 13)"
    ∷ row (answer (listing (bat ++ text))) (Refused 4 6 2 4 0)
    ∷ row (answer (listing (line "BAT 14   0 BAT      0 B"))) (Refused 4 6 1 5 0)
    -- "its .. lines checked after UMSTEIGB's": before FPLAN's, which would answer 12, and after the end of an empty UMSTEIGB
    ∷ row (answer (planned_listing category_over_all text)) (Refused 4 6 1 4 0)
    ∷ row (answer (listing_alone text)) (Refused 2 4 1 0 0)
    -- an empty ZUGART is accepted where no service has a category (9 + 13 + 9 + 3 words), "38 for a *G category not listed": file 5, line 2; codes are bytes as they stand
    ∷ row (answer (planned_listing [] [])) (Accepted 34)
    ∷ row (answer (listing [])) (Refused 38 5 2 0 0)
    ∷ row (answer (with_category "*G bat                                                    %")) (Refused 38 5 2 0 0)
    -- 38 "last in its line": after 13, but before the service's own 14
    ∷ row (answer (planned (opening ++ (category_lines 50 ++ other_category)))) (Refused 13 5 52 0 0)
    ∷ row (answer (planned (opening ++ (category_lines 49 ++ other_category)))) (Refused 38 5 51 0 0)
    -- the question: both classes 0, 1 or 2 give the first time; "38 .., in the question, after 27"; 21
    ∷ row (between 1000011 4801349 4801312) (Ok 2)
    ∷ row (between 1000011 4801349 4342100) (Ok 3)
    ∷ row (between 1000011 4342100 4801312) (Ok 3)
    ∷ row (between 1 0 0) (Err StopUnknown)
    ∷ row (between 1000011 0 4342100) (Err CategoryUnlisted)
    ∷ row (between 1000011 4342100 0) (Err CategoryUnlisted)
    ∷ row (between_asked (take 8 trial_words) 1 0 0) (Err NoTable)
    -- "21 reads the new sizes and refuses a class over 13"
    ∷ row (between_asked (of_class 4342100 13) 1000011 4342100 4342100) (Ok 3)
    ∷ row (between_asked (of_class 4342100 14) 1 0 0) (Err NoTable)
    -- words from elsewhere, which may list a code twice: "Lookups take the first match."
    ∷ row (between_asked (table_words (delivered (listing (bat0 ++ bat)))) 1000011 4342100 4342100) (Ok 2)
    ∷ row (between_asked (table_words (delivered (listing (bat ++ bat0)))) 1000011 4342100 4342100) (Ok 3)
    -- or not list a *G's at all (0 in its place): a walk lists it as it stands, the paper names no refusal for it
    ∷ row (walk_of (of_class 0 4) 0 0 5 12 2025) (listed friday_rows)
    ∷ row (between_asked (of_class 0 4) 1000011 4342100 4342100) (Err CategoryUnlisted)
    ∷ []
