-- Section 5.1's printed stops, set to their columns, as lines more in the trial week's BAHNHOF (request No. 3). Assumes nothing.
use Rattle.std.specs.Prelude.{ℕ, List, [], ◌∷◌, ◌++◌, take, drop, Result, Ok, Err}
use Rattle.std.proofs.Math.Option.{none, some}
use Rattle.base.specs.Text.{bytes}
use Rattle.timetable.specs.declared.refusal.Refusal.{Refusal}
use Rattle.timetable.specs.declared.refusal.Refusal.TheVariants.{NoTable, StopUnknown, NoNameList, NotAskable, NameOutside}
use Rattle.timetable.specs.Delivery.{Files}
use Rattle.timetable.specs.Load.{delivered, offence}
use Rattle.timetable.specs.StopNames.{stop_name_asked}
use Rattle.timetable.specs.Table.{table_words}
use Rattle.timetable.specs.declared.NamePart.{NamePart}
use Rattle.examples.specs.Trial.{line, trial}
use Rattle.examples.specs.Rows.{Row, row}

-- "8800002 Bruxelles-Nord$Brüssel Nord$<d>$Brussel Noord$<n>" ("ü" is byte 129 of the IBM character set)
abbrev pub bruxelles : List ℕ
bruxelles = bytes "8800002     Bruxelles-Nord$Br" ++ (129 ∷ line "ssel Nord$<d>$Brussel Noord$<n>")

-- "8833001 Louvain [B]$<f>$Leuven [B]$<n>$Louvain$<f2>Louv$<f1>"
abbrev pub louvain : List ℕ
louvain = line "8833001     Louvain [B]$<f>$Leuven [B]$<n>$Louvain$<f2>Louv$<f1>"

-- "1234567 AAAA$<d12><f23>$BBBB$<e1><f1>"
abbrev pub aaaa : List ℕ
aaaa = line "1234567     AAAA$<d12><f23>$BBBB$<e1><f1>"

-- "7654321 CCCC$<12>$DDDD$<34>"
abbrev pub cccc : List ℕ
cccc = line "7654321     CCCC$<12>$DDDD$<34>"

-- the trial week with lines more in BAHNHOF
abbrev pub with_stops : List ℕ → Files
with_stops lines = record { eckdaten = trial.eckdaten; bitfeld = trial.bitfeld; bahnhof = trial.bahnhof ++ lines; umsteigb = trial.umsteigb; fplan = trial.fplan; zugart = trial.zugart }

-- the three that are name lists
abbrev pub three : Files
three = with_stops (bruxelles ++ (aaaa ++ cccc))

-- what is answered: the bytes of the part of BAHNHOF, or the refusal
pub data Said : Type 0 where
  name : List ℕ → Said
  refused : Refusal → Said

abbrev pub said_by : List ℕ → Result NamePart Refusal → Said
said_by bahnhof (Ok part) = name (take part.size (drop part.start bahnhof))
said_by bahnhof (Err refusal) = refused refusal

abbrev pub asked : ℕ → ℕ → ℕ → Said
asked stop language type = said_by three.bahnhof (stop_name_asked (table_words (delivered three)) three.bahnhof stop language type)

-- what the delivery of three answers, asked with a BAHNHOF of other bytes
abbrev pub asked_with : List ℕ → Result NamePart Refusal
asked_with bahnhof = stop_name_asked (table_words (delivered three)) bahnhof 8800002 100 0

abbrev pub rows : List Row
rows =
    -- The three stops whose names their columns hold are accepted. The second printed stop has 52 bytes, and its columns 13 to 62 end in "$<f": 39, file 3, line 4.
    row (offence three) none
    ∷ row (offence (with_stops louvain)) (some (record { file = 3; offence = record { number = 39; line = 4; column = 0 } }))
    -- 39 "after 4", before 7 (the number ends 00000)
    ∷ row (offence (with_stops (line "1000000     A$$B"))) (some (record { file = 3; offence = record { number = 39; line = 4; column = 0 } }))
    -- "The default name of the stop 8800002 is "Bruxelles-Nord". "Brüssel-Nord" is .. a german name. "Brussel Noord" is .. a dutch one."
    ∷ row (asked 8800002 100 0) (name (bytes "Br" ++ (129 ∷ bytes "ssel Nord")))
    ∷ row (asked 8800002 110 0) (name (bytes "Brussel Noord"))
    ∷ row (asked 8800002 102 0) (name (bytes "Bruxelles-Nord"))
    -- where it stands: BAHNHOF's fourth line starts at byte 57, so that column 13 is byte 69
    ∷ row (asked_with three.bahnhof) (Ok (record { start = 84; size = 12 }))
    -- ""AAAA", which is a german name, carrying type 1 and 2. Moreover, this is a french name, having types 2 and 3. .. "BBBB", which is used in English and
    -- French and it has type 1." French with type 1 is "BBBB": of "AAAA" one pattern has the language and another the type.
    ∷ row (asked 1234567 100 1) (name (bytes "AAAA"))
    ∷ row (asked 1234567 102 1) (name (bytes "BBBB"))
    ∷ row (asked 1234567 101 2) (name (bytes "AAAA"))
    -- "used in any language, but have different types. .. "CCCC", having types 1 and 2. .. "DDDD" and has types 3 and 4."
    ∷ row (asked 7654321 120 2) (name (bytes "CCCC"))
    ∷ row (asked 7654321 0 4) (name (bytes "DDDD"))
    ∷ row (asked 7654321 0 5) (name (bytes "CCCC"))
    -- "in order, 21, 40 .., 27, 41 .., 39": each with all that come after it
    ∷ row (stop_name_asked [] [] 1 97 0) (Err NoTable)
    ∷ row (asked 1 97 0) (refused NotAskable)
    ∷ row (asked 1 100 10) (refused NotAskable)
    ∷ row (asked 1 100 0) (refused StopUnknown)
    ∷ row (asked_with (take 117 ((with_stops (line "8800002     Bru$$les")).bahnhof ++ three.bahnhof))) (Err NameOutside)
    ∷ row (asked_with ((with_stops (line "8800002     Bru$$les")).bahnhof ++ three.bahnhof)) (Err NoNameList)
    ∷ []
