-- The trial week of document 01: "Period 01.12.2025 to 07.12.2025, name "Trial week"; bit field 000001 FE6; three stops of R; one record 9999999, 2, 3;
-- service 00042 FERRY_, *G BAT and *A VE 000001 over all, R." By document 02's No. 1 a ZUGART that lists BAT. Its parts are named, so that the checked examples can change one of them.
-- Assumes nothing.
use Rattle.std.specs.Prelude.{ℕ, List, [], ◌∷◌, ◌++◌, take, replicate}
use Prim.Native.String.{String}
use Rattle.base.specs.Text.{bytes}
use Rattle.timetable.specs.Delivery.{Files}

-- a line of a file
abbrev pub line : String → List ℕ
line text = bytes text ++ (10 ∷ [])

-- "Route R: 1000011 (dep 00800), 1000022 (00810, 00812), 1000033 (00830, 00835), 1000022 (arr 00855)."
unfoldable pub route_r : List ℕ
route_r =
    line "1000011                              00800                %"
    ++ line "1000022                       00810  00812                %"
    ++ line "1000033                       00830  00835                %"
    ++ line "1000022                       00855                       %"

-- the line that opens the one service, and ZUGART's one line
abbrev pub opening : List ℕ
opening = line "*Z 00042 FERRY_                                           %"

abbrev pub bat : List ℕ
bat = line "BAT  4   0 BAT      0 B"

-- ECKDATEN, BITFELD, the range lines and the route of the one service, in the place of the trial week's
unfoldable pub week_along : List ℕ → List ℕ → List ℕ → List ℕ → Files
week_along eckdaten bitfeld ranges route = record {
  eckdaten = eckdaten;
  bitfeld = bitfeld;
  bahnhof = line "1000011     Quay A" ++ line "1000022     Quay B" ++ line "1000033     Quay C";
  umsteigb = line "9999999  2  3";
  fplan = opening ++ ranges ++ route;
  zugart = bat;
}

abbrev pub week : List ℕ → List ℕ → List ℕ → Files
week eckdaten bitfeld ranges = week_along eckdaten bitfeld ranges route_r

-- a period of ECKDATEN
abbrev pub period : String → String → List ℕ
period start end = line start ++ line end ++ line "Trial week"

abbrev pub trial_period : List ℕ
trial_period = period "01.12.2025" "07.12.2025"

-- a line of BITFELD: its number, hex digits and zeros (byte 48) up to 96
abbrev pub bit_field : String → String → List ℕ
bit_field number digits = bytes number ++ (32 ∷ take 96 (bytes digits ++ replicate 96 48)) ++ (10 ∷ [])

abbrev pub category_over_all : List ℕ
category_over_all = line "*G BAT                                                    %"

abbrev pub days_over_all : List ℕ
days_over_all = line "*A VE                 000001                              %"

unfoldable pub trial : Files
trial = week trial_period (bit_field "000001" "FE6") (category_over_all ++ days_over_all)

-- "The walk on 05.12.2025 gives four rows, the first 1000011, 0, 480, 2, 4342100, 2, 3"; by document 02's No. 5 the number 42 and the administration
-- FERRY_ (FER is 46 45 52 and RY_ 52 59 5F in hex) follow the flags
unfoldable pub friday_rows : List ℕ
friday_rows =
    1000011 ∷ 0 ∷ 480 ∷ 2 ∷ 42 ∷ 4605266 ∷ 5396831 ∷ 4342100 ∷ 2 ∷ 3
    ∷ 1000022 ∷ 490 ∷ 492 ∷ 3 ∷ 42 ∷ 4605266 ∷ 5396831 ∷ 4342100 ∷ 2 ∷ 3
    ∷ 1000033 ∷ 510 ∷ 515 ∷ 3 ∷ 42 ∷ 4605266 ∷ 5396831 ∷ 4342100 ∷ 2 ∷ 3
    ∷ 1000022 ∷ 535 ∷ 0 ∷ 1 ∷ 42 ∷ 4605266 ∷ 5396831 ∷ 0 ∷ 2 ∷ 3
    ∷ []

-- ---- document 02, No. 5: the trial week with changes of number and administration in mid-route

-- R with number 00043 at its second call and administration BOAT__ at its third, each without the other
unfoldable pub changing_r : List ℕ
changing_r =
    line "1000011                              00800                %"
    ++ line "1000022                       00810  00812 00043          %"
    ++ line "1000033                       00830  00835       BOAT__   %"
    ++ line "1000022                       00855                       %"

-- its first leg on a bit field that never runs, so that the stretch begins at the second call
unfoldable pub changing : Files
changing =
    week_along trial_period (bit_field "000001" "FE6" ++ bit_field "000002" "C06")
    (category_over_all ++ line "*A VE #0      #1      000002                              %" ++ line "*A VE #1      #3      000001                              %") changing_r

-- the number and administration of its calls (BOA is 42 4F 41 and T__ 54 5F 5F in hex): the first call's blanks take the *Z values, a blank field
-- repeats the call before
abbrev pub changing_calls : List (List ℕ)
changing_calls =
    (42 ∷ 4605266 ∷ 5396831 ∷ [])
    ∷ (43 ∷ 4605266 ∷ 5396831 ∷ [])
    ∷ (43 ∷ 4345665 ∷ 5529439 ∷ [])
    ∷ (43 ∷ 4345665 ∷ 5529439 ∷ [])
    ∷ []

-- and its rows on 05.12.2025, which begin with what holds at the second call
abbrev pub changing_rows : List ℕ
changing_rows =
    1000022 ∷ 0 ∷ 492 ∷ 2 ∷ 43 ∷ 4605266 ∷ 5396831 ∷ 4342100 ∷ 2 ∷ 3
    ∷ 1000033 ∷ 510 ∷ 515 ∷ 3 ∷ 43 ∷ 4345665 ∷ 5529439 ∷ 4342100 ∷ 2 ∷ 3
    ∷ 1000022 ∷ 535 ∷ 0 ∷ 1 ∷ 43 ∷ 4345665 ∷ 5529439 ∷ 0 ∷ 2 ∷ 3
    ∷ []

-- ---- document 02, No. 1 and No. 8: the trial week with another FPLAN and ZUGART, or FPLAN alone

unfoldable pub planned_listing : List ℕ → List ℕ → Files
planned_listing fplan zugart = record { eckdaten = trial.eckdaten; bitfeld = trial.bitfeld; bahnhof = trial.bahnhof; umsteigb = trial.umsteigb; fplan = fplan; zugart = zugart }

abbrev pub planned : List ℕ → Files
planned fplan = planned_listing fplan trial.zugart

-- R, its first line this one
abbrev pub opened_by : String → Files
opened_by text = planned (line text ++ category_over_all ++ days_over_all ++ route_r)

-- 5.3.3's example, "%" in column 59 (its administration is printed with seven bytes there, of which six are taken)
abbrev pub dial_line : String
dial_line = "*T 01554 80____ 0240 0450                                 %"

unfoldable pub dial : Files
dial = opened_by dial_line
