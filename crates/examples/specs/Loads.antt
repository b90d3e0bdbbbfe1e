-- Worked loads: what demand 3 cannot see, since loader, walk and statement share the definitions that a line is read by; each computed from bytes, its answer worked
-- by hand from the paper. Details of ranges, a *from* by its departure, a range of one call, forbidding signs, and one row for each refusal that no other example has.
-- Assumes nothing.
use Rattle.std.specs.Prelude.{ℕ, List, [], ◌∷◌, ◌++◌, map}
use Prim.Native.String.{String}
use Rattle.base.specs.Lists.{gathered}
use Rattle.timetable.specs.Delivery.{Files, Legs, CategoryRange, DayRange, ExtraRange, Service}
use Rattle.timetable.specs.Load.{delivered}
use Rattle.timetable.specs.declared.Call.{Call}
use Rattle.timetable.specs.declared.Loaded.TheVariants.{Accepted, Refused}
use Rattle.examples.specs.Trial.{line, route_r, week, week_along, period, trial_period, bit_field, category_over_all, days_over_all, trial}
use Rattle.examples.specs.Rows.{Row, row, answer, with_category, starts, ends}
use Rattle.examples.specs.Names.{with_stops}

-- ---- the trial week with other lines of ranges, another route, ECKDATEN, BITFELD or UMSTEIGB

abbrev pub with_ranges : List ℕ → Files
with_ranges lines = week trial_period (bit_field "000001" "FE6") (category_over_all ++ lines)

abbrev pub with_route : List ℕ → Files
with_route route = week_along trial_period (bit_field "000001" "FE6") (category_over_all ++ days_over_all) route

abbrev pub with_period : List ℕ → Files
with_period eckdaten = week eckdaten (bit_field "000001" "FE6") (category_over_all ++ days_over_all)

abbrev pub with_fields : List ℕ → Files
with_fields bitfeld = week trial_period bitfeld (category_over_all ++ days_over_all)

abbrev pub with_interchanges : List ℕ → Files
with_interchanges lines = record { eckdaten = trial.eckdaten; bitfeld = trial.bitfeld; bahnhof = trial.bahnhof; umsteigb = lines; fplan = trial.fplan; zugart = trial.zugart }

-- the first and the last call of each operating-day range, and of each other *A with its code and bit field; the flags of the calls
abbrev pub day_legs : Files → List (List ℕ)
day_legs f = gathered (λ (s : Service). map (λ (r : DayRange). r.legs.from ∷ r.legs.to ∷ []) s.days) (delivered f).services

abbrev pub extra_legs : Files → List (List ℕ)
extra_legs f = gathered (λ (s : Service). map (λ (r : ExtraRange). r.code ∷ r.field ∷ r.legs.from ∷ r.legs.to ∷ []) s.extras) (delivered f).services

abbrev pub flags : Files → List ℕ
flags f = gathered (λ (s : Service). map (λ (c : Call). c.flags) s.calls) (delivered f).services

abbrev pub rows : List Row
rows =
    -- "The rest 0": with n = 7 bit 11 is in the rest, so FE7 answers 8: file 2, line 1
    row (answer (with_fields (bit_field "000001" "FE7"))) (Refused 8 2 1 0 0)
    -- *A: "30-35 and 37-42 details": from the first appearance of 1000022, "#0", to its second, "#1"
    ∷ row (day_legs (with_ranges (line "*A VE #0      #1      000001                              %" ++ line "*A VE 1000022 1000022 000001 #0     #1                    %"))) ((0 ∷ 1 ∷ []) ∷ (1 ∷ 3 ∷ []) ∷ [])
    -- "a time, the first appearance with that departure for *from*, the last with that arrival for *to*"
    ∷ row (day_legs (with_ranges (line "*A VE #0      #1      000001                              %" ++ line "*A VE 1000022 1000022 000001  00812  00855                %"))) ((0 ∷ 1 ∷ []) ∷ (1 ∷ 3 ∷ []) ∷ [])
    -- *G: "24-29 from-detail": by its departure; by its arrival it is not found, "16": file 5, line 2
    ∷ row (starts (with_category "*G BAT 1000022          00812                             %")) (1 ∷ [])
    ∷ row (answer (with_category "*G BAT 1000022          00810                             %")) (Refused 16 5 2 0 0)
    -- "(minutes only, sign not compared)"
    ∷ row (starts (with_category "*G BAT 1000022         -00812                             %")) (1 ∷ [])
    -- "other *A need from ≤ to": code FB (46 42 in hex) at one call, its bit field blank: "000000, daily"; four words more
    ∷ row (answer (with_ranges (days_over_all ++ line "*A FB #1      #1                                          %"))) (Accepted 86)
    ∷ row (extra_legs (with_ranges (days_over_all ++ line "*A FB #1      #1                                          %"))) ((17986 ∷ 0 ∷ 1 ∷ 1 ∷ []) ∷ [])
    -- an operating-day range "need[s] from < to": 16, file 5, line 3
    ∷ row (answer (with_ranges (line "*A VE #1      #1      000001                              %"))) (Refused 16 5 3 0 0)
    -- ""-" forbids alighting (arrival) or boarding (departure)": 2 + 8; 1 + 2 + 4; 1 + 4
    ∷ row (flags (with_route (line "1000011                             -00800                %" ++ (line "1000022                      -00810  00812                %" ++ line "1000033                      -00830                       %")))) (10 ∷ 7 ∷ 5 ∷ [])
    -- 2 "ECKDATEN under three lines; UMSTEIGB without a record": "lines + 1"
    ∷ row (answer (with_period (line "01.12.2025" ++ line "07.12.2025"))) (Refused 2 1 3 0 0)
    ∷ row (answer (with_interchanges [])) (Refused 2 4 1 0 0)
    -- 3 "ECKDATEN fourth line"
    ∷ row (answer (with_period (trial_period ++ line "more"))) (Refused 3 1 4 0 0)
    -- 5 "no such date; end before start; over 380 days (line 2 for both last)"; "380 days pass" ECKDATEN, where FE6 is no frame of 380 days, "381 answer 5"
    ∷ row (answer (with_period (period "31.11.2025" "07.12.2025"))) (Refused 5 1 1 0 0)
    ∷ row (answer (with_period (period "01.12.2025" "30.11.2025"))) (Refused 5 1 2 0 0)
    ∷ row (answer (with_period (period "01.12.2025" "15.12.2026"))) (Refused 8 2 1 0 0)
    ∷ row (answer (with_period (period "01.12.2025" "16.12.2026"))) (Refused 5 1 2 0 0)
    -- 6 "number seen earlier in the same file (2, 3 or 4)": "later one"
    ∷ row (answer (with_fields (bit_field "000001" "FE6" ++ bit_field "000001" "FE6"))) (Refused 6 2 2 0 0)
    ∷ row (answer (with_stops (line "1000011     Quay D"))) (Refused 6 3 4 0 0)
    ∷ row (answer (with_interchanges (line "9999999  2  3" ++ line "9999999  2  3"))) (Refused 6 4 2 0 0)
    -- 7 "BITFELD 000000; BAHNHOF stop 9999999 or ending 00000; first UMSTEIGB record not 9999999"
    ∷ row (answer (with_fields (bit_field "000000" "FE6"))) (Refused 7 2 1 0 0)
    ∷ row (answer (with_stops (line "9999999     Quay D"))) (Refused 7 3 4 0 0)
    ∷ row (answer (with_stops (line "1000000     Quay D"))) (Refused 7 3 4 0 0)
    ∷ row (answer (with_interchanges (line "1000011  2  3"))) (Refused 7 4 1 0 0)
    -- 9 "UMSTEIGB (after its first record) or schedule stop not in BAHNHOF"
    ∷ row (answer (with_interchanges (line "9999999  2  3" ++ line "1000044  2  3"))) (Refused 9 4 2 0 0)
    ∷ row (answer (with_route (line "1000011                              00800                %" ++ line "1000044                       00810                       %"))) (Refused 9 5 5 0 0)
    -- 10 "bit field neither 000000 nor in BITFELD"
    ∷ row (answer (with_ranges (line "*A VE                 000002                              %"))) (Refused 10 5 3 0 0)
    -- 11 "other line kind"
    ∷ row (answer (with_ranges (days_over_all ++ line "*R H                                                      %"))) (Refused 11 5 4 0 0)
    -- 15 "no departure at the first call, no arrival at the last, either missing between; or a stated time below the one stated before": "call"
    ∷ row (answer (with_route (line "1000011                                                   %" ++ line "1000022                       00810                       %"))) (Refused 15 5 4 0 0)
    ∷ row (answer (with_route (line "1000011                              00800                %" ++ line "1000022                              00812                %"))) (Refused 15 5 5 0 0)
    ∷ row (answer (with_route (line "1000011                              00800                %" ++ (line "1000022                       00810                       %" ++ line "1000033                       00830                       %")))) (Refused 15 5 5 0 0)
    ∷ row (answer (with_route (line "1000011                              00800                %" ++ line "1000022                       00759                       %"))) (Refused 15 5 5 0 0)
    -- 17 / 18 "a leg not covered by exactly one *G / *A VE": none, and two; file 5, line 1
    ∷ row (answer (week trial_period (bit_field "000001" "FE6") days_over_all)) (Refused 17 5 1 0 0)
    ∷ row (answer (with_ranges [])) (Refused 18 5 1 0 0)
    ∷ row (answer (with_ranges (days_over_all ++ days_over_all))) (Refused 18 5 1 0 0)
    ∷ []
