-- "Rows marked P are proved together as one list by one theorem": the rows, each with its line of the paper (the last ones with document 02's).
-- `Rattle.examples.proofs.Rows` proves them.
-- Assumes nothing.
use Rattle.std.specs.Prelude.{ℕ, ◌≡◌, List, [], ◌∷◌, ◌++◌, map, get_or, replicate, Bool, true, false, Result, Ok, Some, None}
use Prim.Native.String.{String}
use Rattle.base.specs.Lists.{gathered, upto}
use Rattle.base.specs.Text.{bytes}
use Rattle.calendar.specs.Calendar.{day_of}
use Rattle.lines.specs.Lines.{lines_of}
use Rattle.timetable.specs.declared.refusal.Refusal.{Refusal}
use Rattle.timetable.specs.declared.refusal.Refusal.TheVariants.{NoSuchRun}
use Rattle.timetable.specs.Delivery.{Files, CategoryRange, Service}
use Rattle.timetable.specs.Files.{period_in}
use Rattle.timetable.specs.Load.{delivered, loaded}
use Rattle.timetable.specs.Table.{table_words}
use Rattle.timetable.specs.Questions.{rows as listed, refused, day_asked, interchange_asked, walk_of, walk_rows}
use Rattle.timetable.specs.declared.Call.{Call}
use Rattle.timetable.specs.declared.Loaded.{Loaded}
use Rattle.timetable.specs.declared.Loaded.TheVariants.{Accepted, Refused}
use Rattle.examples.specs.Trial.{line, week, period, trial_period, bit_field, category_over_all, days_over_all, trial, changing, changing_calls, changing_rows, planned, opened_by, dial_line, dial}

-- what the definitions give, and what the paper says
pub record Row : Type 1 where
  pub Kind : Type 0
  pub got : Kind
  pub said : Kind

abbrev pub row : {X : Type 0} → X → X → Row
row {X} x y = record { Kind = X; got = x; said = y }

-- every row holds
abbrev pub Hold : List Row → Type 0
Hold [] = Unit {0}
Hold (r ∷ rs) = (r.got ≡ r.said) × Hold rs

-- ---- the trial week with another period, BITFELD or range lines: what load answers, on which days a bit field runs, where a range begins and ends

abbrev pub answer : Files → Loaded
answer f = loaded f 4096 4096

-- n days from 01.12.2025 on, asked of a delivery's table: whether bit field 000001 runs
abbrev pub days : ℕ → Files → List (Result Bool Refusal)
days n f = map (λ (d : ℕ). day_asked (table_words (delivered f)) d 12 2025 1) (upto n 1)

-- another *G line
abbrev pub with_category : String → Files
with_category text = week trial_period (bit_field "000001" "FE6") (line text ++ days_over_all)

-- the first and the last call of the *G ranges
abbrev pub starts : Files → List ℕ
starts f = gathered (λ (s : Service). map (λ (r : CategoryRange). r.legs.from) s.categories) (delivered f).services

abbrev pub ends : Files → List ℕ
ends f = gathered (λ (s : Service). map (λ (r : CategoryRange). r.legs.to) s.categories) (delivered f).services

-- what holds at each call
abbrev pub numbers : Files → List (List ℕ)
numbers f = gathered (λ (s : Service). map (λ (c : Call). c.number ∷ c.high ∷ c.low ∷ []) s.calls) (delivered f).services

-- when a run leaves its first call on 05.12.2025
abbrev pub leaves : Files → ℕ → ℕ
leaves f r = get_or (walk_rows (table_words (delivered f)) 0 r 5 12 2025 (replicate 40 0)) 2 0

-- one day, on which bit field 000001 does not run
abbrev pub one_day : Files
one_day = week (period "01.12.2025" "01.12.2025") (bit_field "000001" "D8") (category_over_all ++ days_over_all)

abbrev pub rows : List Row
rows =
    -- "P 30.09.1996 is day 35,336; to 01.06.1997 is 245 days."
    row (day_of 30 9 1996) (Some 35336)
    ∷ row (period_in (lines_of (period "30.09.1996" "01.06.1997"))) (record { start = 35336; n = 245 })
    -- "P 29.02.2000 exists, 29.02.1900 does not."
    ∷ row (day_of 29 2 2000) (Some 36583)
    ∷ row (day_of 29 2 1900) None
    -- "P With n = 7, FE6 and zeros runs on days 0 to 4"
    ∷ row (days 7 trial) (Ok true ∷ Ok true ∷ Ok true ∷ Ok true ∷ Ok true ∷ Ok false ∷ Ok false ∷ [])
    -- "P FE4 and zeros answers 8": file 2, line 1
    ∷ row (answer (week trial_period (bit_field "000001" "FE4") (category_over_all ++ days_over_all))) (Refused 8 2 1 0 0)
    -- "P n = 1, D8 and zeros: never."
    ∷ row (answer one_day) (Accepted 82)
    ∷ row (days 1 one_day) (Ok false ∷ [])
    -- "P On R, to 1000022 is 3"
    ∷ row (ends (with_category "*G BAT         1000022                                    %")) (3 ∷ [])
    -- "P from it is 1"
    ∷ row (starts (with_category "*G BAT 1000022                                            %")) (1 ∷ [])
    -- "P to with "#0" or " 00810" is 1"
    ∷ row (ends (with_category "*G BAT         1000022        #0                          %")) (1 ∷ [])
    ∷ row (ends (with_category "*G BAT         1000022         00810                      %")) (1 ∷ [])
    -- "P "#2" answers 16": file 5, line 2
    ∷ row (answer (with_category "*G BAT         1000022        #2                          %")) (Refused 16 5 2 0 0)
    -- "P from "#4" answers 16."
    ∷ row (answer (with_category "*G BAT #4                                                 %")) (Refused 16 5 2 0 0)
    -- "P Legs 0 and 2 on FE6, leg 1 on C1E: 19.": file 5, line 1
    ∷ row
    (answer
    (week trial_period (bit_field "000001" "FE6" ++ bit_field "000002" "C1E")
    (category_over_all
    ++ line "*A VE #0      #1      000001                              %"
    ++ line "*A VE #1      #2      000002                              %"
    ++ line "*A VE #2      #3      000001                              %")))
    (Refused 19 5 1 0 0)
    -- "P Leg 0 daily, others FE6: passes."
    ∷ row
    (answer
    (week trial_period (bit_field "000001" "FE6")
    (category_over_all
    ++ line "*A VE #0      #1                                          %"
    ++ line "*A VE #1      #3      000001                              %")))
    (Accepted 85)
    -- "P Times 2 and 3: classes 1, 1 give 2"; document 02, No. 2, in place of "classes 2, 2 give 3": "its marked case for classes 2, 2 change (now 2);
    -- classes 2, 3 give 3"
    ∷ row (interchange_asked (table_words (delivered trial)) 1000011 1 1) (Ok 2)
    ∷ row (interchange_asked (table_words (delivered trial)) 1000011 2 2) (Ok 2)
    ∷ row (interchange_asked (table_words (delivered trial)) 1000011 2 3) (Ok 3)
    -- No. 6: "A refusal 4 also returns the column .. (59 for a missing "%")": file 5, line 2
    ∷ row (answer (with_category "*G BAT")) (Refused 4 5 2 59 0)
    -- No. 13: "helper words are lent: 64, and four for each line of BITFELD, BAHNHOF and UMSTEIGB" (1, 3 and 1 lines): one too few, and enough; then
    -- with a line more of BITFELD, which is skipped and has no LF
    ∷ row (loaded trial 4096 83) (Refused 51 0 0 0 84)
    ∷ row (loaded trial 4096 84) (Accepted 82)
    ∷ row (loaded (week trial_period (bit_field "000001" "FE6" ++ bytes "% skipped") (category_over_all ++ days_over_all)) 4096 87) (Refused 51 0 0 0 88)
    -- "51, directly after 1": before an offence of ECKDATEN's first line, and before 20
    ∷ row (loaded (week [] (bit_field "000001" "FE6") (category_over_all ++ days_over_all)) 4096 83) (Refused 51 0 0 0 84)
    ∷ row (loaded trial 81 83) (Refused 51 0 0 0 84)
    ∷ row (loaded trial 81 84) (Refused 20 0 0 0 82)
    -- No. 5: "A blank field repeats the call before; the first call's blanks take the *Z values." 9 words of header, 26 of bit fields, 9 of stops, 3 of
    -- the interchange record, 2 of the category, and 12 + 28 + 3 + 6 of the service
    ∷ row (answer changing) (Accepted 98)
    ∷ row (numbers changing) changing_calls
    ∷ row (walk_of (table_words (delivered changing)) 0 0 5 12 2025) (listed changing_rows)
    -- No. 8: 5.3.3's example "0240 0450" has runs 0 to 32; run 1 is 8 minutes late, run 3 is 23, run 32 is 240, and run 33 answers 25
    ∷ row (answer dial) (Accepted 82)
    ∷ row (map (leaves dial) (0 ∷ 1 ∷ 3 ∷ 32 ∷ [])) (480 ∷ 488 ∷ 503 ∷ 720 ∷ [])
    ∷ row (walk_of (table_words (delivered dial)) 0 33 5 12 2025) (refused NoSuchRun)
    -- "the *Z values of No. 5, may be a *T's" (80_ is 38 30 5F and ___ 5F 5F 5F in hex)
    ∷ row (numbers dial) (replicate 4 (1554 ∷ 3682399 ∷ 6250335 ∷ []))
    -- "the negative density of section 5.3.17's example answers 4": file 5, line 1, where the density starts; and density 0
    ∷ row (answer (opened_by "*T 00001 VGS___ 0720 -0900 %")) (Refused 4 5 1 22 0)
    ∷ row (answer (opened_by "*T 00001 VGS___ 0720 0000                                 %")) (Refused 4 5 1 22 0)
    -- "12 now reads "neither *Z nor *T, and neither yet""
    ∷ row (answer (opened_by "*G BAT                                                    %")) (Refused 12 5 1 0 0)
    -- "the *Z line of 14 .. may be a *T's"
    ∷ row (answer (planned (line "%" ++ line dial_line))) (Refused 14 5 2 0 0)
    ∷ []
