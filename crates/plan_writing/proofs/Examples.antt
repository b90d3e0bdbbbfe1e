-- The trial week's table written, and changed copies of it: each cause of 44, the most that passes, 21 and 45. Assumes nothing.
use Rattle.std.specs.Prelude.{Result, Ok, Err}
use Prim.Native.Nat.{ℕ}
use mathlib.Core.Path.{◌≡◌, refl}
use mathlib.Core.List.{List, [], ◌∷◌, ◌++◌}
use mathlib.Core.Bool.{Bool, true, false, ◌&&◌}
use lib.ListN.{take, set}
use lib.Dec.{eqb}
use Rattle.base.specs.Lists.{every}
use Rattle.base.specs.Text.{bytes}
use Rattle.columns.specs.Columns.{pad_to}
use Rattle.timetable.specs.Trial.{trial_words as words}
use Rattle.timetable.specs.Runs.{opening_sound}
use Rattle.timetable.specs.Table.{rows_in, service_at, services_in, resolved, stop_number_at, stops_at, table_of, record_sound, records_sound, head_sound, is_table}
use Rattle.timetable.specs.declared.refusal.Refusal.TheVariants.{NoTable, TextTooShort}
use Rattle.timetable.specs.Refusals.{number_of}
use Rattle.line_text.specs.Text.{decimal, hash_before, hash_text, clock_text}
use Rattle.line_text.specs.Laid.{laid, text_of}
use Rattle.plan_text.specs.PlanText.{opening_text, frequency_text, category_text, day_text, extra_text, call_text}
use Rattle.plan_services.specs.Services.{rest_lines, plan_lines}
use Rattle.writable.specs.Writable.{half_writable, opening_writable, name_writable, code_writable, call_writable, service_writable}
use Rattle.plan_writing.specs.Writing.{table_text, table_writable, refused, plan_answer}
use Rattle.plan_writing.specs.declared.WriteRefusal.{WriteRefusal}

trial-text : table_text words
    ≡ text_of (
    bytes "*Z 00042 FERRY_       000 000                             %"
    ∷ bytes "*G BAT      #0      #3                                    %"
    ∷ bytes "*A VE      #0      #3 000001                              %"
    ∷ bytes "1000011                              00800 00042 FERRY_   %"
    ∷ bytes "1000022                       00810  00812 00042 FERRY_   %"
    ∷ bytes "1000033                       00830  00835 00042 FERRY_   %"
    ∷ bytes "1000022                       00855        00042 FERRY_   %"
    ∷ [])
unfolding table_text table_of stops_at services_in service_at resolved stop_number_at rows_in plan_lines rest_lines text_of opening_text frequency_text category_text day_text extra_text call_text laid pad_to decimal hash_text hash_before clock_text bytes
trial-text = refl

-- ---- 44

-- with another *A behind its other ranges
with_extra : ℕ → ℕ → List ℕ
with_extra code field = set (set (set words 0 86) 36 50) 45 1 ++ (code ∷ field ∷ 0 ∷ 0 ∷ [])

abbrev unwritable : List (List ℕ)
unwritable =
    -- the service's number; its administration: four bytes, a blank, LF
    set words 37 100000
    ∷ set words 38 16777216
    ∷ set words 38 2115922
    ∷ set words 39 5376607
    ∷ set words 39 5376522
    -- repeats without an offset
    ∷ set words 40 1
    -- the number of a call's stop; the call's number and administration: some blanks, six
    ∷ set words 22 10000000
    ∷ set words 52 100000
    ∷ set words 53 2105376
    ∷ set (set words 53 2105376) 54 2105376
    -- a time without its flag; a forbidding flag without its time
    ∷ set words 49 5
    ∷ set words 51 6
    ∷ set words 71 5
    ∷ set words 72 9
    -- the category: four bytes, its first blank, LF
    ∷ set words 76 16777216
    ∷ set words 76 2113876
    ∷ set words 76 4328020
    -- bit fields; the code of another *A: three bytes, its first blank, LF, VE
    ∷ set words 79 1000000
    ∷ with_extra 16705 1000000
    ∷ with_extra 65536 1
    ∷ with_extra 8257 1
    ∷ with_extra 16650 1
    ∷ with_extra 22085 1
    ∷ []

-- what passes: 0, CR and "%" are bytes like others, and so is a blank behind the first of a category or code
abbrev writable : List (List ℕ)
writable =
    words
    ∷ set words 37 99999
    ∷ set words 38 3365
    ∷ set words 41 999
    ∷ set (set words 40 999) 41 1
    ∷ set (set (set words 40 9999) 41 9999) 47 1
    ∷ set words 22 9999999
    ∷ set words 52 99999
    ∷ set (set (set words 49 59999) 50 0) 51 15
    ∷ set words 76 4333600
    ∷ set words 79 999999
    ∷ with_extra 16672 0
    ∷ []

abbrev is44 : Result ℕ WriteRefusal → Bool
is44 (Ok n) = false
is44 (Err r) = eqb (number_of r.refusal) 44 && eqb r.needed 0

-- also where no byte is lent: 44 before 45
told-44 : every (λ (w : List ℕ). is44 (plan_answer w 480) && is44 (plan_answer w 0)) unwritable ≡ true
unfolding every plan_answer table_writable with_extra is_table head_sound records_sound record_sound opening_sound table_of stops_at services_in service_at resolved stop_number_at rows_in half_writable opening_writable name_writable code_writable call_writable service_writable
told-44 = refl

written : every table_writable writable ≡ true
unfolding every table_writable with_extra table_of stops_at services_in service_at resolved stop_number_at rows_in half_writable opening_writable name_writable code_writable call_writable service_writable
written = refl

tables : every is_table writable ≡ true
unfolding every with_extra is_table head_sound records_sound record_sound opening_sound table_of stops_at services_in service_at resolved stop_number_at rows_in
tables = refl

-- ---- 21, 45 and the bytes written: seven lines of 60

answers : (plan_answer (take 81 words) 420 ≡ refused NoTable 0) × (plan_answer words 419 ≡ refused TextTooShort 420) × (plan_answer words 420 ≡ Ok 420) × (plan_answer words 1000 ≡ Ok 420)
unfolding every plan_answer table_writable is_table head_sound records_sound record_sound opening_sound table_text table_of stops_at services_in service_at resolved stop_number_at rows_in half_writable opening_writable name_writable code_writable call_writable service_writable plan_lines rest_lines text_of opening_text frequency_text category_text day_text extra_text call_text laid pad_to decimal hash_text hash_before clock_text
answers = (refl, refl, refl, refl)
