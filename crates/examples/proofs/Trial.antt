-- The trial week: accepted with its 82 words, whatever the 4,096 words lent and the helper words, if they are enough; four rows on 05.12.2025, not running on 06.12.2025. It meets what demand 3
-- asks for, on a day that runs and on one that does not, so the demand is not empty; and demand 3 allows these answers only. Assumes nothing.
use Prim.Native.Nat.{ℕ, ◌+◌, ◌-◌, ◌<◌, ◌≤◌}
use native.Mathlib.Omega.{arith}
use mathlib.Core.Path.{◌≡◌, refl, ap, ◌∙◌}
use mathlib.Core.List.{List, [], ◌++◌}
use mathlib.Core.Bool.{Bool, true, false, cond}
use mathlib.Core.Option.{some}
use lib.ListN.{length, get_or, drop, get_elem?, replicate, length-replicate}
use lib.Dec.{ltb}
use borrow.Author.Tests.{le-ltb, lt-ltb}
use Rattle.std.specs.Prelude.{Some, None, Ok, Err}
use Rattle.calendar.specs.Calendar.{day_of}
use Rattle.timetable.specs.declared.refusal.Refusal.TheVariants.{TooFewWords}
use Rattle.timetable.specs.Delivery.{Service}
use Rattle.timetable.specs.Load.{delivered, onto, helper_needed, loaded, written, helped}
use Rattle.timetable.specs.Runs.{has_run}
use Rattle.timetable.specs.Table.{table_words}
use Rattle.timetable.specs.View.{view_of}
use Rattle.timetable.specs.Questions.{idle, rows, journey, walk_of, walked_by, walked, rows_by, walk_rows, Walked, walk_refusal}
use Rattle.timetable.specs.declared.Loaded.TheVariants.{Accepted, Refused as LoadRefused}
use Rattle.timetable.specs.Trial.{trial_words}
use Rattle.whole_runs.specs.Promise.{Demand3, Asked, Walk}
use Rattle.whole_runs.proofs.Accepted.{written_is, walk-accepted}
use Rattle.whole_runs.proofs.Demand3.{demand3, demand3-rows}
use Rattle.whole_runs.proofs.Slack.{no-slack}
use Rattle.whole_runs.proofs.Numbers.{helper-accepted}
use Rattle.examples.specs.Trial.{trial, friday_rows}
use Rattle.examples.proofs.Computing.{computing}

-- ---- accepted, with exactly these words

-- "accepted days 7 bitfields 1 stops 3 interchange 1 services 1 words 66"; with document 02's No. 5, No. 8 and No. 1, 82: three words more for each of four calls, one for the service, and one of header and two for the category; with 64 helper words and four for each of the five lines of BITFELD, BAHNHOF
-- and UMSTEIGB
pub accepted : (helper : ℕ) → 84 ≤ helper → loaded trial 4096 helper ≡ Accepted 82
unfolding computing
accepted helper h = go (ltb helper 84) (le-ltb helper 84 h)
  where
    go : (t : Bool) → t ≡ false → cond t (LoadRefused 51 0 0 0 84) (Accepted 82) ≡ Accepted 82
    go t e = rw e refl

pub words : table_words (delivered trial) ≡ trial_words
unfolding computing
words = refl

words-82 : length trial_words ≡ 82
words-82 = refl

module _ (t : List ℕ) (lent : length t ≡ 4096) (helper : ℕ) (enough : 84 ≤ helper) where
  pub week-accepted : loaded trial (length t) helper ≡ Accepted 82
  week-accepted = ap (λ (n : ℕ). loaded trial n helper) lent ∙ accepted helper enough

  -- "later words stay"
  pub week-table : written trial t helper ≡ trial_words ++ drop 82 t
  week-table = written_is trial t helper 82 week-accepted ∙ (ap (λ (w : List ℕ). w ++ drop (length w) t) words ∙ ap (λ (n : ℕ). trial_words ++ drop n t) words-82)

-- "Those words hold 0 afterwards; any further ones stay."
needed-84 : helper_needed trial ≡ 84
unfolding computing
needed-84 = refl

pub week-helper : (t h : List ℕ) → length t ≡ 4096 → 84 ≤ length h → helped trial h ≡ replicate 84 0 ++ drop 84 h
unfolding onto
week-helper t h lent enough =
    helper-accepted trial h (length t) 82 (week-accepted t lent (length h) enough)
    ∙ (ap (λ (n : ℕ). replicate {A = ℕ} n 0 ++ drop (length (replicate {A = ℕ} n 0)) h) needed-84 ∙ ap (λ (n : ℕ). replicate 84 0 ++ drop n h) (length-replicate {A = ℕ} 84 0))

-- ---- the walks

friday-journey : journey (view_of (delivered trial)) 0 0 5 12 2025 ≡ rows friday_rows
unfolding computing
friday-journey = refl

saturday-journey : journey (view_of (delivered trial)) 0 0 6 12 2025 ≡ idle
unfolding computing
saturday-journey = refl

-- 40 words are room enough for four rows
friday-room : (room : List ℕ) → 40 ≤ length room → (walked_by (rows friday_rows) (length room) ≡ Ok (Some 4)) × (rows_by (rows friday_rows) room ≡ friday_rows ++ drop 40 room)
unfolding friday_rows onto
friday-room room h = (rw (le-ltb (length room) 40 h), rw (le-ltb (length room) 40 h))

-- with fewer they are what 29 names
friday-lack : (room : List ℕ) → length room < 40 → (walked_by (rows friday_rows) (length room) ≡ Err (walk_refusal TooFewWords 40)) × (rows_by (rows friday_rows) room ≡ room)
unfolding friday_rows
friday-lack room h = (rw (lt-ltb (length room) 40 h), rw (lt-ltb (length room) 40 h))

module _ (t : List ℕ) (lent : length t ≡ 4096) (helper : ℕ) (enough : 84 ≤ helper) where
  friday-walk : walk_of (written trial t helper) 0 0 5 12 2025 ≡ rows friday_rows
  friday-walk = walk-accepted trial t helper 82 (week-accepted t lent helper enough) 0 0 5 12 2025 ∙ friday-journey

  saturday-walk : walk_of (written trial t helper) 0 0 6 12 2025 ≡ idle
  saturday-walk = walk-accepted trial t helper 82 (week-accepted t lent helper enough) 0 0 6 12 2025 ∙ saturday-journey

  -- "The walk on 05.12.2025 gives four rows"
  pub friday : (room : List ℕ) → 40 ≤ length room → (walked (written trial t helper) 0 0 5 12 2025 (length room) ≡ Ok (Some 4)) × (walk_rows (written trial t helper) 0 0 5 12 2025 room ≡ friday_rows ++ drop 40 room)
  friday room h = rw friday-walk (friday-room room h)

  -- "29 row slice too short", "29 also the words needed"
  pub friday-short : (room : List ℕ) → length room < 40 → (walked (written trial t helper) 0 0 5 12 2025 (length room) ≡ Err (walk_refusal TooFewWords 40)) × (walk_rows (written trial t helper) 0 0 5 12 2025 room ≡ room)
  friday-short room h = rw friday-walk (friday-lack room h)

  -- "on 06.12.2025 it is not running"
  pub saturday : (room : List ℕ) → (walked (written trial t helper) 0 0 6 12 2025 (length room) ≡ Ok None) × (walk_rows (written trial t helper) 0 0 6 12 2025 room ≡ room)
  saturday room = rw saturday-walk (refl, refl)

-- ---- demand 3

unfoldable pub ferry : Service
ferry = get_or (delivered trial).services 0 no_service
  where
    no_service : Service
    no_service = record { line = 0; opening = record { number = 0; high = 0; low = 0; repeats = 0; offset = 0; kind = 0 }; calls = []; categories = []; days = []; extras = [] }

ferry-is : get_elem? (delivered trial).services 0 ≡ some ferry
unfolding computing ferry
ferry-is = refl

ferry-runs : has_run ferry.opening 0 ≡ true
unfolding computing ferry
ferry-runs = refl

period-is : ((delivered trial).period.start ≡ 45990) × ((delivered trial).period.n ≡ 7)
unfolding computing
period-is = (refl, refl)

days-are : (day_of 5 12 2025 ≡ Some 45994) × (day_of 6 12 2025 ≡ Some 45995)
unfolding computing
days-are = (refl, refl)

-- a date of the week
asked : (d k : ℕ) → day_of d 12 2025 ≡ Some (45990 + k) → k < 7 → Asked trial 0 0 d 12 2025 ferry (45990 + k)
asked d k e l =
    let p = period-is.0 in let n = period-is.1 in
    record { service = ferry-is; repeat = ferry-runs; date = e; from = omega arith; until = omega arith }

module _ (t : List ℕ) (lent : length t ≡ 4096) (helper : ℕ) (enough : 84 ≤ helper) where
  pub friday-demand : Demand3 trial 0 ferry 0 (45994 - (delivered trial).period.start) (walk_of (written trial t helper) 0 0 5 12 2025)
  friday-demand = demand3 trial t helper 82 (week-accepted t lent helper enough) 0 0 5 12 2025 45994 ferry (asked 5 4 days-are.0 (omega arith))

  pub saturday-demand : Demand3 trial 0 ferry 0 (45995 - (delivered trial).period.start) (walk_of (written trial t helper) 0 0 6 12 2025)
  saturday-demand = demand3 trial t helper 82 (week-accepted t lent helper enough) 0 0 6 12 2025 45995 ferry (asked 6 5 days-are.1 (omega arith))

  -- And of a walk on these days demand 3 allows no other answer and no other rows: not "not running" for all, nor rows left as lent.
  pub friday-only : (room : List ℕ) → 40 ≤ length room → {a : Walked} {v : List ℕ} → Walk (delivered trial) ferry 0 (45994 - (delivered trial).period.start) room a v → (a ≡ Ok (Some 4)) × (v ≡ friday_rows ++ drop 40 room)
  friday-only room h x =
      let w = demand3-rows trial t helper 82 (week-accepted t lent helper enough) 0 0 5 12 2025 45994 ferry (asked 5 4 days-are.0 (omega arith)) room in
      let e = no-slack (delivered trial) ferry 0 (45994 - (delivered trial).period.start) room x w in
      let f = friday t lent helper enough room h in
      (e.0 ∙ f.0, e.1 ∙ f.1)

  pub saturday-only : (room : List ℕ) → {a : Walked} {v : List ℕ} → Walk (delivered trial) ferry 0 (45995 - (delivered trial).period.start) room a v → (a ≡ Ok None) × (v ≡ room)
  saturday-only room x =
      let w = demand3-rows trial t helper 82 (week-accepted t lent helper enough) 0 0 6 12 2025 45995 ferry (asked 6 5 days-are.1 (omega arith)) room in
      let e = no-slack (delivered trial) ferry 0 (45995 - (delivered trial).period.start) room x w in
      let f = saturday t lent helper enough room in
      (e.0 ∙ f.0, e.1 ∙ f.1)
