-- Demand 3 at the boundary, in the numbers that a caller holds: what `estelunya_walk` answers and leaves in the rows, of the table that
-- `estelunya_load` left where its number was 0. Whole it is `WholeRuns`. Proved in proofs/Exported.antt: `demand3-exported`, and of any words `decoded`. Assumes nothing.
use Rattle.std.specs.Prelude.{◌≡◌, List, ℕ, ◌+◌, ◌-◌, ◌*◌, ◌<◌, ◌≤◌, length, take, Some, None, Ok, Err}
use Rattle.timetable.specs.declared.refusal.Refusal.{Refusal}
use Rattle.timetable.specs.Layout.{row_size}
use Rattle.timetable.specs.Delivery.{Files, Service, Delivery}
use Rattle.timetable.specs.Load.{delivered, loaded, written, onto}
use Rattle.timetable.specs.Questions.{Walked, walk_refusal, walked, walk_rows}
use Rattle.timetable.specs.Refusals.{number_of}
use Rattle.whole_runs.specs.Rows.{RunsNowhere, Stretched}
use Rattle.whole_runs.specs.Promise.{Asked, OwnRun}
use Rattle.estelunya.specs.Answers.{load_result, walk_result}
use Rattle.estelunya.specs.declared.LoadResult.{LoadResult}
use Rattle.estelunya.specs.declared.WalkResult.{WalkResult}

-- the answer as numbers, and the rows afterwards, from the rows as lent: "not running", or 29 exactly if fewer words are lent than one row for each call
-- of the stretch takes, or that stretch
pub data Answered (d : Delivery) (s : Service) (r k : ℕ) (lent : List ℕ) : WalkResult → List ℕ → Type 0 where
  not_running : RunsNowhere d s k → Answered d s r k lent (record { number = 0; rows = 0; needed = 0 }) lent
  short : {ws : List ℕ} (x : Stretched d s r k ws) → length lent < row_size * (x.legs + 1)
      → Answered d s r k lent (record { number = 29; rows = 0; needed = row_size * (x.legs + 1) }) lent
  runs : {ws : List ℕ} (x : Stretched d s r k ws) → row_size * (x.legs + 1) ≤ length lent
      → Answered d s r k lent (record { number = 0; rows = x.legs + 1; needed = 0 }) (onto ws lent)

-- of run r of the i-th service, on day k of the period
pub record Walks (f : Files) (i : ℕ) (s : Service) (r k : ℕ) (lent : List ℕ) (x : WalkResult) (v : List ℕ) : Type 0 where
  pub answered : Answered (delivered f) s r k lent x v
  -- "The days, calls and categories are those of that same delivery's text": service, days, stops, interchange records and categories
  pub own : OwnRun f i s k
  -- "It never meets a number it cannot resolve": with room for every call of the service it is not refused
  pub never_refused : row_size * length s.calls ≤ length lent → x.number ≡ 0
  -- "'does not run' is said exactly when its text says so": by 0 rows
  pub idle_only : x.number ≡ 0 → x.rows ≡ 0 → RunsNowhere (delivered f) s k
  pub idle_always : RunsNowhere (delivered f) s k → (x.number ≡ 0) × (x.rows ≡ 0)

-- Demand 3, whole. "Take a delivery that was accepted": `estelunya_load`, lent any number of helper words, answered a with number 0 and left the words `left`;
-- "and its table unaltered": any words w whose first ones, as many as a says are used, are those; what stands behind them, if anything, does not matter.
-- "For any service in it, any repeat the service has and any date in the period" (`Asked`), "a walk of that run" with any rows lent: x is what `estelunya_walk`
-- answers, and v are the rows afterwards.
abbrev pub WholeRuns : Type 0
WholeRuns =
    (f : Files) (t : List ℕ) (helper : ℕ) (a : LoadResult) (left : List ℕ) → a ≡ load_result (loaded f (length t) helper) → left ≡ written f t helper → a.number ≡ 0
    → (w : List ℕ) → take a.words w ≡ take a.words left
    → (i r d m y day : ℕ) (s : Service) → Asked f i r d m y s day
    → (lent : List ℕ) (x : WalkResult) (v : List ℕ) → x ≡ walk_result (walked w i r d m y (length lent)) → v ≡ walk_rows w i r d m y lent
    → Walks f i s r (day - (delivered f).period.start) lent x v

-- of any words, table or not: what an answer a is, told from its numbers
pub record Decoded (a : Walked) (x : WalkResult) : Type 0 where
  pub idle : x.number ≡ 0 → x.rows ≡ 0 → a ≡ Ok None
  pub listing : x.number ≡ 0 → 1 ≤ x.rows → (a ≡ Ok (Some x.rows)) × (2 ≤ x.rows)
  -- no two refusals have one number (timetable/proofs/Numbered)
  pub refusal : 1 ≤ x.number → (r : Refusal) × (a ≡ Err (walk_refusal r x.needed)) × (number_of r ≡ x.number)
