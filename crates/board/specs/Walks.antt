-- No. 9's theorem, as a type: "The answer equals the one from walking every run; a run whose walk is refused gives none." A walk's rows are of ten words, "stop, arrival,
-- departure .., flags" first. Proved in proofs/Walks of a view, and of any words in board_agrees/proofs/Walks (`asked-walks`). Assumes nothing.
use Rattle.std.specs.Prelude.{ℕ, ◌+◌, ◌*◌, ◌/◌, ◌%◌, ◌≤◌, ◌<◌, ◌≡◌, List, false, length, get_or, eqb}
use Rattle.timetable.specs.Layout.{row_size}
use Rattle.timetable.specs.Table.{table_of}
use Rattle.timetable.specs.View.{View, view_of}
use Rattle.timetable.specs.Run.{Run, RunFound, a_run, run_of}
use Rattle.timetable.specs.Questions.{Journey, rows, rows_along, dated_run, date_of, walk_of}
use Rattle.board.specs.Board.{Departure, Among, Ascending}

-- A run's walk, given room, lists this departure from stop n: in a row before the last (a leg follows it), which is the call at that place of the route, with that stop and time,
-- flag 8 clear ("where boarding is allowed"), "and the time is not below the first nor above the second".
pub record Lists (found : RunFound) (walk : Journey) (n t u : ℕ) (e : Departure) : Type 0 where
  pub run : Run
  pub runs : found ≡ a_run run
  pub words : List ℕ
  pub listed : walk ≡ rows words
  pub row : ℕ
  pub there : row_size * row < length words
  pub more : row < run.legs
  pub place : e.place ≡ run.start + row
  pub stop : get_or words (row_size * row + 0) 0 ≡ n
  pub time : get_or words (row_size * row + 2) 0 ≡ e.time
  pub boards : eqb (get_or words (row_size * row + 3) 0 / 8 % 2) 1 ≡ false
  pub first : t ≤ e.time
  pub last : e.time ≤ u

-- on day k of the period, by a view
abbrev pub WalkLists : View → ℕ → ℕ → ℕ → ℕ → Departure → Type 0
WalkLists v n k t u e = Lists (run_of v e.service e.repeat k) (rows_along v (run_of v e.service e.repeat k)) n t u e

-- rows in order, each once: exactly the departures that walks list
pub record IsWalked (v : View) (n k t u : ℕ) (es : List Departure) : Type 0 where
  pub ordered : Ascending es
  pub only : (e : Departure) → Among e es → WalkLists v n k t u e
  pub every : (e : Departure) → WalkLists v n k t u e → Among e es

-- on a date, by the walks of any words
abbrev pub WalkAsked : List ℕ → ℕ → ℕ → ℕ → ℕ → ℕ → ℕ → Departure → Type 0
WalkAsked w n day month year t u e =
    Lists (dated_run (view_of (table_of w)) e.service e.repeat (date_of (view_of (table_of w)) day month year)) (walk_of w e.service e.repeat day month year) n t u e

pub record EqualsWalks (w : List ℕ) (n day month year t u : ℕ) (es : List Departure) : Type 0 where
  pub ordered : Ascending es
  pub only : (e : Departure) → Among e es → WalkAsked w n day month year t u e
  pub every : (e : Departure) → WalkAsked w n day month year t u e → Among e es
