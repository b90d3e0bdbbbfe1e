-- Document 02, No. 12, of an accepted delivery: which refusals are left (`is_left`), and that each part of a connection that holds boards and alights at rows of the
-- delivery's own text, by demand 3 (`OwnPart`). Proved in proofs/Own.antt: `holds-own`; in proofs/Left.antt: `only-left`. Assumes nothing.
use Rattle.std.specs.Prelude.{◌≡◌, List, [], ◌∷◌, Bool, ℕ, ◌+◌, ◌-◌, ◌<◌, ◌≤◌, eqb}
use Rattle.base.specs.Lists.{some_of}
use Rattle.timetable.specs.Delivery.{Files, Service}
use Rattle.timetable.specs.Load.{delivered}
use Rattle.timetable.specs.Questions.{rows, walk_of}
use Rattle.whole_runs.specs.Classes.{OwnClass}
use Rattle.whole_runs.specs.Rows.{row_word, flag, Stretched}
use Rattle.whole_runs.specs.Promise.{Asked, OwnRun}
use Rattle.connections.specs.Connection.{moment}
use Rattle.connections.specs.declared.Part.{Part}
use Rattle.connections.specs.declared.Stage.{Stage}

-- of 21, 46, the walk's own refusals, 47, 48, 49, 38 and 50 these are left: of the walk's own 22 to 25, and no 38
abbrev pub left_refusals : List ℕ
left_refusals = 46 ∷ 22 ∷ 23 ∷ 24 ∷ 25 ∷ 47 ∷ 48 ∷ 49 ∷ 50 ∷ []

unfoldable pub is_left : ℕ → Bool
is_left number = some_of (eqb number) left_refusals

-- a part p of a connection that holds on the words w, and its stage s
pub record OwnPart (f : Files) (w : List ℕ) (p : Part) (s : Stage) : Type 0 where
  -- what demand 3 is asked: a service of the delivery, a repeat that it has, a date in the period
  pub service : Service
  pub day : ℕ
  pub asks : Asked f p.service p.repeat p.day p.month p.year service day
  -- the rows of that walk, which are those of the delivery's own text
  pub ws : List ℕ
  pub lists : walk_of w p.service p.repeat p.day p.month p.year ≡ rows ws
  pub stretch : Stretched (delivered f) service p.repeat (day - (delivered f).period.start) ws
  pub own : OwnRun f p.service service (day - (delivered f).period.start)
  -- "each part lies in that day's rows, boards before it alights": call `board` of the route has row `board - stretch.start`
  pub first : stretch.start ≤ p.board
  pub order : p.board < p.alight
  pub last : p.alight ≤ stretch.start + stretch.legs
  -- "boarding and alighting are allowed"
  pub may_board : flag 8 (row_word ws (p.board - stretch.start) 3) ≡ 0
  pub may_alight : flag 4 (row_word ws (p.alight - stretch.start) 3) ≡ 0
  -- the stop, the departure and the category of the boarding row; the stop and the arrival of the alighting row, and the category of the row before it
  pub from : s.from ≡ row_word ws (p.board - stretch.start) 0
  pub departs : s.departs ≡ moment (day - (delivered f).period.start) (row_word ws (p.board - stretch.start) 2)
  pub departing : s.departing ≡ row_word ws (p.board - stretch.start) 7
  pub to : s.to ≡ row_word ws (p.alight - stretch.start) 0
  pub arrives : s.arrives ≡ moment (day - (delivered f).period.start) (row_word ws (p.alight - stretch.start) 1)
  pub arriving : s.arriving ≡ row_word ws (p.alight - stretch.start - 1) 7
  -- both categories have a class, from their own lines of ZUGART
  pub departing_class : OwnClass f s.departing
  pub arriving_class : OwnClass f s.arriving
