-- What it means that a connection holds, in the words of document 02, No. 12, with no order of tests: `IsConnection`, of the words proposed
-- `Proposed`. Proved in proofs/Accepts.antt: `accepts-exactly` (it is answered "holds" exactly if the words are `Proposed`) and `names-first` (else 46, which names 0, or
-- the part named is the first that does not go on). Assumes nothing.
use Rattle.std.specs.Prelude.{ℕ, ◌+◌, ◌-◌, ◌*◌, ◌/◌, ◌%◌, ◌≤◌, ◌<◌, ◌≡◌, List, [], ◌∷◌, true, length, take, Ok}
use Rattle.std.proofs.Math.Option.{some}
use Rattle.std.proofs.Math.ListN.{get_elem?}
use Rattle.timetable.specs.View.{View}
use Rattle.timetable.specs.Run.{category_on, Run, a_run, run_of}
use Rattle.timetable.specs.Questions.{date_of, minutes_for}
use Rattle.timetable.specs.declared.Call.{Call}
use Rattle.connections.specs.declared.Part.{Part}
use Rattle.connections.specs.declared.Stage.{Stage}
use Rattle.connections.specs.Connection.{part_size, most_parts, parts_of, moment}

-- "each part lies in that day's rows, boards before it alights, boarding and alighting are allowed": p is the stage s
pub record IsStage (v : View) (p : Part) (s : Stage) : Type 0 where
  -- that day, a day of the period; the service's run that day, which has rows
  pub k : ℕ
  pub run : Run
  pub on_day : date_of v p.day p.month p.year ≡ Ok k
  pub runs : run_of v p.service p.repeat k ≡ a_run run
  -- the calls where it boards and alights, both among the rows, in this order
  pub boarding : Call
  pub alighting : Call
  pub boards : get_elem? run.service.calls p.board ≡ some boarding
  pub alights : get_elem? run.service.calls p.alight ≡ some alighting
  pub first : run.start ≤ p.board
  pub order : p.board < p.alight
  pub last : p.alight ≤ run.start + run.legs
  -- flags 8 and 4 are clear
  pub may_board : boarding.flags / 8 % 2 ≡ 0
  pub may_alight : alighting.flags / 4 % 2 ≡ 0
  -- what the stage says of them
  pub from : s.from ≡ boarding.stop
  pub departs : s.departs ≡ moment k (boarding.departure + run.late)
  pub departing : s.departing ≡ category_on run.service p.board
  pub to : s.to ≡ alighting.stop
  pub arrives : s.arrives ≡ moment k (alighting.arrival + run.late)
  pub arriving : s.arriving ≡ category_on run.service (p.alight - 1)

-- "the next part boards at the same stop, and the wait, over date and minutes together, is at least the interchange time between the categories of the leg arriving
-- and the leg departing"; the interchange time is there where both are listed (38)
pub record IsChange (v : View) (s t : Stage) : Type 0 where
  pub same_stop : s.to ≡ t.from
  pub arriving_listed : v.listed s.arriving ≡ true
  pub departing_listed : v.listed t.departing ≡ true
  pub wait : s.arrives + minutes_for (v.times t.from) (v.class s.arriving) (v.class t.departing) ≤ t.departs

-- some parts after a stage: each is a stage, with a change from the one before
pub data GoesOn (v : View) : Stage → List Part → Type 0 where
  ends : {s : Stage} → GoesOn v s []
  next : {s : Stage} {p : Part} {ps : List Part} (t : Stage) → IsStage v p t → IsChange v s t → GoesOn v t ps → GoesOn v s (p ∷ ps)

-- every part a stage, and every two neighbours a change
pub data IsConnection (v : View) : List Part → Type 0 where
  nothing : IsConnection v []
  starts : {p : Part} {ps : List Part} (s : Stage) → IsStage v p s → GoesOn v s ps → IsConnection v (p ∷ ps)

-- words that propose a connection that holds: "1 to 10 whole parts"
pub record Proposed (v : View) (ws : List ℕ) : Type 0 where
  pub count : ℕ
  pub some_part : 1 ≤ count
  pub ten_at_most : count ≤ most_parts
  pub whole : length ws ≡ part_size * count
  pub holds : IsConnection v (parts_of ws)

-- part n is the first bad one of some parts: those before it make a connection, and with it they make none
pub record FirstBad (v : View) (ps : List Part) (n : ℕ) : Type 0 where
  pub low : 1 ≤ n
  pub high : n ≤ length ps
  pub before : IsConnection v (take (n - 1) ps)
  pub bad : IsConnection v (take n ps) → ⊥
