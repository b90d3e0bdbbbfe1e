use mathlib.Core.Path.{◌≡◌}
use Prim.Native.Nat.{◌*◌, ◌-◌}
use lib.ListN.{drop}
use Rattle.draft.specs.Inner.Draft.{draft_call, call_back, calls_on}
use Rattle.timetable.specs.Offences.{verdict_by}
use Rattle.timetable.specs.Checks.{times_first}
use Rattle.timetable.specs.Table.{rows_in}
use Rattle.service.proofs.schedule.times_wrong.Given as goal

abbrev pub invariant-loop-i : goal.invariant-loop-i
invariant-loop-i l =
    verdict_by (times_first l.c l.i l.before (rows_in call_back draft_call (l.c - l.i) (drop (draft_call * l.i) l.calls)))
    ≡ verdict_by (times_first l.c 0 0 (calls_on l.c l.calls))
