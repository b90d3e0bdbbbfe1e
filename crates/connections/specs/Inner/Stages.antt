-- A stage by the record of its service, for contracts of inner functions; nobody has to believe this file: the question is told by Connection. Assumes nothing.
use Rattle.std.specs.Prelude.{ℕ, ◌+◌, ◌*◌, List, Bool, cond, drop, Result, Ok, Err}
use Rattle.std.proofs.Math.Option.{some}
use Rattle.timetable.specs.Layout.{service_head, call_size}
use Rattle.timetable.specs.Table.{call_at, opening_at}
use Rattle.timetable.specs.View.{View}
use Rattle.timetable.specs.Run.{Run, run_by}
use Rattle.timetable.specs.Runs.{lateness}
use Rattle.timetable.specs.declared.Call.{Call}
use Rattle.timetable.specs.declared.refusal.Refusal.{Refusal}
use Rattle.timetable.specs.declared.refusal.Refusal.TheVariants.{CategoryUnlisted, OtherStop, WaitTooShort}
use Rattle.course.specs.Inner.Rows.{call_shown, service_shown}
use Rattle.connections.specs.declared.Part.{Part}
use Rattle.connections.specs.declared.Stage.{Stage}
use Rattle.connections.specs.Connection.{Staged, stage_along, stage_between, stage_by}

-- ---- the service at the front of s, its calls' stops as a view shows them

-- a call of it
abbrev pub call_in : List ℕ → ℕ → Call
call_in s i = call_at (drop (service_head + call_size * i) s)

-- run r of it, along the stretch from call a on with n legs
abbrev pub run_in : View → List ℕ → ℕ → ℕ → ℕ → Run
run_in v s r a n = record { service = service_shown v s; late = lateness (opening_at s) r; start = a; legs = n }

-- ---- part p of it on day k: by its course, of two calls that are among its rows, and between two calls

abbrev pub stage_in : View → List ℕ → Part → ℕ → Staged
stage_in v s p k = stage_by k p (run_by v (Ok (service_shown v s)) p.repeat k)

abbrev pub stage_ridden : View → List ℕ → Part → ℕ → Staged
stage_ridden v s p k =
    stage_between (service_shown v s) (lateness (opening_at s) p.repeat) k p (some (call_shown v (call_in s p.board))) (some (call_shown v (call_in s p.alight)))

abbrev pub stage_calls : View → List ℕ → Part → ℕ → Call → Call → Stage
stage_calls v s p k b a = stage_along (service_shown v s) (lateness (opening_at s) p.repeat) k p (call_shown v b) (call_shown v a)

-- ---- what a change is refused for: at the same stop, both categories listed, the wait long enough

abbrev pub change_answer : Bool → Bool → Bool → Result (Unit {0}) Refusal
change_answer same listed long = cond same (cond listed (cond long (Ok tt) (Err WaitTooShort)) (Err CategoryUnlisted)) (Err OtherStop)
