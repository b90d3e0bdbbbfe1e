-- The runs of a service by the paper's words for its kind: what demand 3 says of them besides `has_run` and `lateness`. Assumes nothing.
use Prim.Native.Nat.{ℕ, ◌+◌, ◌*◌, ◌/◌, ◌<◌, ◌≤◌}
use mathlib.Core.Path.{◌≡◌, refl}
use mathlib.Core.Bool.{true}
use native.Mathlib.Omega.{arith}
use borrow.Author.Tests.{le-leb, leb-true}
use Rattle.timetable.specs.Runs.{has_run, lateness}
use Rattle.timetable.specs.declared.Opening.{Opening}
use Rattle.whole_runs.specs.Promise.{RunsBy}

-- "over sixty, rounded up"
rounded : (seconds : ℕ) → (seconds ≤ 60 * ((seconds + 59) / 60)) × (60 * ((seconds + 59) / 60) < seconds + 60)
rounded seconds = (omega arith, omega arith)

pub runs_by : (o : Opening) → RunsBy o
unfolding has_run lateness
runs_by o = record {
  z_runs = λ e j. rw e (leb-true j o.repeats, le-leb j o.repeats);
  z_late = λ e j. rw e refl;
  t_runs = λ e j. rw e (leb-true (j * o.offset) (60 * o.repeats), le-leb (j * o.offset) (60 * o.repeats));
  t_late = λ e j. rw e (rounded (j * o.offset));
}
