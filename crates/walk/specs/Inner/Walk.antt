-- The walk of a view by its stages, for the contracts of the functions that share it; nobody has to believe this file. Assumes nothing.
use Rattle.std.specs.Prelude.{ℕ, List, Ok}
use Rattle.timetable.specs.Delivery.{Service}
use Rattle.timetable.specs.Runs.{lateness}
use Rattle.timetable.specs.Table.{service_at}
use Rattle.timetable.specs.View.{View}
use Rattle.timetable.specs.Run.{runs_along, run_along, run_by, run_of}
use Rattle.timetable.specs.Questions.{Journey, rows_along}
use Rattle.course.specs.Inner.Rows.{shown_by}

-- of the i-th service, on day k of the period
unfoldable pub index_walk : View → ℕ → ℕ → ℕ → Journey
index_walk v i r k = rows_along v (run_of v i r k)

-- of the record at the front of s
unfoldable pub record_walk : View → List ℕ → ℕ → ℕ → Journey
record_walk v s r k = rows_along v (run_by v (Ok (shown_by v (service_at s))) r k)

-- of run r, along the stretch from call a on with n legs
unfoldable pub stretch_walk : View → Service → ℕ → ℕ → ℕ → Journey
stretch_walk v s r a n = rows_along v (run_along s (lateness s.opening r) (runs_along a n))
