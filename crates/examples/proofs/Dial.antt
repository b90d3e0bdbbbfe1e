-- Document 02, No. 8: 001, 5.3.3's *T line over route R is accepted, and its last run meets what demand 3 asks for, so the demand is not empty of services
-- on call. Assumes nothing.
use Prim.Native.Nat.{ℕ, ◌-◌}
use native.Mathlib.Omega.{arith}
use mathlib.Core.Path.{◌≡◌, refl, ap, ◌∙◌}
use mathlib.Core.List.{List}
use mathlib.Core.Bool.{true, false}
use mathlib.Core.Option.{some}
use lib.ListN.{length, get_elem?}
use Rattle.calendar.specs.Calendar.{day_of}
use Rattle.std.specs.Prelude.{Some}
use Rattle.timetable.specs.Delivery.{Service}
use Rattle.timetable.specs.Runs.{has_run, lateness}
use Rattle.timetable.specs.Service.{service_of}
use Rattle.timetable.specs.Load.{delivered, loaded, written}
use Rattle.timetable.specs.Questions.{walk_of}
use Rattle.timetable.specs.declared.Loaded.TheVariants.{Accepted}
use Rattle.lines.specs.Lines.{lines_of}
use Rattle.whole_runs.specs.Promise.{Demand3, Asked}
use Rattle.whole_runs.proofs.Demand3.{demand3}
use Rattle.examples.specs.Trial.{dial}
use Rattle.examples.proofs.Computing.{computing}

-- its one service: all of its FPLAN
unfoldable pub boat : Service
boat = service_of (lines_of dial.fplan)

boat-is : get_elem? (delivered dial).services 0 ≡ some boat
unfolding computing boat
boat-is = refl

-- runs 0 to 32, the last 240 minutes late
pub boat-runs : (has_run boat.opening 32 ≡ true) × (has_run boat.opening 33 ≡ false) × (lateness boat.opening 32 ≡ 240)
unfolding computing boat
boat-runs = (refl, refl, refl)

pub accepted : loaded dial 4096 4096 ≡ Accepted 82
unfolding computing
accepted = refl

period-is : ((delivered dial).period.start ≡ 45990) × ((delivered dial).period.n ≡ 7)
unfolding computing
period-is = (refl, refl)

friday : day_of 5 12 2025 ≡ Some 45994
unfolding computing
friday = refl

asked : Asked dial 0 32 5 12 2025 boat 45994
asked =
    let p = period-is.0 in let n = period-is.1 in
    record { service = boat-is; repeat = boat-runs.0; date = friday; from = omega arith; until = omega arith }

pub dial-demand : (t : List ℕ) → length t ≡ 4096 → Demand3 dial 0 boat 32 (45994 - (delivered dial).period.start) (walk_of (written dial t 4096) 0 32 5 12 2025)
dial-demand t lent = demand3 dial t 4096 82 (ap (λ (n : ℕ). loaded dial n 4096) lent ∙ accepted) 0 32 5 12 2025 45994 boat asked
