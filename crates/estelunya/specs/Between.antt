-- No. 1 at the boundary, in the numbers that a caller holds: the question between two categories of an accepted delivery, both listed (of those that a walk lists
-- demand 3 says so: `classed` of `OwnRun`). Proved in proofs/Between.antt: `between-exported`. Assumes nothing.
use Rattle.std.specs.Prelude.{◌≡◌, ℕ, Ok}
use Rattle.timetable.specs.Delivery.{Files}
use Rattle.whole_runs.specs.Classes.{Between}
use Rattle.estelunya.specs.declared.InterchangeResult.{InterchangeResult}

-- no refusal, and the minutes are those between their own classes
pub record BetweenGiven (f : Files) (stop arriving departing : ℕ) (x : InterchangeResult) : Type 0 where
  pub answered : x.number ≡ 0
  pub own : Between f stop arriving departing (Ok x.minutes)
