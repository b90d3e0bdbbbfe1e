-- The answers of the arithmetic on operating days as numbers: 0 says that nothing was refused. Assumes nothing.
use Rattle.std.specs.Prelude.{ℕ, Result, Ok, Err}
use Rattle.timetable.specs.Refusals.{number_of}
use Rattle.timetable.specs.declared.refusal.Refusal.{Refusal}
use Rattle.estelunya.specs.declared.DaySetResult.{DaySetResult}
use Rattle.estelunya.specs.declared.DayCountResult.{DayCountResult}

abbrev pub day_set_result : Result (Unit {0}) Refusal → DaySetResult
day_set_result (Ok done) = record { number = 0 }
day_set_result (Err refusal) = record { number = number_of refusal }

abbrev pub day_count_result : Result ℕ Refusal → DayCountResult
day_count_result (Ok days) = record { number = 0; days = days }
day_count_result (Err refusal) = record { number = number_of refusal; days = 0 }
