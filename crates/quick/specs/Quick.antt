-- The quick questions: each is the question of a view (crate timetable), asked `quickly` (crate index: 21, 43, then of what words and index show). Assumes nothing.
use Rattle.std.specs.Prelude.{ℕ, List, Bool, Result, Err}
use Rattle.timetable.specs.View.{View}
use Rattle.timetable.specs.Questions.{day_in, interchange_in, between_in, Journey, refused, journey}
use Rattle.timetable.specs.StopNames.{stop_name_in}
use Rattle.timetable.specs.declared.NamePart.{NamePart}
use Rattle.timetable.specs.declared.refusal.Refusal.{Refusal}
use Rattle.index.specs.Quick.{quickly}

unfoldable pub day_quick : List ℕ → List ℕ → ℕ → ℕ → ℕ → ℕ → Result Bool Refusal
day_quick w x day month year b = quickly Err (λ (v : View). day_in v day month year b) w x

unfoldable pub interchange_quick : List ℕ → List ℕ → ℕ → ℕ → ℕ → Result ℕ Refusal
interchange_quick w x n a b = quickly Err (λ (v : View). interchange_in v n a b) w x

unfoldable pub between_quick : List ℕ → List ℕ → ℕ → ℕ → ℕ → Result ℕ Refusal
between_quick w x n a b = quickly Err (λ (v : View). between_in v n a b) w x

unfoldable pub stop_name_quick : List ℕ → List ℕ → List ℕ → ℕ → ℕ → ℕ → Result NamePart Refusal
stop_name_quick w x bahnhof stop language type = quickly Err (λ (v : View). stop_name_in v bahnhof stop language type) w x

-- before the room is looked at
unfoldable pub walk_quick : List ℕ → List ℕ → ℕ → ℕ → ℕ → ℕ → ℕ → Journey
walk_quick w x i r day month year = quickly refused (λ (v : View). journey v i r day month year) w x
