-- The connection asked `quickly` (crate index: 21, 43 by the length, both naming part 0, then of what words and index show; 43 of a service's record names its part). Assumes nothing.
use Rattle.std.specs.Prelude.{ℕ, List}
use Rattle.timetable.specs.View.{View}
use Rattle.index.specs.Quick.{quickly}
use Rattle.connections.specs.Connection.{ConnectionAnswer, connection_in, no_connection}

unfoldable pub connection_quick : List ℕ → List ℕ → List ℕ → ConnectionAnswer
connection_quick w x ws = quickly no_connection (λ (v : View). connection_in v ws) w x
