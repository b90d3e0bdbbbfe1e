use mathlib.Core.Path.{◌≡◌}
use Prim.Native.Nat.{◌+◌}
use lib.ListN.{length}
use Rattle.base.specs.Lists.{gathered}
use Rattle.words.specs.Words.{write}
use Rattle.timetable.specs.Files.{stops_in}
use Rattle.draft.specs.Inner.Draft.{calls_in}
use Rattle.service_words.specs.Inner.Record.{pointed_words}
use Rattle.service_words.proofs.Calls.{calls_left}
use Rattle.service_words.proofs.calls_into.Given as goal

abbrev pub invariant-loop-i : goal.invariant-loop-i
invariant-loop-i l =
    (l.to + length (calls_left (stops_in l.bahnhof) l.c l.i l.calls) ≡ l.at + length (gathered (pointed_words (stops_in l.bahnhof)) (calls_in l.c l.calls)))
    × (write l.table l.to (calls_left (stops_in l.bahnhof) l.c l.i l.calls) ≡ write l.initial.table l.at (gathered (pointed_words (stops_in l.bahnhof)) (calls_in l.c l.calls)))
