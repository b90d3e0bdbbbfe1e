use mathlib.Core.Path.{◌≡◌}
use Prim.Native.Nat.{◌+◌, ◌*◌}
use lib.ListN.{drop}
use Rattle.index.specs.Index.{view_in}
use Rattle.connections.specs.Connection.{part_size, parts_of, parts_after}
use Rattle.connections.proofs.parts_after.Given as goal

abbrev pub invariant-loop-passed : goal.invariant-loop-passed
invariant-loop-passed l =
    parts_after (view_in l.w l.x) l.before (l.passed + 1) (parts_of (drop (part_size * l.passed) l.parts))
    ≡ parts_after (view_in l.w l.x) l.initial.before 2 (parts_of (drop part_size l.parts))
