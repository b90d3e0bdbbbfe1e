use mathlib.Core.Path.{◌≡◌}
use Prim.Native.Nat.{◌+◌, ◌*◌, ◌≤◌}
use lib.ListN.{length, drop}
use Rattle.base.specs.Lists.{count_if}
use Rattle.timetable.specs.Legs.{covers}
use Rattle.cover.specs.Inner.Cover.{legs_in}
use Rattle.cover.proofs.covering.Given as goal

abbrev pub invariant-loop-left : goal.invariant-loop-left
invariant-loop-left l = (l.at + l.left * l.width ≤ length l.w) × (l.count + l.left ≤ l.n) × (l.count + count_if (covers l.leg) (legs_in l.width l.left (drop l.at l.w)) ≡ count_if (covers l.leg) (legs_in l.width l.n l.w))

abbrev pub decreases-loop-left : goal.decreases-loop-left
decreases-loop-left l = l.left
