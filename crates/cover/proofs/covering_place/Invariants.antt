use mathlib.Core.Path.{◌≡◌}
use Prim.Native.Nat.{◌+◌, ◌*◌, ◌≤◌}
use lib.ListN.{length, drop}
use Rattle.cover.specs.Inner.Cover.{cover_place_from}
use Rattle.cover.proofs.covering_place.Given as goal

abbrev pub invariant-loop-left : goal.invariant-loop-left
invariant-loop-left l = (l.at + l.left * l.width ≤ length l.w) × (cover_place_from l.leg l.width l.at l.left (drop l.at l.w) ≡ cover_place_from l.leg l.width 0 l.n l.w)

abbrev pub decreases-loop-left : goal.decreases-loop-left
decreases-loop-left l = l.left
