use mathlib.Core.Path.{◌≡◌}
use Prim.Native.Nat.{◌+◌, ◌*◌, ◌≤◌}
use lib.ListN.{length, drop}
use Rattle.cover.specs.Inner.Cover.{legs_in, in_turn}
use Rattle.cover.proofs.in_turn.Given as goal

abbrev pub invariant-loop-left : goal.invariant-loop-left
invariant-loop-left l = (l.at + l.left * l.width ≤ length l.w) × (in_turn l.leg l.legs (legs_in l.width l.left (drop l.at l.w)) ≡ in_turn 0 l.legs (legs_in l.width l.n l.w))

abbrev pub decreases-loop-left : goal.decreases-loop-left
decreases-loop-left l = l.left
