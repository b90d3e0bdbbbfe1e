use Prim.Native.Nat.{◌-◌}
use Rattle.classes.proofs.Slots.{Trying}
use Rattle.classes.proofs.free_slot.Given as goal

-- `classes::free_slot` meets its contract: the code's slots before the loop's are taken. Assumes nothing.
abbrev pub invariant-loop-i : goal.invariant-loop-i
invariant-loop-i l = Trying l.code l.index l.i

abbrev pub decreases-loop-i : goal.decreases-loop-i
decreases-loop-i l = l.end - l.i
