use Prim.Native.Nat.{◌-◌}
use Rattle.classes.proofs.Slots.{Missed}
use Rattle.classes.proofs.has_slot.Given as goal

-- `classes::has_slot` meets its contract: the code's slots before the loop's are taken by other codes. Assumes nothing.
abbrev pub invariant-loop-i : goal.invariant-loop-i
invariant-loop-i l = Missed l.code l.zugart l.index l.i

abbrev pub decreases-loop-i : goal.decreases-loop-i
decreases-loop-i l = l.end - l.i
