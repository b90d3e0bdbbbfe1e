use Rattle.calls.specs.Calls.{all_calls}
use Rattle.calls.specs.Inner.Passed.{Here}
use Prim.Native.Nat.{◌-◌, ◌≤◌}
use Rattle.calls.proofs.count_calls.Given as goal

abbrev pub invariant-loop-i : goal.invariant-loop-i
invariant-loop-i l = (l.k ≤ all_calls l.w) × Here l.w l.i l.at l.k
