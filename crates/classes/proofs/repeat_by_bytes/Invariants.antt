use Prim.Native.Nat.{◌-◌}
use Rattle.classes.proofs.Once.{Passed}
use Rattle.classes.proofs.repeat_by_bytes.Given as goal

-- `classes::repeat_by_bytes` meets its contract: what the passes so far have found. Assumes nothing.
abbrev pub invariant-loop-pass : goal.invariant-loop-pass
invariant-loop-pass l = Passed l.f l.pass

abbrev pub decreases-loop-pass : goal.decreases-loop-pass
decreases-loop-pass l = 256 - l.pass.next
