use mathlib.Core.Path.{◌≡◌}
use Prim.Native.Nat.{◌+◌, ◌-◌}
use lib.ListN.{length, drop}
use Rattle.names.specs.Names.{span}
use Rattle.names.specs.Inner.Answers.{is_of}
use Rattle.names.proofs.span_end.Given as goal

abbrev pub invariant-loop-i : goal.invariant-loop-i
invariant-loop-i l = l.i + span (is_of l.class) (drop l.i l.field) ≡ l.at + span (is_of l.class) (drop l.at l.field)

abbrev pub decreases-loop-i : goal.decreases-loop-i
decreases-loop-i l = length l.field - l.i
