use mathlib.Core.Path.{◌≡◌}
use Prim.Native.Nat.{◌-◌}
use lib.ListN.{length}
use Rattle.reading.specs.Inner.Reading.{service_lines_at, Sound}
use Rattle.reading.proofs.Passing.{Passed}
use Rattle.reading.proofs.read_again.Given as goal

abbrev pub invariant-loop-end : goal.invariant-loop-end
invariant-loop-end l =
    (length l.calls ≡ length l.initial.calls) × (length l.ranges ≡ length l.initial.ranges) × Sound (service_lines_at l.fplan l.at l.no) × Passed l.fplan l.at l.no l.opening l.end l.line l.counts l.calls l.ranges

abbrev pub decreases-loop-end : goal.decreases-loop-end
decreases-loop-end l = length l.fplan - l.end
