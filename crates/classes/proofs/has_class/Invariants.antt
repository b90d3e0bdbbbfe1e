use mathlib.Core.Path.{◌≡◌}
use mathlib.Core.Bool.{true}
use Prim.Native.Nat.{◌+◌, ◌-◌, ◌≤◌}
use lib.ListN.{length, drop}
use Rattle.lines.specs.Lines.{lines_from}
use Rattle.timetable.specs.Files.{held_in, class_of, has_class}
use Rattle.classes.specs.Inner.Passes.{sound}
use Rattle.classes.proofs.has_class.Given as goal

-- `classes::has_class` meets its contract: a code is listed from the loop's place on as it is from the first place on. Assumes nothing.
abbrev pub invariant-loop-at : goal.invariant-loop-at
invariant-loop-at l =
    (l.no ≤ l.at + 1) × (sound (lines_from l.no l.at (drop l.at l.f)) ≡ true)
    × (has_class l.code (held_in class_of (lines_from l.no l.at (drop l.at l.f))) ≡ has_class l.code (held_in class_of (lines_from 1 l.from (drop l.from l.f))))

abbrev pub decreases-loop-at : goal.decreases-loop-at
decreases-loop-at l = length l.f - l.at
