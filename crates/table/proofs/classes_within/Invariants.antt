use mathlib.Core.Path.{◌≡◌}
use Prim.Native.Nat.{◌+◌, ◌-◌, ◌*◌, ◌≤◌}
use lib.ListN.{length, drop}
use Rattle.base.specs.Lists.{every}
use Rattle.timetable.specs.Layout.{class_size}
use Rattle.timetable.specs.Table.{rows_in, class_at, class_sound}
use Rattle.table.proofs.classes_within.Given as goal

abbrev pub invariant-loop : goal.invariant-loop
invariant-loop l = (l.p + class_size * (l.n - l.counter) ≤ length l.w) × (every class_sound (rows_in class_at class_size (l.n - l.counter) (drop l.p l.w)) ≡ every class_sound (rows_in class_at class_size l.n (drop l.at l.w)))
