use mathlib.Core.Path.{◌≡◌}
use Prim.Native.Nat.{◌+◌, ◌-◌, ◌*◌, ◌≤◌}
use lib.ListN.{length}
use Rattle.timetable.specs.Layout.{row_size}
use Rattle.words.specs.Words.{write}
use Rattle.timetable.specs.Questions.{rows_of}
use Rattle.index.specs.Index.{view_in}
use Rattle.course.specs.Inner.Rows.{calls_shown, service_shown}
use Rattle.course.proofs.rows.rows_into.Given as goal

abbrev pub invariant-loop-k : goal.invariant-loop-k
invariant-loop-k l =
    (l.k ≤ l.legs + 1) × (l.at ≡ row_size * l.k) × (length l.rows ≡ length l.initial.rows)
    × (write l.rows l.at (rows_of (view_in l.w l.x) (service_shown (view_in l.w l.x) l.s) l.start l.legs l.delay l.k (calls_shown (view_in l.w l.x) l.s (l.start + l.k) (l.legs + 1 - l.k))) ≡ write l.initial.rows 0 (rows_of (view_in l.w l.x) (service_shown (view_in l.w l.x) l.s) l.start l.legs l.delay 0 (calls_shown (view_in l.w l.x) l.s l.start (l.legs + 1))))

abbrev pub decreases-loop-k : goal.decreases-loop-k
decreases-loop-k l = l.legs + 1 - l.k
