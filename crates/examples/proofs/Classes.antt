-- The examples of ZUGART, proved together; and of lengths "ZUGART is file 6, its lengths .. checked after UMSTEIGB's": whatever FPLAN's is, 1 is told of file 6.
-- Assumes nothing.
use mathlib.Core.Path.{◌≡◌, refl}
use Prim.Native.Nat.{ℕ, ◌≤◌, ◌<◌}
use lib.ListN.{length}
use borrow.Author.Tests.{le-ltb, lt-ltb}
use Rattle.timetable.specs.Delivery.{Files}
use Rattle.timetable.specs.Layout.{most_file_bytes}
use Rattle.timetable.specs.Load.{length_offence, loaded}
use Rattle.timetable.specs.Offences.{◌<|>◌}
use Rattle.timetable.specs.declared.Loaded.TheVariants.{Refused}
use Rattle.examples.specs.Rows.{Hold}
use Rattle.examples.specs.Classes.{category_lines, rows}
use Rattle.examples.proofs.Computing.{computing}

pub classes : Hold rows
unfolding computing category_lines
classes = (refl, (refl, (refl, (refl, (refl, (refl, (refl, (refl, (refl, (refl, (refl, (refl, (refl, (refl, (refl, (refl, (refl, (refl, (refl, (refl, (refl, (refl, (refl, (refl, (refl, (refl, (refl, tt)))))))))))))))))))))))))))

pub length-of-6 : (f : Files) (room helper : ℕ) → length f.eckdaten ≤ most_file_bytes → length f.bitfeld ≤ most_file_bytes → length f.bahnhof ≤ most_file_bytes → length f.umsteigb ≤ most_file_bytes
    → most_file_bytes < length f.zugart → loaded f room helper ≡ Refused 1 6 0 0 0
unfolding length_offence loaded ◌<|>◌
length-of-6 f room helper e b s u z =
    rw (
      le-ltb most_file_bytes (length f.eckdaten) e,
      le-ltb most_file_bytes (length f.bitfeld) b,
      le-ltb most_file_bytes (length f.bahnhof) s,
      le-ltb most_file_bytes (length f.umsteigb) u,
      lt-ltb most_file_bytes (length f.zugart) z,
    )
