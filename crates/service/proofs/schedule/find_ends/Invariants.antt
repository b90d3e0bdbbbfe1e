use mathlib.Core.Path.{◌≡◌}
use Prim.Native.Nat.{◌+◌, ◌*◌, ◌-◌}
use lib.ListN.{length, drop}
use Rattle.words.specs.Words.{write}
use Rattle.draft.specs.Inner.Draft.{draft_range, range_back, calls_in, ranges_on, ranges_in}
use Rattle.timetable.specs.Offences.{verdict_by}
use Rattle.timetable.specs.Checks.{ends_first}
use Rattle.timetable.specs.Table.{rows_in}
use Rattle.timetable.specs.declared.RangeKind.TheVariants.{Category, Days}
use Rattle.range_words.specs.Inner.Parts.{part_words}
use Rattle.range_words.proofs.Parts.{part_left}
use Rattle.service.proofs.schedule.find_ends.Given as goal

abbrev pub invariant-loop-i : goal.invariant-loop-i
invariant-loop-i l =
    (verdict_by (ends_first (calls_in l.c l.calls) (rows_in range_back draft_range (l.n - l.i) (drop (draft_range * l.i) l.ranges))) ≡ verdict_by (ends_first (calls_in l.c l.calls) (ranges_on l.n l.ranges)))
    × (l.ends.categories + length (part_left Category (calls_in l.c l.calls) l.n l.i l.ranges) ≡ length (part_words Category (calls_in l.c l.calls) (ranges_in l.n l.ranges)))
    × (l.ends.operating + length (part_left Days (calls_in l.c l.calls) l.n l.i l.ranges) ≡ length (part_words Days (calls_in l.c l.calls) (ranges_in l.n l.ranges)))
    × (write l.categories l.ends.categories (part_left Category (calls_in l.c l.calls) l.n l.i l.ranges) ≡ write l.initial.categories 0 (part_words Category (calls_in l.c l.calls) (ranges_in l.n l.ranges)))
    × (write l.operating l.ends.operating (part_left Days (calls_in l.c l.calls) l.n l.i l.ranges) ≡ write l.initial.operating 0 (part_words Days (calls_in l.c l.calls) (ranges_in l.n l.ranges)))
