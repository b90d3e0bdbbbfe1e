use mathlib.Core.Path.{◌≡◌}
use Prim.Native.Nat.{◌+◌}
use lib.ListN.{length}
use Rattle.words.specs.Words.{write}
use Rattle.draft.specs.Inner.Draft.{calls_in, ranges_in}
use Rattle.range_words.specs.Inner.Parts.{part_words}
use Rattle.range_words.proofs.Parts.{part_left}
use Rattle.range_words.proofs.part_into.Given as goal

abbrev pub invariant-loop-i : goal.invariant-loop-i
invariant-loop-i l =
    (l.to + length (part_left l.part (calls_in l.c l.calls) l.n l.i l.ranges) ≡ l.at + length (part_words l.part (calls_in l.c l.calls) (ranges_in l.n l.ranges)))
    × (write l.table l.to (part_left l.part (calls_in l.c l.calls) l.n l.i l.ranges) ≡ write l.initial.table l.at (part_words l.part (calls_in l.c l.calls) (ranges_in l.n l.ranges)))
