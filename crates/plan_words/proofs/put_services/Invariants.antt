use mathlib.Core.Path.{◌≡◌}
use mathlib.Core.Bool.{true}
use Prim.Native.Nat.{◌+◌, ◌-◌, ◌^◌, ◌≤◌, ◌<◌}
use lib.ListN.{length}
use Rattle.lines.specs.Lines.{lines_at}
use Rattle.words.specs.Words.{write}
use Rattle.timetable.specs.Files.{stops_in}
use Rattle.timetable.specs.Service.{blocks}
use Rattle.draft.specs.Inner.Draft.{calls_lent, ranges_lent}
use Rattle.reading.specs.Inner.Reading.{Boundary}
use Rattle.reading.specs.Inner.Services.{block_words}
use Rattle.plan_words.specs.Inner.Services.{placed_words, all_sound}
use Rattle.plan_words.proofs.put_services.Given as goal

abbrev pub invariant-loop-place : goal.invariant-loop-place
invariant-loop-place l =
    (length l.calls ≡ length l.initial.calls) × (length l.ranges ≡ length l.initial.ranges) × (length l.table ≡ length l.initial.table)
    × (calls_lent ≤ length l.calls) × (ranges_lent ≤ length l.ranges)
    × (l.at + length (block_words (blocks (lines_at l.fplan l.start l.first))) ≤ length l.table)
    × (l.at + length (block_words (blocks (lines_at l.fplan l.start l.first))) < 2 ^ 64)
    × Boundary l.fplan l.place l.no
    × (all_sound (blocks (lines_at l.fplan l.place l.no)) ≡ true)
    × (l.to + length (block_words (blocks (lines_at l.fplan l.place l.no))) ≡ l.at + length (block_words (blocks (lines_at l.fplan l.start l.first))))
    × (write l.table l.to (placed_words (stops_in l.bahnhof) (blocks (lines_at l.fplan l.place l.no))) ≡ write l.initial.table l.at (placed_words (stops_in l.bahnhof) (blocks (lines_at l.fplan l.start l.first))))

abbrev pub decreases-loop-place : goal.decreases-loop-place
decreases-loop-place l =
    length l.fplan - l.place
