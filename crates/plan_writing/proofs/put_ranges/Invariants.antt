use Rattle.plan_writing.specs.Inner.Record.{range_text, part_text}
use Rattle.service_lines.specs.Inner.Record.{range_size, part_count, here}
use Rattle.line_text.specs.Laid.{text_of}
use Rattle.words.specs.Words.{write}
use Rattle.timetable.specs.Table.{rows_in}
use lib.ListN.{length, drop}
use Prim.Native.Nat.{◌+◌, ◌-◌, ◌*◌, ◌≤◌}
use mathlib.Core.List.{map}
use mathlib.Core.Path.{◌≡◌}
use Rattle.plan_writing.proofs.put_ranges.Given as goal

abbrev pub invariant-loop : goal.invariant-loop
invariant-loop l = (l.p + range_size l.part * (l.end - l.counter) ≤ length l.s) × (l.q + 60 * (l.end - l.counter) ≡ l.at + 60 * part_count l.part l.s) × (length l.text ≡ length l.initial.text) × (write l.text l.q (text_of (map (range_text l.part) (rows_in here (range_size l.part) (l.end - l.counter) (drop l.p l.s)))) ≡ write l.initial.text l.at (part_text l.part l.s))
