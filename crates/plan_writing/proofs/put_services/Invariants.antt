use Rattle.plan_writing.specs.Writing.{table_text}
use Rattle.service_lines.proofs.Services.{shown_from}
use Rattle.plan_services.specs.Services.{plan_text}
use Rattle.words.specs.Words.{write}
use Rattle.timetable.specs.Table.{stops#, records_sound}
use lib.ListN.{length, drop}
use Prim.Native.Nat.{◌+◌, ◌-◌, ◌≤◌}
use mathlib.Core.Bool.{true}
use mathlib.Core.Path.{◌≡◌}
use Rattle.plan_writing.proofs.put_services.Given as goal

abbrev pub invariant-loop : goal.invariant-loop
invariant-loop l = (l.at ≤ length l.w) × (records_sound (stops# l.w) (l.end - l.counter) (drop l.at l.w) ≡ true) × (length l.text ≡ length l.initial.text) × (l.q + length (plan_text (shown_from l.w (l.end - l.counter) l.at)) ≡ length (table_text l.w)) × (write l.text l.q (plan_text (shown_from l.w (l.end - l.counter) l.at)) ≡ write l.initial.text 0 (table_text l.w))
