use Rattle.plan_writing.specs.Inner.Record.{calls_text}
use Rattle.service_lines.specs.Inner.Record.{shown_call}
use Rattle.plan_text.specs.PlanText.{call_text}
use Rattle.line_text.specs.Laid.{text_of}
use Rattle.words.specs.Words.{write}
use Rattle.timetable.specs.Table.{rows_in, call_at, calls#, stops#, table_of, call_sound}
use Rattle.timetable.specs.Layout.{call_size}
use Rattle.base.specs.Lists.{every}
use lib.ListN.{length, drop}
use Prim.Native.Nat.{◌+◌, ◌-◌, ◌*◌, ◌≤◌}
use mathlib.Core.Bool.{true}
use mathlib.Core.List.{map}
use mathlib.Core.Path.{◌≡◌}
use Rattle.plan_writing.proofs.put_calls.Given as goal

abbrev pub invariant-loop : goal.invariant-loop
invariant-loop l = (l.p + call_size * (l.end - l.counter) ≤ length l.s) × (l.q + 60 * (l.end - l.counter) ≡ l.at + 60 * calls# l.s) × (length l.text ≡ length l.initial.text) × (every (call_sound (stops# l.w)) (rows_in call_at call_size (l.end - l.counter) (drop l.p l.s)) ≡ true) × (write l.text l.q (text_of (map call_text (rows_in (shown_call (table_of l.w).stops) call_size (l.end - l.counter) (drop l.p l.s)))) ≡ write l.initial.text l.at (calls_text (table_of l.w).stops l.s))
