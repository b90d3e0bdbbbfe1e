-- The lines of a service's record as text, for the contracts of inner functions: nobody has to believe this file. Assumes nothing.
use Rattle.std.specs.Prelude.{ℕ, List, map}
use Rattle.timetable.specs.Delivery.{StopRecord}
use Rattle.timetable.specs.Table.{category_at, day_at, extra_at}
use Rattle.timetable.specs.declared.RangeKind.{RangeKind}
use Rattle.timetable.specs.declared.RangeKind.TheVariants.{Category, Days, Extra}
use Rattle.line_text.specs.Laid.{text_of}
use Rattle.plan_text.specs.PlanText.{category_text, day_text, extra_text, call_text}
use Rattle.plan_services.specs.Services.{service_lines}
use Rattle.service_lines.specs.Inner.Record.{part_rows, call_rows, shown}

-- the line of the range at the front of some words
abbrev pub range_text : RangeKind → List ℕ → List ℕ
range_text Category u = category_text (category_at u)
range_text Days u = day_text (day_at u)
range_text Extra u = extra_text (extra_at u)

-- the lines of the ranges of a part
unfoldable pub part_text : RangeKind → List ℕ → List ℕ
part_text p s = text_of (map (range_text p) (part_rows p s))

unfoldable pub calls_text : List StopRecord → List ℕ → List ℕ
calls_text stops s = text_of (map call_text (call_rows stops s))

-- the lines of the record
unfoldable pub record_text : List ℕ → List ℕ → List ℕ
record_text w s = text_of (service_lines (shown w s))
