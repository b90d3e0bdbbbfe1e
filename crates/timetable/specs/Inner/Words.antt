-- Ranges as the code reads them from a table's words, and back: what Table reads, with a range's ends beside its other words. Assumes nothing.
use Rattle.timetable.specs.Delivery.{Legs, CategoryRange, DayRange, ExtraRange}
use Rattle.timetable.specs.declared.LegWords.{LegWords}
use Rattle.timetable.specs.declared.CategoryWords.{CategoryWords}
use Rattle.timetable.specs.declared.DayWords.{DayWords}
use Rattle.timetable.specs.declared.ExtraWords.{ExtraWords}

abbrev pub legs_read : Legs → LegWords
legs_read g = record { from = g.from; to = g.to }

abbrev pub category_read : CategoryRange → CategoryWords
category_read r = record { name = r.name; from = r.legs.from; to = r.legs.to }

abbrev pub day_read : DayRange → DayWords
day_read r = record { field = r.field; from = r.legs.from; to = r.legs.to }

abbrev pub extra_read : ExtraRange → ExtraWords
extra_read r = record { code = r.code; field = r.field; from = r.legs.from; to = r.legs.to }

-- the range that was read
abbrev pub legs_held : LegWords → Legs
legs_held w = record { from = w.from; to = w.to }

abbrev pub day_held : DayWords → DayRange
day_held w = record { field = w.field; legs = record { from = w.from; to = w.to } }
