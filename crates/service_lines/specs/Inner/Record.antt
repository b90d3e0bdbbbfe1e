-- The record of a service by its lines, for the contracts of inner functions: nobody has to believe this file. Assumes nothing.
use Rattle.std.specs.Prelude.{ℕ, ◌≡◌, List, Bool, true, drop}
use Rattle.timetable.specs.Delivery.{StopRecord, Service}
use Rattle.timetable.specs.Layout.{service_head, call_size, category_size, day_size, extra_size}
use Rattle.timetable.specs.Table.{rows_in, call_at, category_at, day_at, extra_at, calls#, categories#, days#, extras#, category_place, day_place, extra_place, stops#, stop_number_at, with_stop, resolved, service_at, table_of, record_sound}
use Rattle.timetable.specs.declared.Call.{Call}
use Rattle.timetable.specs.declared.RangeKind.{RangeKind}
use Rattle.timetable.specs.declared.RangeKind.TheVariants.{Category, Days, Extra}
use Rattle.table.specs.JustTable.{JustTable}
use Rattle.writable.specs.Writable.{category_writable, days_writable, extra_writable}

-- ---- ranges, by their part

abbrev pub range_size : RangeKind → ℕ
range_size Category = category_size
range_size Days = day_size
range_size Extra = extra_size

abbrev pub part_count : RangeKind → List ℕ → ℕ
part_count Category s = categories# s
part_count Days s = days# s
part_count Extra s = extras# s

abbrev pub part_place : RangeKind → List ℕ → ℕ
part_place Category s = category_place s
part_place Days s = day_place s
part_place Extra s = extra_place s

-- the words from each row on
abbrev pub here : List ℕ → List ℕ
here u = u

-- the words from each range of a part on
unfoldable pub part_rows : RangeKind → List ℕ → List (List ℕ)
part_rows p s = rows_in here (range_size p) (part_count p s) (drop (part_place p s) s)

abbrev pub range_writable : RangeKind → List ℕ → Bool
range_writable Category u = category_writable (category_at u)
range_writable Days u = days_writable (day_at u)
range_writable Extra u = extra_writable (extra_at u)

-- ---- calls, by their stop's number

abbrev pub shown_call : List StopRecord → List ℕ → Call
shown_call stops u = with_stop (stop_number_at stops) (call_at u)

unfoldable pub call_rows : List StopRecord → List ℕ → List Call
call_rows stops s = rows_in (shown_call stops) call_size (calls# s) (drop service_head s)

-- ---- the service that the record of just a table shows

abbrev pub shown : List ℕ → List ℕ → Service
shown w s = resolved (table_of w).stops (service_at s)

-- just a table, and the words from the record of one of its services on
pub record Standing (w s : List ℕ) : Type 0 where
  pub just : JustTable w
  pub sound : record_sound (stops# w) s ≡ true
