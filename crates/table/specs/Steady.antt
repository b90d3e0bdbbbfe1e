-- A table whose calls are as nearly all are: of each route the first call's departure, both times of each call between and the last call's arrival are stated, and none of
-- these is below the one before it. Then its calls are sound (`steady-sound`), and none of them is refused by 36. In a table the bounds that are said here add nothing.
-- Assumes nothing.
use Rattle.std.specs.Prelude.{ℕ, zero, suc, ◌-◌, ◌+◌, ◌/◌, ◌%◌, List, Bool, true, ◌&&◌, cond, drop, eqb, ltb, leb, Option, Some, None}
use Rattle.timetable.specs.Layout.{service_head, call_size, latest_time, all_flags}
use Rattle.timetable.specs.Table.{call_at, calls#, word_count_in, stops#, services#, services_place, used}
use Rattle.timetable.specs.declared.Call.{Call}

-- ---- a call

-- the first: its arrival is not bound by the order
abbrev pub opens_steady : ℕ → Call → Bool
opens_steady stops c = ltb c.stop stops && (leb c.arrival latest_time && (leb c.flags all_flags && eqb (c.flags / 2 % 2) 1))

-- one between, after a time
abbrev pub passes_steady : ℕ → ℕ → Call → Bool
passes_steady stops before c =
    ltb c.stop stops && (leb before c.arrival && (leb c.arrival c.departure && (leb c.flags all_flags && eqb (c.flags % 4) 3)))

-- two of them, and four, as words hold them
unfoldable pub two_steady : ℕ → ℕ → List ℕ → Bool
two_steady stops before w = passes_steady stops before (call_at w) && passes_steady stops (call_at w).departure (call_at (drop call_size w))

unfoldable pub four_steady : ℕ → ℕ → List ℕ → Bool
four_steady stops before w = two_steady stops before w && two_steady stops (call_at (drop call_size w)).departure (drop 14 w)

-- the last: its departure is not bound by the order
abbrev pub ends_steady : ℕ → ℕ → Call → Bool
ends_steady stops before c =
    ltb c.stop stops
    && (leb before c.arrival && (leb c.arrival latest_time && (leb c.departure latest_time && (leb c.flags all_flags && eqb (c.flags % 2) 1))))

-- m between and the last, as words hold them
unfoldable pub later_steady : ℕ → ℕ → ℕ → List ℕ → Bool
later_steady stops zero before w = ends_steady stops before (call_at w)
later_steady stops (suc m) before w = passes_steady stops before (call_at w) && later_steady stops m (call_at w).departure (drop call_size w)

-- ---- a record, and a table

unfoldable pub calls_steady : ℕ → List ℕ → Bool
calls_steady stops s =
    opens_steady stops (call_at (drop service_head s))
    && later_steady stops (calls# s - 2) (call_at (drop service_head s)).departure (drop (service_head + call_size) s)

-- v records, one after the other
unfoldable pub records_steady : ℕ → ℕ → List ℕ → Bool
records_steady stops zero w = true
records_steady stops (suc v) w = calls_steady stops w && records_steady stops v (drop (word_count_in w) w)

abbrev pub steady : List ℕ → Bool
steady w = records_steady (stops# w) (services# w) (drop (services_place w) (used w))

-- ---- what a look tells: of a table whether its calls are steady, and nothing of other words

abbrev pub look_by : Bool → Bool → Option Bool
look_by t s = cond t (Some s) None
