-- The runs of a service, by what its opening line says: which there are, how late each is, and what a table asks of the line's numbers. A service's kind
-- is looked at here; beside it by `RunsBy` and `Opened` (whole_runs/specs), which say the paper's words for each kind, by the arithmetic on runs (spans) and where its opening line is
-- written (plan_services). Everything else goes by these three names. Assumes nothing.
use Rattle.std.specs.Prelude.{ℕ, ◌+◌, ◌*◌, ◌/◌, Bool, cond, ◌&&◌, leb, eqb}
use Rattle.timetable.specs.Layout.{kind_z, kind_t, most_repeats, most_running}
use Rattle.timetable.specs.declared.Opening.{Opening}

-- document 02, No. 8: "for kind 1 the repeats word holds the running time and the offset word the density"
abbrev pub running_time : Opening → ℕ
running_time o = o.repeats

abbrev pub density : Opening → ℕ
density o = o.offset

-- No. 8: "The runs are j = 0, 1, 2.. while j times density is at most sixty times the running time"; of a *Z those not refused by
-- "25 repeat number over repeats (0 is the run itself)"
unfoldable pub has_run : Opening → ℕ → Bool
has_run o j = cond (eqb o.kind kind_t) (leb (j * density o) (60 * running_time o)) (leb j o.repeats)

-- seconds "over sixty, rounded up"
abbrev pub minutes_up : ℕ → ℕ
minutes_up seconds = (seconds + 59) / 60

-- No. 8: "run j is late by j times density over sixty, rounded up"; of a *Z "repeat times offset"
unfoldable pub lateness : Opening → ℕ → ℕ
lateness o j = cond (eqb o.kind kind_t) (minutes_up (j * density o)) (j * o.offset)

-- 21, said as what a table keeps. No. 8: "its kind (0 for *Z, 1 for *T, 21 refuses others)"; of a *T "21 allows 9,999 there but no density 0"; of a *Z
-- "repeats or offset over 999" is refused
unfoldable pub opening_sound : Opening → Bool
opening_sound o =
    cond (eqb o.kind kind_t)
    (leb (running_time o) most_running && (leb 1 (density o) && leb (density o) most_running))
    (eqb o.kind kind_z && (leb o.repeats most_repeats && leb o.offset most_repeats))
