-- The runs of a service that leave a call within a span of time: they follow each other, since a later run is not less late. What these numbers mean is said by
-- the laws `has-below`, `within-runs` and `span-runs` (proofs/Meaning). Assumes nothing.
use Rattle.std.specs.Prelude.{ℕ, ◌+◌, ◌-◌, ◌*◌, ◌/◌, cond, ltb, leb, eqb}
use Rattle.timetable.specs.Layout.{kind_t}
use Rattle.timetable.specs.Runs.{running_time, density}
use Rattle.timetable.specs.declared.Opening.{Opening}
use Rattle.spans.specs.declared.Span.{Span}

-- the smaller of two numbers
abbrev pub less : ℕ → ℕ → ℕ
less a b = cond (ltb a b) a b

-- how many runs a service has: of a *T "j = 0, 1, 2.. while j times density is at most sixty times the running time", of a *Z one more than its repeats
unfoldable pub runs# : Opening → ℕ
runs# o = cond (eqb o.kind kind_t) (60 * running_time o / density o + 1) (o.repeats + 1)

-- how many of them are late by at most so many minutes: runs 0, 1, 2.. below this number
unfoldable pub runs_within : Opening → ℕ → ℕ
runs_within o x =
    cond (eqb o.kind kind_t)
    (60 * less (running_time o) x / density o + 1)
    (cond (eqb o.offset 0) (o.repeats + 1) (less o.repeats (x / o.offset) + 1))

-- a *T of 9,999 minutes and a density of one second has as many
abbrev pub most_runs : ℕ
most_runs = 599941

-- the first run that leaves at minute t or later, where run 0 leaves at minute d
unfoldable pub first_run : Opening → ℕ → ℕ → ℕ
first_run o d t = cond (leb t d) 0 (runs_within o (t - d - 1))

-- the first run that leaves after minute u
unfoldable pub end_run : Opening → ℕ → ℕ → ℕ
end_run o d u = cond (ltb u d) 0 (runs_within o (u - d))

-- the runs from `low` on and below `high` leave within t and u, both counted; where `high` is not above `low` none does
unfoldable pub span_of : Opening → ℕ → ℕ → ℕ → Span
span_of o d t u = record { low = first_run o d t; high = end_run o d u }
