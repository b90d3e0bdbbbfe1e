-- 001, 5.3.3's example, computed: "*T .. 0240 0450"; what a table refuses of an opening line; and that `minutes_up` rounds up. Assumes nothing.
use Prim.Native.Nat.{ℕ, ◌+◌, ◌*◌, ◌/◌, ◌≤◌}
use mathlib.Core.Path.{◌≡◌, refl}
use mathlib.Core.List.{List, [], ◌∷◌, map}
use mathlib.Core.Bool.{Bool, true, false}
use native.Mathlib.Omega.{arith}
use Rattle.base.specs.Lists.{every, upto, below}
use Rattle.timetable.specs.Runs.{minutes_up, has_run, lateness, opening_sound}
use Rattle.timetable.specs.declared.Opening.{Opening}

-- service 01554 80____ with these numbers, of a kind
abbrev service : ℕ → ℕ → ℕ → Opening
service kind repeats offset = record { number = 1554; high = 3682399; low = 6250335; repeats = repeats; offset = offset; kind = kind }

-- "connections till 12:00 o'clock (4 hours, according to 240 minutes)"; "Clock density = 7.5 minutes, according to 450 seconds": runs 0 to 32, and no others
pub runs-33 : (every (has_run (service 1 240 450)) (below 33) ≡ true) × (map (has_run (service 1 240 450)) (33 ∷ 34 ∷ 4294967295 ∷ []) ≡ false ∷ false ∷ false ∷ [])
unfolding every upto has_run
runs-33 = (refl, refl)

-- run 1 is 8 minutes late, run 3 is 23 (not 24, as three times 8), run 32 is 240
pub late : map (lateness (service 1 240 450)) (0 ∷ 1 ∷ 2 ∷ 3 ∷ 4 ∷ 32 ∷ []) ≡ 0 ∷ 8 ∷ 15 ∷ 23 ∷ 30 ∷ 240 ∷ []
unfolding lateness
late = refl

-- of a *Z: "Repeats 023, offset 010: 24 runs, the last 230 minutes late."
pub repeated : (map (has_run (service 0 23 10)) (0 ∷ 23 ∷ 24 ∷ []) ≡ true ∷ true ∷ false ∷ []) × (lateness (service 0 23 10) 23 ≡ 230)
unfolding has_run lateness
repeated = (refl, refl)

-- a running time of 0 is the first run alone; of 9,999 minutes, second by second, 599,941 runs, the last 9,999 minutes late
pub extremes : (map (has_run (service 1 0 1)) (0 ∷ 1 ∷ []) ≡ true ∷ false ∷ []) × (map (has_run (service 1 9999 1)) (599940 ∷ 599941 ∷ []) ≡ true ∷ false ∷ []) × (lateness (service 1 9999 1) 599940 ≡ 9999)
unfolding has_run lateness
extremes = (refl, refl, refl)

-- "its kind (0 for *Z, 1 for *T, 21 refuses others)"; "21 allows 9,999 there but no density 0"
pub bounds : map opening_sound (service 0 999 999 ∷ service 0 999 0 ∷ service 1 9999 9999 ∷ service 1 0 1 ∷ []) ≡ true ∷ true ∷ true ∷ true ∷ []
unfolding opening_sound
bounds = refl

pub beyond :
    map opening_sound (service 0 1000 1 ∷ service 0 1 1000 ∷ service 1 10000 1 ∷ service 1 1 10000 ∷ service 1 240 0 ∷ service 2 0 1 ∷ service 2 1 1 ∷ [])
    ≡ false ∷ false ∷ false ∷ false ∷ false ∷ false ∷ false ∷ []
unfolding opening_sound
beyond = refl

-- "over sixty, rounded up": the least number of minutes that so many seconds do not pass
pub enough : (seconds : ℕ) → seconds ≤ 60 * minutes_up seconds
enough seconds = omega arith

pub least : (seconds minutes : ℕ) → seconds ≤ 60 * minutes → minutes_up seconds ≤ minutes
least seconds minutes h = omega arith
