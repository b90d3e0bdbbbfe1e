-- The i-th of some rows. Assumes nothing.
use mathlib.Core.Path.{◌≡◌, ◌∙◌}
use mathlib.Core.List.{List}
use mathlib.Core.Option.{some}
use Prim.Native.Nat.{ℕ, zero, suc, ◌+◌, ◌*◌, ◌<◌}
use native.Mathlib.Nat.{mul-zero, mul-suc}
use native.Mathlib.Omega.{arith}
use lib.ListN.{get_or, get_elem?, drop}
use lib.Seq.{drop-drop, get_or-drop}
use Rattle.base.proofs.Laws.{tests}
use Rattle.timetable.specs.Table.{rows_in, stop_at, interchange_at}
use Rattle.lookups.specs.Lookups.{name_place, times_of}

-- the i-th of n rows
pub row-there : {X : Type 0} (f : List ℕ → X) (s n i : ℕ) (w : List ℕ) → i < n → get_elem? (rows_in f s n w) i ≡ some (f (drop (s * i) w))
unfolding rows_in
row-there f s zero i w h = absurd (omega arith)
row-there f s (suc n) zero w h = rw mul-zero
row-there f s (suc n) (suc i) w h =
    let e : s + s * i ≡ s * suc i = omega (arith, mul-suc s i) in
    row-there f s n i (drop s w) (omega arith) ∙ rw (drop-drop (s * i) s w, e)
