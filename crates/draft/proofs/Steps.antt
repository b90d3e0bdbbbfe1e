-- Rows of words from row i on, whose words start at place p, for loops over the rows. Assumes nothing.
use mathlib.Core.Path.{◌≡◌, refl}
use mathlib.Core.List.{List, ◌∷◌}
use Prim.Native.Nat.{ℕ, ◌+◌, ◌-◌, ◌*◌, ◌<◌}
use native.Mathlib.Nat.{mul-add, mul-one}
use lib.ListN.{drop}
use Rattle.timetable.specs.Table.{rows_in}
use Rattle.timetable.proofs.Rows.{rows-turn}

pub rows-step : {X : Type 0} (read : List ℕ → X) (size n i p : ℕ) (w : List ℕ) → p ≡ size * i → i < n
    → rows_in read size (n - i) (drop (size * i) w) ≡ read (drop p w) ∷ rows_in read size (n - (i + 1)) (drop (size * (i + 1)) w)
rows-step read size n i p w e h = rw (e, mul-add size i 1, mul-one size) (rows-turn read size n i (size * i) w h)
