-- The words of the parts, for `search parts`. Assumes nothing.
use mathlib.Core.Path.{◌≡◌}
use mathlib.Core.List.{List}
use Prim.Native.Nat.{ℕ, ◌+◌}
use native.Mathlib.Nat.{add-zero}
use lib.ListN.{get_or, drop}
use lib.Seq.{get_or-drop}
use Rattle.base.proofs.Laws.{tests}
use Rattle.connections.specs.Connection.{part_at}

pub part-is : (w : List ℕ) (p : ℕ)
    → record { service = get_or w p 0; repeat = get_or w (p + 1) 0; day = get_or w (p + 2) 0; month = get_or w (p + 3) 0; year = get_or w (p + 4) 0; board = get_or w (p + 5) 0; alight = get_or w (p + 6) 0 } ≡ part_at (drop p w)
part-is w p =
    rw (
      get_or-drop p w 0 0,
      add-zero p,
      get_or-drop p w 1 0,
      get_or-drop p w 2 0,
      get_or-drop p w 3 0,
      get_or-drop p w 4 0,
      get_or-drop p w 5 0,
      get_or-drop p w 6 0,
    )

pub ruleset parts = (tests, part-is)
