use mathlib.Core.Path.{◌≡◌}
use Prim.Native.Nat.{◌<◌, ◌^◌}
use lib.ListN.{drop}
use Rattle.columns.specs.Columns.{pad_to}
use Rattle.bitfield.specs.BitField.{hex_from}
use Rattle.bitfield.proofs.hex_word.Given as goal

abbrev pub invariant-loop-i : goal.invariant-loop-i
invariant-loop-i l = (hex_from l.n (drop l.i (pad_to 8 l.p)) ≡ hex_from 0 (pad_to 8 l.p)) × (l.n < 16 ^ l.i)
