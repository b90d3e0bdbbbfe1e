use mathlib.Core.Path.{◌≡◌}
use Prim.Native.Nat.{◌≤◌}
use lib.ListN.{length, take}
use Rattle.columns.specs.Columns.{columns}
use Rattle.names.specs.NameField.{name_length}
use Rattle.names.proofs.name_field.name_length.Given as goal

-- `name_field::name_length` meets its contract: only blanks stand behind the loop's place. Assumes nothing.
abbrev pub invariant-loop-k : goal.invariant-loop-k
invariant-loop-k l = (l.k ≤ length l.name) × (l.k ≤ 50) × (name_length (take l.k (columns 13 62 l.text)) ≡ name_length (columns 13 62 l.text))

abbrev pub decreases-loop-k : goal.decreases-loop-k
decreases-loop-k l = l.k
