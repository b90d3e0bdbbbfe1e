-- The needs of `is_named`, for `search fields`: p is the part of the line in columns 13 to 62, k the length of the name. Assumes nothing.
use mathlib.Core.Path.{◌≡◌, ap, ◌∙◌}
use mathlib.Core.List.{List}
use mathlib.Core.Bool.{Bool}
use Prim.Native.Nat.{ℕ, ◌-◌}
use lib.ListN.{take, drop}
use Rattle.base.proofs.Laws.{tests}
use Rattle.columns.specs.Columns.{columns}
use Rattle.names.specs.Names.{is_name_list}
use Rattle.names.specs.NameField.{name_length, name_field}
use Rattle.names.proofs.NameField.{name-inside, name-bytes}

pub named-is : (text p : List ℕ) (k : ℕ) → p ≡ take (62 - (13 - 1)) (drop (13 - 1) text) → k ≡ name_length (columns 13 62 text)
    → (r : Bool) → r ≡ is_name_list (take (k - 0) (drop 0 p)) → r ≡ is_name_list (name_field text)
named-is text p k e d r v = v ∙ ap is_name_list (name-bytes text p k e d)

pub ruleset fields = (tests, name-inside, named-is)
