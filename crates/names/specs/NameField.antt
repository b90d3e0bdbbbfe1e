-- The name field of a line of BAHNHOF, document 01 and request No. 3: columns 13 to 62 without trailing blanks. Assumes nothing.
use Rattle.std.specs.Prelude.{ℕ, suc, List, [], ◌∷◌, cond, take}
use Rattle.columns.specs.Columns.{blank}
use Rattle.columns.specs.LineFields.{field_in, stop_names}

-- "name length without trailing blanks"
unfoldable pub name_length : List ℕ → ℕ
name_length [] = 0
name_length (b ∷ p) = cond (blank (b ∷ p)) 0 (suc (name_length p))

-- the name field: columns 13-62 without trailing blanks
abbrev pub name_field : List ℕ → List ℕ
name_field text = take (name_length (field_in stop_names text)) (field_in stop_names text)
