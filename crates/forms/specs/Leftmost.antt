-- No. 6: "the column where the leftmost field or unnamed column that breaks the form starts", said without the order in which a form is looked at.
-- That `form_of` gives it for every kind of line is proved in proofs/Leftmost. Assumes nothing.
use Rattle.std.specs.Prelude.{ℕ, ◌<◌, ◌≤◌, ◌≡◌, List, ◌∷◌, false, ◌⊎◌}
use Rattle.base.specs.Lists.{All}
use Rattle.columns.specs.Columns as C
use Rattle.forms.specs.Form.{Form, Fits, Broken, FieldRule}

-- a field that starts at a column breaks what its row asks
pub data FieldBreaks (line : List ℕ) : List FieldRule → ℕ → Type 0 where
  here : {x : FieldRule} {xs : List FieldRule} → x.rule line (C.columns x.from x.to line) ≡ false → FieldBreaks line (x ∷ xs) x.from
  there : {x : FieldRule} {xs : List FieldRule} {c : ℕ} → FieldBreaks line xs c → FieldBreaks line (x ∷ xs) c

-- a column past column `done` that no row names, and that is not blank
pub record Stray (line : List ℕ) (done : ℕ) (rows : List FieldRule) (c : ℕ) : Type 0 where
  pub past : done < c
  pub unnamed : All (λ (x : FieldRule). (c < x.from) ⊎ (x.to < c)) rows
  pub filled : C.is_blank (C.column c line) ≡ false

-- what breaks the form, at the column where it starts
pub data Breaks (line : List ℕ) (done : ℕ) (rows : List FieldRule) (c : ℕ) : Type 0 where
  field : FieldBreaks line rows c → Breaks line done rows c
  stray : Stray line done rows c → Breaks line done rows c

-- a form is answered rightly for the columns past column `done`: nothing breaks it, or this column does and none left of it
abbrev pub Leftmost : List ℕ → ℕ → List FieldRule → Form → Type 0
Leftmost line done rows Fits = (c : ℕ) → Breaks line done rows c → ⊥
Leftmost line done rows (Broken c) = Breaks line done rows c × ((d : ℕ) → Breaks line done rows d → c ≤ d)
