-- "Which kind a line is follows from its first bytes: "*Z ", "*G ", "*A " or a digit."; document 02, No. 8, adds "*T ". Assumes nothing.
use Rattle.std.specs.Prelude.{ℕ, List, cond, eqb}
use Rattle.columns.specs.Columns.{column, is_digit}
use Rattle.forms.specs.declared.Kind.{Kind}
use Rattle.forms.specs.declared.Kind.TheVariants.{Opening, Frequency, Category, Attribute, Schedule, Other}

-- after a star: Z (90), T (84), G (71) or A (65), and a blank
abbrev pub starred : ℕ → ℕ → Kind
starred b c = cond (eqb c 32) (cond (eqb b 90) Opening (cond (eqb b 84) Frequency (cond (eqb b 71) Category (cond (eqb b 65) Attribute Other)))) Other

unfoldable pub kind_of : List ℕ → Kind
kind_of line = cond (eqb (column 1 line) 42) (starred (column 2 line) (column 3 line)) (cond (is_digit (column 1 line)) Schedule Other)
