-- Offences, and the first of several in the stated order. Assumes nothing.
use Rattle.std.specs.Prelude.{ℕ, List, [], ◌∷◌, ◌++◌, Bool, true, false, cond, Result, Ok, Err}
use Rattle.std.proofs.Math.Option.{Option, none, some}
use Rattle.lines.specs.Lines.{Line}
use Rattle.forms.specs.Form.{Form, Fits, Broken}
use Rattle.timetable.specs.declared.Offence.{Offence}

-- an offence by its number at a line; only 4 has a column
abbrev pub offence_at : ℕ → ℕ → Offence
offence_at number line = record { number = number; line = line; column = 0 }

-- an offence "given exactly when" the test holds
abbrev pub given : Bool → ℕ → ℕ → Option Offence
given t number line = cond t (some (offence_at number line)) none

-- "4 a field or unnamed column breaks the form", at a line
abbrev pub form_offence : Form → ℕ → Option Offence
form_offence Fits line = none
form_offence (Broken c) line = some (record { number = 4; line = line; column = c })

-- the first of two, in the stated order
abbrev pub or_else : {X : Type 0} → Option X → Option X → Option X
or_else none later = later
or_else (some o) later = some o

infixr 20 ◌<|>◌
unfoldable pub ◌<|>◌ : {X : Type 0} → Option X → Option X → Option X
o <|> later = or_else o later

-- the first offence of lines, where `off before l` is the offence of line l after the lines before it
unfoldable pub first : (List Line → Line → Option Offence) → List Line → List Line → Option Offence
first off before [] = none
first off before (l ∷ ls) = off before l <|> first off (before ++ (l ∷ [])) ls

-- ---- offences as the code answers them

abbrev pub verdict_by : Option Offence → Result (Unit {0}) Offence
verdict_by none = Ok tt
verdict_by (some o) = Err o

abbrev pub checked_by : Option Offence → ℕ → ℕ → Result (ℕ × ℕ) Offence
checked_by none a b = Ok (a, b)
checked_by (some o) a b = Err o
