-- The times of a schedule line as text, for the contract of an inner function: nobody has to believe this file. Assumes nothing.
use Rattle.std.specs.Prelude.{ℕ, ◌/◌, ◌%◌, List, ◌++◌, eqb}
use Rattle.line_text.specs.Text.{blanks, clock_text}

-- columns 8 to 42 of a schedule line (for the contract of `put_times` only)
abbrev pub times_text : ℕ → ℕ → ℕ → List ℕ
times_text flags a d =
    (blanks 22 ++ clock_text (eqb (flags % 2) 1) (eqb (flags / 4 % 2) 1) a)
    ++ (blanks 1 ++ clock_text (eqb (flags / 2 % 2) 1) (eqb (flags / 8 % 2) 1) d)
