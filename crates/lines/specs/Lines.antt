-- "A file is cut at each LF; an empty last piece is no line; one CR at a line's end is dropped. Lines count from 1."
-- Assumes nothing.
use Rattle.std.specs.Prelude.{ℕ, suc, ◌+◌, ◌-◌, List, [], ◌∷◌, Bool, cond, ◌||◌, length, get_or, take, drop, eqb, ltb}
use Rattle.columns.specs.Columns.{column, blank}
use Rattle.lines.specs.declared.Cut.{Cut}

-- b in front of the first piece
unfoldable pub start_with : ℕ → List (List ℕ) → List (List ℕ)
start_with b [] = (b ∷ []) ∷ []
start_with b (p ∷ ps) = (b ∷ p) ∷ ps

-- the pieces between LFs (byte 10); an empty last piece is none
unfoldable pub pieces : List ℕ → List (List ℕ)
pieces [] = []
pieces (b ∷ s) = cond (eqb b 10) ([] ∷ pieces s) (start_with b (pieces s))

-- one CR (byte 13) at the end is dropped
unfoldable pub no_cr : List ℕ → List ℕ
no_cr p = cond (eqb (get_or p (length p - 1) 0) 13) (take (length p - 1) p) p

-- a line: its number, the place in its file where it starts, and its bytes
pub record Line : Type 0 where
  pub no : ℕ
  pub start : ℕ
  pub text : List ℕ

-- pieces as lines, the first of them line n at place `at`; the LF stands between two pieces
unfoldable pub numbered : ℕ → ℕ → List (List ℕ) → List Line
numbered n at [] = []
numbered n at (p ∷ ps) = record { no = n; start = at; text = no_cr p } ∷ numbered (n + 1) (at + length p + 1) ps

-- the lines of a text that starts at place `at` of its file, with line n
unfoldable pub lines_from : ℕ → ℕ → List ℕ → List Line
lines_from n at s = numbered n at (pieces s)

-- the lines of a file from line n on, which starts at place `at`
abbrev pub lines_at : List ℕ → ℕ → ℕ → List Line
lines_at f at n = lines_from n at (drop at f)

-- the lines of a file
abbrev pub lines_of : List ℕ → List Line
lines_of s = lines_from 1 0 s

-- "Except in ECKDATEN, a line that is all blank or starts with "%" is skipped but counted." (% is byte 37)
unfoldable pub skipped : List ℕ → Bool
skipped text = eqb (column 1 text) 37 || blank text

-- ---- one step of the walk of a file: the line that starts at a place. Nobody has to believe what follows: `lines::line_at` is promised over it,
-- and the law `cutting` (proofs/Laws) says that such steps give the lines above.

-- how many bytes stand before the first LF (all, where there is none)
unfoldable pub to_lf : List ℕ → ℕ
to_lf [] = 0
to_lf (b ∷ s) = cond (eqb b 10) 0 (suc (to_lf s))

-- the piece that starts at a place
abbrev pub piece_at : List ℕ → ℕ → List ℕ
piece_at f at = take (to_lf (drop at f)) (drop at f)

-- the place after a piece that ends at a place: past the LF, if there is one
abbrev pub past_lf : List ℕ → ℕ → ℕ
past_lf f end = cond (ltb end (length f)) (end + 1) end

-- where the text of the line ends, where the next line starts, and that one's number
unfoldable pub cut_at : List ℕ → ℕ → ℕ → Cut
cut_at f at n = record { stop = at + length (no_cr (piece_at f at)); next = past_lf f (at + to_lf (drop at f)); no = n + 1 }
