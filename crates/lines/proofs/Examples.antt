-- Worked examples, by computation. A byte is its number: 10 LF, 13 CR, 32 blank, 37 "%", 65 "A", 66 "B". Assumes nothing.
use mathlib.Core.Path.{◌≡◌, refl}
use mathlib.Core.List.{[], ◌∷◌}
use mathlib.Core.Bool.{true, false}
use Rattle.base.specs.Lists.{every}
use Rattle.lines.specs.Lines.{start_with, pieces, no_cr, numbered, lines_from, lines_of, skipped, to_lf, cut_at}

-- "an empty last piece is no line"
no_lines : lines_of [] ≡ []
unfolding lines_from numbered pieces
no_lines = refl

-- "A" LF "B": the last line needs no LF
last-without-LF : lines_of (65 ∷ 10 ∷ 66 ∷ []) ≡ record { no = 1; start = 0; text = 65 ∷ [] } ∷ record { no = 2; start = 2; text = 66 ∷ [] } ∷ []
unfolding lines_from numbered pieces start_with no_cr
last-without-LF = refl

-- "A" LF LF: an empty line between two LFs is one, and it is counted
empty-line : lines_of (65 ∷ 10 ∷ 10 ∷ []) ≡ record { no = 1; start = 0; text = 65 ∷ [] } ∷ record { no = 2; start = 2; text = [] } ∷ []
unfolding lines_from numbered pieces start_with no_cr
empty-line = refl

-- "A" CR LF "B" CR CR LF: of two CRs one stays
one-CR : lines_of (65 ∷ 13 ∷ 10 ∷ 66 ∷ 13 ∷ 13 ∷ 10 ∷ []) ≡ record { no = 1; start = 0; text = 65 ∷ [] } ∷ record { no = 2; start = 3; text = 66 ∷ 13 ∷ [] } ∷ []
unfolding lines_from numbered pieces start_with no_cr
one-CR = refl

-- CR "A" LF: a CR inside a line is a byte as any other
inner-CR : lines_of (13 ∷ 65 ∷ 10 ∷ []) ≡ record { no = 1; start = 0; text = 13 ∷ 65 ∷ [] } ∷ []
unfolding lines_from numbered pieces start_with no_cr
inner-CR = refl

-- "A" LF CR: the last piece is not empty, so it is a line; its text is
lone-CR : lines_of (65 ∷ 10 ∷ 13 ∷ []) ≡ record { no = 1; start = 0; text = 65 ∷ [] } ∷ record { no = 2; start = 2; text = [] } ∷ []
unfolding lines_from numbered pieces start_with no_cr
lone-CR = refl

-- the first line of "A" CR LF "B", as `line_at` answers it
first-cut : cut_at (65 ∷ 13 ∷ 10 ∷ 66 ∷ []) 0 1 ≡ record { stop = 1; next = 3; no = 2 }
unfolding cut_at to_lf no_cr
first-cut = refl

-- "starts with "%"": in column 1, and only there
percent-first : skipped (37 ∷ 65 ∷ []) ≡ true
unfolding skipped
percent-first = refl

percent-second : skipped (32 ∷ 37 ∷ []) ≡ false
unfolding skipped every
percent-second = refl

-- "all blank": an empty line is, a tab is not
blanks-skipped : skipped (32 ∷ 32 ∷ []) ≡ true
unfolding skipped every
blanks-skipped = refl

empty-skipped : skipped [] ≡ true
unfolding skipped every
empty-skipped = refl

tab-kept : skipped (32 ∷ 9 ∷ []) ≡ false
unfolding skipped every
tab-kept = refl
