-- What reading a line of ECKDATEN that has to be a date answers: its day number and the place of the next line, or an offence. Assumes nothing.
use Rattle.std.specs.Prelude.{ℕ, List, [], ◌∷◌, Result, Err}
use Rattle.lines.specs.Lines.{Line, lines_at, cut_at}
use Rattle.calendar.specs.Calendar.{date_in}
use Rattle.timetable.specs.Offences.{offence_at, checked_by}
use Rattle.timetable.specs.Files.{day_number, date_line_offence}
use Rattle.timetable.specs.declared.Offence.{Offence}

-- the first of some lines, where it is line n: "2 ECKDATEN under three lines" where there is none
abbrev pub date_of : List Line → ℕ → ℕ → Result (ℕ × ℕ) Offence
date_of [] n next = Err (offence_at 2 n)
date_of (l ∷ ls) n next = checked_by (date_line_offence l) (day_number (date_in l.text)) next

-- line n, which starts at a place
unfoldable pub date_at : List ℕ → ℕ → ℕ → Result (ℕ × ℕ) Offence
date_at f at n = date_of (lines_at f at n) n (cut_at f at n).next
