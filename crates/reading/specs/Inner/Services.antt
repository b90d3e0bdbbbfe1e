-- The words of the services of FPLAN, counted from service to service: as they are checked, and as they are written. Nobody has to believe this file.
-- Assumes nothing.
use Rattle.std.specs.Prelude.{ℕ, ◌+◌, ◌*◌, ◌<◌, ◌≡◌, List, ◌∷◌, map, length}
use Rattle.base.specs.Lists.{gathered}
use Rattle.lines.specs.Lines.{Line, lines_at}
use Rattle.timetable.specs.Layout.{service_head, call_size, most_file_bytes}
use Rattle.timetable.specs.Service.{blocks, service_of}
use Rattle.timetable.specs.Table.{service_words}
use Rattle.reading.specs.Inner.Reading.{service_lines_at, Boundary}

-- the service that begins at a place takes so many words, and the next begins at the place `end`, with line m
pub record ServiceTaken (f : List ℕ) (at n words end m : ℕ) : Type 0 where
  pub size : words ≡ length (service_words (service_of (service_lines_at f at n)))
  pub services : blocks (lines_at f at n) ≡ service_lines_at f at n ∷ blocks (lines_at f end m)
  pub past : at < end
  pub next : Boundary f end m

-- the words of services, of which the lines of each are given; their calls have the stops' numbers
unfoldable pub block_words : List (List Line) → List ℕ
block_words bs = gathered service_words (map service_of bs)

-- no more words than this stand for a line, and for a file, which has no more lines than bytes (`words-fit`)
abbrev pub words_a_line : ℕ
words_a_line = service_head + call_size

abbrev pub most_plan_words : ℕ
most_plan_words = words_a_line * most_file_bytes
