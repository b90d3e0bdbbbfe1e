-- The reader behind a line that it has cut. Nobody has to believe this file: it states the contract of `next_line`.
-- Assumes nothing.
use Rattle.lines.specs.declared.Cut.{Cut}
use Rattle.lines.specs.declared.reader.Reader.{Reader}

-- the same file, where the next line starts, and that one's number
abbrev pub past : Reader → Cut → Reader
past r c = record { file = r.file; at = c.next; no = c.no }
