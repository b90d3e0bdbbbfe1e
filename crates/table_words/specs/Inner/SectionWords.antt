-- The words that the lines of files 2, 3, 4 and 6 give to the table, by what each line has for a number. Assumes nothing.
use Rattle.std.specs.Prelude.{ℕ, ◌+◌, List, [], ◌∷◌}
use Rattle.base.specs.Lists.{gathered}
use Rattle.columns.specs.Columns.{number}
use Rattle.columns.specs.LineFields.{field_in, stop_names, interchange_first, interchange_second, class_number}
use Rattle.lines.specs.Lines.{Line}
use Rattle.bitfield.specs.BitField.{bits_in}
use Rattle.names.specs.NameField.{name_length}
use Rattle.sections.specs.Inner.Sections.{number_on, as_number}
use Rattle.sections.specs.declared.Section.{Section}
use Rattle.sections.specs.declared.Section.TheVariants.{BitFields, Stops, Interchanges, Classes}

-- the words of an interchange record of number k
abbrev pub times_on : List ℕ → ℕ → List ℕ
times_on text k = k ∷ number (field_in interchange_first text) ∷ number (field_in interchange_second text) ∷ []

-- the words of the record of number k on a line that starts at a place
abbrev pub record_words : Section → ℕ → List ℕ → ℕ → List ℕ
record_words BitFields start text k = k ∷ bits_in text
record_words Stops start text k = k ∷ (start + 12) ∷ name_length (field_in stop_names text) ∷ []
record_words Interchanges start text k = times_on text k
record_words Classes start text k = k ∷ number (field_in class_number text) ∷ []

-- those that the line gives
unfoldable pub words_on : Section → ℕ → List ℕ → List ℕ
words_on s start text = gathered (record_words s start text) (as_number (number_on s text))

-- those of lines
unfoldable pub section_words : Section → List Line → List ℕ
section_words s ls = gathered (λ (l : Line). words_on s l.start l.text) ls
