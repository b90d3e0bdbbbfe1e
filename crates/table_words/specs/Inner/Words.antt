-- The words of a table: its header's, and those that its files give. Assumes nothing.
use Rattle.std.specs.Prelude.{ℕ, ◌≡◌, List, [], ◌∷◌, ◌++◌, true}
use Rattle.lines.specs.Lines.{lines_of}
use Rattle.timetable.specs.Files.{stops_in}
use Rattle.timetable.specs.Service.{blocks}
use Rattle.sections.specs.Inner.Sections.{sound_section}
use Rattle.sections.specs.declared.Section.TheVariants.{BitFields, Stops, Interchanges, Classes}
use Rattle.table_words.specs.Inner.SectionWords.{section_words}
use Rattle.plan_words.specs.Inner.Services.{placed_words}
use Rattle.table_words.specs.declared.Header.{Header}

abbrev pub header_words : Header → List ℕ
header_words h = h.words ∷ h.start ∷ h.n ∷ h.fields ∷ h.stops ∷ h.interchanges ∷ h.services ∷ h.first ∷ h.classes ∷ []

-- those of BITFELD, BAHNHOF, UMSTEIGB and ZUGART
unfoldable pub sections_words : List ℕ → List ℕ → List ℕ → List ℕ → List ℕ
sections_words b s u z = section_words BitFields (lines_of b) ++ (section_words Stops (lines_of s) ++ (section_words Interchanges (lines_of u) ++ section_words Classes (lines_of z)))

-- and of FPLAN, whose calls point at the stops of BAHNHOF
abbrev pub body_words : List ℕ → List ℕ → List ℕ → List ℕ → List ℕ → List ℕ
body_words b s u z p = sections_words b s u z ++ placed_words (stops_in s) (blocks (lines_of p))

-- no line of these files breaks its form
pub record SectionsSound (b s u z : List ℕ) : Type 0 where
  pub fields : sound_section BitFields (lines_of b) ≡ true
  pub stops : sound_section Stops (lines_of s) ≡ true
  pub interchanges : sound_section Interchanges (lines_of u) ≡ true
  pub classes : sound_section Classes (lines_of z) ≡ true
