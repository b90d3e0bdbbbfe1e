-- The map of a file's records in lent words, four for each line: the number of each record, and the place where its line starts. Nobody has to
-- believe this file: what is answered by the map is promised over the files themselves. Assumes nothing.
use Rattle.std.specs.Prelude.{ℕ, ◌+◌, ◌*◌, ◌-◌, ◌≤◌, ◌<◌, ◌≡◌, List, [], ◌∷◌, ◌++◌, map, length, take, drop, replicate, Result, Ok}
use Rattle.base.specs.Lists.{gathered}
use Rattle.lines.specs.Lines.{Line, lines_of, cut_at}
use Rattle.map.specs.Inner.Map.{map_record_size, word_values, Chained, Distinct, numbers_in, places_in}
use Rattle.sections.specs.Inner.Sections.{number_on, as_number, numbers}
use Rattle.sections.specs.declared.Section.{Section}
use Rattle.sections.specs.declared.Section.TheVariants.{Stops, Interchanges, Classes}
use Rattle.sections.specs.declared.Numbered.{Numbered}
use Rattle.sections.specs.declared.Numbered.TheVariants.{Number, Skipped, Broken}
use Rattle.timetable.specs.declared.Offence.{Offence}

-- the text of the line that starts at a place
unfoldable pub text_at : List ℕ → ℕ → List ℕ
text_at f at = take ((cut_at f at 1).stop - at) (drop at f)

-- what belongs to a line, if it holds a record
abbrev pub if_held : {X : Type 0} → X → Numbered → List X
if_held x Skipped = []
if_held x (Broken column) = []
if_held x (Number n) = x ∷ []

-- the texts of the lines that hold a record, in order
unfoldable pub texts : Section → List Line → List (List ℕ)
texts s ls = gathered (λ (l : Line). if_held l.text (number_on s l.text)) ls

-- the map holds the records of these lines of file f, so many, and no number stands twice
pub record Filled (s : Section) (f : List ℕ) (ls : List Line) (count : ℕ) (m : List ℕ) : Type 0 where
  pub chained : Chained count m
  pub numbers_held : numbers_in count m ≡ numbers s ls
  pub texts_held : map (text_at f) (places_in count m) ≡ texts s ls
  pub distinct : Distinct (numbers s ls)

-- the map has the numbers of these lines: all that the later of two equal ones is refused by
pub record Seen (s : Section) (ls : List Line) (m : List ℕ) : Type 0 where
  pub count : ℕ
  pub chained : Chained count m
  pub numbers_held : numbers_in count m ≡ numbers s ls

-- the map of all lines of file f
pub record MapOf (s : Section) (f : List ℕ) (m : List ℕ) : Type 0 where
  pub count : ℕ
  pub filled : Filled s f (lines_of f) count m

-- words lent for the map of file f: enough of them, and all 0
pub record Lent (f : List ℕ) (m : List ℕ) : Type 0 where
  pub room : map_record_size * length (lines_of f) ≤ length m
  pub size : length m < word_values
  pub zeros : m ≡ replicate (length m) 0

-- what the words hold after the check of file f: its map, unless it was refused
pub record MapAfter (s : Section) (f : List ℕ) (r : Result (ℕ × ℕ) Offence) (m : List ℕ) : Type 0 where
  pub held : (count next : ℕ) → r ≡ Ok (count, next) → MapOf s f m

-- ---- the words of two maps: the first words are the map of BAHNHOF, those from `split` on are the map of the file that is checked. BAHNHOF is looked at
-- for UMSTEIGB only; the map of another file has no words before it

-- before the first line; ZUGART has no map
pub record Ready (s : Section) (f bahnhof : List ℕ) (split : ℕ) (m : List ℕ) : Type 0 where
  pub inside : split ≤ length m
  pub lent : Lent f (drop split m)
  pub stops : s ≡ Interchanges → MapOf Stops bahnhof (take split m)
  pub mapped : s ≡ Classes → ⊥

-- after the lines of the part `before` of a file
pub record Reached (s : Section) (before bahnhof : List ℕ) (split : ℕ) (m : List ℕ) : Type 0 where
  pub inside : split ≤ length m
  pub seen : Seen s (lines_of before) (drop split m)
  pub stops : s ≡ Interchanges → MapOf Stops bahnhof (take split m)
  pub mapped : s ≡ Classes → ⊥

-- there is room for a record of a line that starts at a place
pub record PutReady (count split place : ℕ) (m : List ℕ) : Type 0 where
  pub inside : split ≤ length m
  pub chained : Chained count (drop split m)
  pub room : map_record_size * count + map_record_size ≤ length (drop split m)
  pub small : place < word_values

-- after a line that starts at a place and has n for a number: r records
pub record Put (n : Numbered) (place count split : ℕ) (m : List ℕ) (r : ℕ) (m' : List ℕ) : Type 0 where
  pub same : length m' ≡ length m
  pub front : take split m' ≡ take split m
  pub counted : r ≡ count + length (as_number n)
  pub chained : Chained r (drop split m')
  pub numbers_held : numbers_in r (drop split m') ≡ numbers_in count (drop split m) ++ as_number n
  pub places_held : places_in r (drop split m') ≡ places_in count (drop split m) ++ if_held place n
