-- The passes over ZUGART's lines: up to which line each finds nothing wrong, and what is wrong with that one. Nobody has to believe this file: what the
-- passes say together is promised over the file itself. Assumes nothing.
use Rattle.std.specs.Prelude.{ℕ, ◌+◌, ◌*◌, ◌/◌, ◌%◌, ◌^◌, ◌≤◌, ◌<◌, ◌≡◌, List, [], ◌∷◌, ◌++◌, Bool, true, false, cond, not, ◌&&◌, length, get_or, take, set, eqb, ltb, leb, Result}
use Rattle.std.proofs.Math.Option.{Option, none}
use Rattle.std.specs.Int.Bits.{bit_or}
use Rattle.base.specs.Lists.{every}
use Rattle.columns.specs.Columns.{column, is_blank}
use Rattle.columns.specs.LineFields.{class_code, class_tariff}
use Rattle.lines.specs.Lines.{Line, lines_of, skipped}
use Rattle.timetable.specs.Offences.{given, first, checked_by}
use Rattle.timetable.specs.Files.{held_in, has_tariff, tariff_of, classes_in, classes_first}
use Rattle.timetable.specs.Plan.{three_bytes}
use Rattle.timetable.specs.declared.Offence.{Offence}
use Rattle.sections.specs.Inner.Sections.{number_on, sound_section, numbers, has_number}
use Rattle.sections.specs.declared.Section.TheVariants.{Classes}
use Rattle.sections.specs.declared.Numbered.{Numbered}
use Rattle.sections.specs.declared.Numbered.TheVariants.{Number, Skipped, Broken}
use Rattle.classes.specs.declared.Formed.{Formed}
use Rattle.classes.specs.declared.Stand.{Stand}
use Rattle.classes.specs.declared.Pass.{Pass}

-- what the check of ZUGART answers
abbrev pub classes_checked : List ℕ → Result (ℕ × ℕ) Offence
classes_checked f = checked_by (classes_first (lines_of f)) (length (classes_in f)) (length (lines_of f) + 1)

-- ---- lines up to a place

-- the lines of a file before a place, and their codes
unfoldable pub before : List ℕ → ℕ → List Line
before f at = lines_of (take at f)

unfoldable pub codes : List ℕ → ℕ → List ℕ
codes f at = numbers Classes (before f at)

-- a line starts at a place, or the file ends there
pub record Upto (f : List ℕ) (at : ℕ) : Type 0 where
  pub inside : at ≤ length f
  pub rest : List Line
  pub split : lines_of f ≡ before f at ++ rest

-- a line starts there, of which P says something
pub record Next (f : List ℕ) (at : ℕ) (P : Line → Type 0) : Type 0 where
  pub line : Line
  pub rest : List Line
  pub split : lines_of f ≡ before f at ++ (line ∷ rest)
  pub number : line.no ≡ length (before f at) + 1
  pub says : P line

-- ---- forms

abbrev pub broken_column : Numbered → ℕ
broken_column Skipped = 0
broken_column (Broken column) = column
broken_column (Number k) = 0

-- every line is skipped or has its form
unfoldable pub sound : List Line → Bool
sound ls = sound_section Classes ls

-- a line that breaks its form at a column
unfoldable pub BreaksAt : ℕ → Line → Type 0
BreaksAt column l = number_on Classes l.text ≡ Broken column

pub record FormedAs (f : List ℕ) (r : Formed) : Type 0 where
  pub upto : Upto f r.at
  pub lines_sound : sound (before f r.at) ≡ true
  pub counted : r.count ≡ length (codes f r.at)
  pub number : r.no ≡ length (before f r.at) + 1
  pub broken : r.at < length f → Next f r.at (BreaksAt r.column)

-- ---- repeats

-- above all codes
abbrev pub no_code : ℕ
no_code = 16777216

-- the code of a line that is skipped or has its form
pub record LineCode (text : List ℕ) (r : ℕ) : Type 0 where
  pub most : r ≤ no_code
  pub skip : skipped text ≡ true → r ≡ no_code
  pub held : skipped text ≡ false → r ≡ three_bytes class_code.from text
  pub small : skipped text ≡ false → r < no_code

unfoldable pub small : List ℕ → Bool
small ns = every (λ (c : ℕ). ltb c no_code) ns

-- the first of a code's three bytes
abbrev pub first_byte : ℕ → ℕ
first_byte code = code / 65536

unfoldable pub first_byte_within : ℕ → ℕ → ℕ → Bool
first_byte_within lo hi code = leb lo (first_byte code) && ltb (first_byte code) hi

-- none of the codes that pass the test stands before itself, after those that stand before
unfoldable pub once : (ℕ → Bool) → List ℕ → List ℕ → Bool
once t earlier [] = true
once t earlier (c ∷ cs) = not (t c && has_number c earlier) && once t (earlier ++ (c ∷ [])) cs

-- a line that holds a record whose code is among those
unfoldable pub code_on : Line → ℕ
code_on l = three_bytes class_code.from l.text

pub record Repeats (ns : List ℕ) (l : Line) : Type 0 where
  pub held : number_on Classes l.text ≡ Number (code_on l)
  pub earlier : has_number (code_on l) ns ≡ true

-- a pass for first byte b, and for all after it that no code has
pub record PassAs (f : List ℕ) (b : ℕ) (r : Pass) : Type 0 where
  pub upto : Upto f r.at
  pub number : r.no ≡ length (before f r.at) + 1
  pub on : b < r.next
  pub bytes : small (codes f r.at) ≡ true
  pub apart : once (first_byte_within b r.next) [] (codes f r.at) ≡ true
  pub repeat : r.at < length f → Next f r.at (Repeats (codes f r.at))

abbrev pub any : ℕ → Bool
any code = true

pub record RepeatAs (f : List ℕ) (r : Stand) : Type 0 where
  pub upto : Upto f r.at
  pub apart : once any [] (codes f r.at) ≡ true
  pub number : r.at < length f → r.no ≡ length (before f r.at) + 1
  pub repeat : r.at < length f → Next f r.at (Repeats (codes f r.at))

-- ---- codes that rise from line to line

-- the number after a code
abbrev pub above_on : ℕ → ℕ → ℕ
above_on code below = cond (eqb code no_code) below (code + 1)

pub record Rising (f : List ℕ) (r : Bool) : Type 0 where
  pub apart : r ≡ true → once any [] (codes f (length f)) ≡ true

-- ---- marks: a bit for each code of first byte b, by its other two bytes

abbrev pub mark_words : ℕ
mark_words = 2048

unfoldable pub bit_of : ℕ → ℕ → ℕ
bit_of w k = w / 2 ^ k % 2

unfoldable pub marked : List ℕ → ℕ → Bool
marked marks low = eqb (bit_of (get_or marks (low / 32) 0) (low % 32)) 1

-- with the mark of low set
unfoldable pub with_mark : List ℕ → ℕ → List ℕ
with_mark marks low = set marks (low / 32) (bit_or (get_or marks (low / 32) 0) (2 ^ (low % 32)))

-- the marks are those of the codes ns
pub record Marks (b : ℕ) (ns marks : List ℕ) : Type 0 where
  pub size : length marks ≡ mark_words
  pub bits : (low : ℕ) → low < 65536 → marked marks low ≡ has_number (b * 65536 + low) ns

-- whether a code begins with b and is marked, and the marks with it
unfoldable pub repeats_on : ℕ → ℕ → List ℕ → Bool
repeats_on b code marks = cond (eqb (first_byte code) b) (marked marks (code % 65536)) false

unfoldable pub marks_with : ℕ → ℕ → List ℕ → List ℕ
marks_with b code marks = cond (eqb (first_byte code) b) (with_mark marks (code % 65536)) marks

-- the least first byte after b: the next so far, or x
abbrev pub lesser : ℕ → ℕ → ℕ → ℕ
lesser b next x = cond (ltb b x) (cond (ltb x next) x next) next

-- ---- tariff groups

-- whether a line that has a tariff group, or none, differs from the first of those before it
abbrev pub differs : List Bool → Bool → Bool
differs [] has = false
differs (first ∷ earlier) has = cond first (not has) has

-- as the code holds it: 0 for no line yet, 1 for none, 2 for one
abbrev pub group_of : List Bool → ℕ
group_of [] = 0
group_of (has ∷ more) = cond has 2 1

unfoldable pub group_on : List ℕ → ℕ
group_on text = cond (skipped text) 0 (cond (is_blank (column class_tariff.from text)) 1 2)

abbrev pub other_group : ℕ → ℕ → Bool
other_group group own = cond (eqb group 0) false (cond (eqb own 0) false (not (eqb group own)))

abbrev pub group_with : ℕ → ℕ → ℕ
group_with group own = cond (eqb group 0) own group

-- 37 alone
unfoldable pub tariff_offence_on : List Line → Line → Option Offence
tariff_offence_on earlier l = cond (skipped l.text) none (given (differs (held_in tariff_of earlier) (has_tariff l.text)) 37 l.no)

-- a line that holds a record, and its tariff group is missing or alone
pub record Differs (earlier : List Line) (l : Line) : Type 0 where
  pub held : skipped l.text ≡ false
  pub other : differs (held_in tariff_of earlier) (has_tariff l.text) ≡ true

pub record TariffAs (f : List ℕ) (r : Stand) : Type 0 where
  pub upto : Upto f r.at
  pub alike : first tariff_offence_on [] (before f r.at) ≡ none
  pub number : r.at < length f → r.no ≡ length (before f r.at) + 1
  pub differing : r.at < length f → Next f r.at (Differs (before f r.at))
