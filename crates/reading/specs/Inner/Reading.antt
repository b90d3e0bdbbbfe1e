-- The services of FPLAN in their file: where the lines of each begin and end, and what reading one answers. Nobody has to believe this file.
-- Assumes nothing.
use Rattle.std.specs.Prelude.{ℕ, ◌+◌, ◌≤◌, ◌<◌, ◌≡◌, List, [], ◌∷◌, Bool, true, false, not, cond, length, get_or, drop, leb, Option as RustOption, Some, None, Result, Ok, Err}
use Rattle.std.proofs.Math.Option.{Option, none, some}
use Rattle.base.specs.Lists.{every}
use Rattle.columns.specs.Columns.{is_digit}
use Rattle.lines.specs.Lines.{Line, lines_at, lines_of, to_lf, skipped}
use Rattle.forms.specs.Kinds.{kind_of}
use Rattle.forms.specs.Form.{Broken as BrokenForm}
use Rattle.timetable.specs.Layout.{most_file_bytes, most_calls}
use Rattle.timetable.specs.Delivery.{BitField, StopRecord, CategoryClass}
use Rattle.timetable.specs.Offences.{offence_at, given, form_offence, ◌<|>◌, first}
use Rattle.timetable.specs.Files.{has_stop}
use Rattle.timetable.specs.Plan.{told_in, is_opening}
use Rattle.timetable.specs.Service.{head_lines, blocks, first_line, service_of}
use Rattle.timetable.specs.Legs.{field_known}
use Rattle.timetable.specs.Checks.{most, category_listed, own_offence, head_first}
use Rattle.timetable.specs.declared.Offence.{Offence}
use Rattle.timetable.specs.declared.RangeKind.{RangeKind}
use Rattle.timetable.specs.declared.RangeKind.TheVariants.{Category, Days, Extra}
use Rattle.timetable.specs.declared.Told.{Told}
use Rattle.timetable.specs.declared.Told.TheVariants.{Skip, Other, Broken, Opens, Ranges, Calls}
use Rattle.draft.specs.Inner.Draft.{counts_of, Within, DraftOf}
use Rattle.draft.specs.declared.Counts.{Counts}
use Rattle.draft.specs.declared.Drafted.{Drafted}
use Rattle.reading.specs.declared.LineTold.{LineTold}

-- the lines of the service whose first line is the first of some lines
abbrev pub own_lines : List Line → List Line
own_lines [] = []
own_lines (l ∷ ls) = l ∷ head_lines ls

-- the lines of the service that begins at a place, with line n
abbrev pub service_lines_at : List ℕ → ℕ → ℕ → List Line
service_lines_at f at n = own_lines (lines_at f at n)

-- where a service may begin: what starts there, if anything, opens one
pub record Boundary (f : List ℕ) (at n : ℕ) : Type 0 where
  pub short : length f ≤ most_file_bytes
  pub inside : at ≤ length f
  pub number : n ≤ at + 1
  pub opening : head_lines (lines_at f at n) ≡ []

-- the service that begins at a place was read and drafted, and the next begins where it says
pub record ServiceRead (f : List ℕ) (at n : ℕ) (d : Drafted) (calls ranges : List ℕ) : Type 0 where
  pub line : d.line ≡ n
  pub own_line : (first_line (service_lines_at f at n)).no ≡ n
  pub opening : (service_of (service_lines_at f at n)).opening ≡ d.opening
  pub draft : DraftOf (service_lines_at f at n) d.counts calls ranges
  pub services : blocks (lines_at f at n) ≡ service_lines_at f at n ∷ blocks (lines_at f d.end d.no)
  pub past : at < d.end
  pub next : Boundary f d.end d.no

-- lines of a service that were checked: none has a broken form, and they are within the limits of 13
abbrev pub is_formed : Told → Bool
is_formed Skip = true
is_formed Other = true
is_formed (Broken c) = false
is_formed (Opens o) = true
is_formed (Ranges r) = true
is_formed (Calls c) = true

unfoldable pub all_formed : List Line → Bool
all_formed ls = every (λ (l : Line). is_formed (told_in l.text)) ls

pub record Sound (ls : List Line) : Type 0 where
  pub within : Within (counts_of ls)
  pub formed : all_formed ls ≡ true

-- a schedule line that starts at a place has no LF before column 60
pub record Reaching (f : List ℕ) (at : ℕ) : Type 0 where
  pub long : is_digit (get_or f at 0) ≡ true → 59 ≤ to_lf (drop at f)

-- ---- the steps of reading

-- the next line of a service: it opens none, says that, and the line after it starts at a place, with a number
pub record NextLine (f : List ℕ) (at n : ℕ) (said : Told) (next no : ℕ) : Type 0 where
  pub line : Line
  pub own_number : line.no ≡ n
  pub told : said ≡ told_in line.text
  pub head : head_lines (lines_at f at n) ≡ line ∷ head_lines (lines_at f next no)
  pub others : blocks (lines_at f at n) ≡ blocks (lines_at f next no)
  pub past : at < next
  pub inside : next ≤ length f
  pub number : no ≤ next + 1

-- what asking for it answers
abbrev pub NextAs : List ℕ → ℕ → ℕ → RustOption LineTold → Type 0
NextAs f at n (Some l) = NextLine f at n l.said l.next l.no
NextAs f at n None = head_lines (lines_at f at n) ≡ []

-- a line's own offence where so much of its service is counted before it
abbrev pub count_of : RangeKind → Counts → ℕ
count_of Category k = k.categories
count_of Days k = k.days
count_of Extra k = k.extras

abbrev pub category_after : List CategoryClass → ℕ → RangeKind → ℕ → Option Offence
category_after classes line part name = given (not (category_listed part name classes)) 38 line

abbrev pub range_after : List BitField → List CategoryClass → Counts → ℕ → RangeKind → ℕ → ℕ → Option Offence
range_after fields classes k line part field name =
    given (leb (most part) (count_of part k)) 13 line <|> given (not (field_known field fields)) 10 line <|> category_after classes line part name

abbrev pub call_after : List StopRecord → Counts → ℕ → ℕ → Option Offence
call_after stops k line stop = given (leb most_calls k.calls) 13 line <|> given (not (has_stop stop stops)) 9 line

-- of a service's first line: its form alone
abbrev pub form_after : ℕ → Told → Option Offence
form_after line Skip = none
form_after line Other = none
form_after line (Broken c) = form_offence (BrokenForm c) line
form_after line (Opens o) = none
form_after line (Ranges r) = none
form_after line (Calls c) = none

abbrev pub offence_after : List BitField → List StopRecord → List CategoryClass → Counts → ℕ → Told → Option Offence
offence_after fields stops classes k line Skip = none
offence_after fields stops classes k line Other = some (offence_at 11 line)
offence_after fields stops classes k line (Broken c) = form_offence (BrokenForm c) line
offence_after fields stops classes k line (Opens o) = none
offence_after fields stops classes k line (Ranges r) = range_after fields classes k line r.part r.field r.name
offence_after fields stops classes k line (Calls c) = call_after stops k line c.stop

-- ---- a service

-- what reading a service answers: the first own offence of its lines, or its draft
abbrev pub ReadAs : List BitField → List StopRecord → List CategoryClass → List ℕ → ℕ → ℕ → Result Drafted Offence → List ℕ → List ℕ → Type 0
ReadAs fields stops classes f at n (Err o) calls ranges = first (own_offence fields stops classes) [] (service_lines_at f at n) ≡ some o
ReadAs fields stops classes f at n (Ok d) calls ranges = (first (own_offence fields stops classes) [] (service_lines_at f at n) ≡ none) × ServiceRead f at n d calls ranges

-- the first service begins at a place, with line n, and nothing stands before it
pub record HeadClear (f : List ℕ) (at n : ℕ) : Type 0 where
  pub clean : head_first (lines_of f) ≡ none
  pub services : blocks (lines_of f) ≡ blocks (lines_at f at n)
  pub next : Boundary f at n

-- what the lines before the first service are
abbrev pub HeadAs : List ℕ → Result (ℕ × ℕ) Offence → Type 0
HeadAs f (Err o) = head_first (lines_of f) ≡ some o
HeadAs f (Ok (at, n)) = HeadClear f at n

-- a line that is not passed before the first service, and what it is there: t says whether it opens one
abbrev pub ends_head : List ℕ → Bool
ends_head l = cond (is_opening (kind_of l)) true (not (skipped l))

abbrev pub head_by : Bool → ℕ → ℕ → Result (ℕ × ℕ) Offence
head_by t at n = cond t (Ok (at, n)) (Err (offence_at 12 n))
