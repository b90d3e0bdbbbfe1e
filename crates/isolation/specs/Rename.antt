-- Document 02, No. 14: "if one delivery's bit field numbers are changed one-to-one, in BITFELD and in every place of FPLAN, with 000000 kept, it is again
-- accepted, given the same table and helper room, and all walks answer alike. The day question by number is exempt." What the changed files are, byte by byte.
-- Whole it is `Renaming`, proved in proofs/Renamed.antt: `renamed-again` (and of refused deliveries too `renamed-loaded`). Assumes nothing.
use Rattle.std.specs.Prelude.{◌≡◌, List, [], ◌∷◌, ◌++◌, Bool, true, false, cond, ℕ, ◌+◌, ◌-◌, ◌<◌, length, take, drop, eqb}
use Rattle.columns.specs.Columns.{columns, digits, number}
use Rattle.columns.specs.LineFields.{bit_field_number, attribute_bit_field}
use Rattle.lines.specs.Lines.{no_cr}
use Rattle.forms.specs.Kinds.{kind_of}
use Rattle.forms.specs.declared.Kind.{Kind}
use Rattle.forms.specs.declared.Kind.TheVariants.{Opening, Frequency, Category, Attribute, Schedule, Other}
use Rattle.timetable.specs.Delivery.{Files}
use Rattle.timetable.specs.Load.{loaded, written}
use Rattle.timetable.specs.Questions.{day_asked}
use Rattle.timetable.specs.declared.Loaded.TheVariants.{Accepted}
use Rattle.line_text.specs.Text.{decimal}
use Rattle.isolation.specs.Alike.{WalksAlike, StopsAlike}

-- "changed one-to-one, .. with 000000 kept": σ takes numbers of six digits to such, two of them never to one, and 000000 to itself
pub record OneToOne (σ : ℕ → ℕ) : Type 0 where
  pub six_digits : (n : ℕ) → n < 1000000 → σ n < 1000000
  pub apart : (n m : ℕ) → n < 1000000 → m < 1000000 → σ n ≡ σ m → n ≡ m
  pub kept : σ 0 ≡ 0

-- ---- a line

-- the six digits from column c on changed in place; another line (the field is blank, or no number) stays
unfoldable pub renumbered : (ℕ → ℕ) → ℕ → List ℕ → List ℕ
renumbered σ c text =
    cond (digits (columns c (c + 5) text))
    (take (c - 1) text ++ (decimal 6 (σ (number (columns c (c + 5) text))) ++ drop (c + 5) text))
    text

abbrev pub is_attribute : Kind → Bool
is_attribute Opening = false
is_attribute Frequency = false
is_attribute Category = false
is_attribute Attribute = true
is_attribute Schedule = false
is_attribute Other = false

-- "2 BITFELD: 1-6 digits" (a skipped line has none there)
abbrev pub field_line : (ℕ → ℕ) → List ℕ → List ℕ
field_line σ text = renumbered σ bit_field_number.from text

-- "*A: .. 23-28 bit field digits or blank", "VE" or another code; all other lines of FPLAN stay
unfoldable pub plan_line : (ℕ → ℕ) → List ℕ → List ℕ
plan_line σ text = cond (is_attribute (kind_of text)) (renumbered σ attribute_bit_field.from text) text

-- ---- a file, line by line; LF (byte 10) and a CR before it stay

-- the bytes of a line, up to its LF, with its text changed
abbrev pub in_line : (List ℕ → List ℕ) → List ℕ → List ℕ
in_line change p = change (no_cr p) ++ drop (length (no_cr p)) p

-- the bytes p of a line, and those that follow them
unfoldable pub each_line : (List ℕ → List ℕ) → List ℕ → List ℕ → List ℕ
each_line change p [] = in_line change p
each_line change p (b ∷ s) = cond (eqb b 10) (in_line change p ++ (10 ∷ each_line change [] s)) (each_line change (p ++ (b ∷ [])) s)

-- ---- "in BITFELD and in every place of FPLAN"

unfoldable pub renamed : (ℕ → ℕ) → Files → Files
renamed σ f = record {
  eckdaten = f.eckdaten;
  bitfeld = each_line (field_line σ) [] f.bitfeld;
  bahnhof = f.bahnhof;
  umsteigb = f.umsteigb;
  fplan = each_line (plan_line σ) [] f.fplan;
  zugart = f.zugart;
}

-- ---- "all walks answer alike": of the words before and after, any index, repeat, date and room. "The day question by number is exempt": the days of number m
-- before are the days of σ m after. (Beyond what is asked: the questions of stops.)

pub record AnswersAlike (σ : ℕ → ℕ) (before after : List ℕ) : Type 0 where
  pub walks : (i : ℕ) → WalksAlike after before i
  pub days : (day month year m : ℕ) → m < 1000000 → day_asked after day month year (σ m) ≡ day_asked before day month year m
  pub stops : StopsAlike after before

-- "it is again accepted, given the same table and helper room, and all walks answer alike"
abbrev pub Renaming : Type 0
Renaming =
    (σ : ℕ → ℕ) → OneToOne σ → (f : Files) (t : List ℕ) (helper u : ℕ) → loaded f (length t) helper ≡ Accepted u
    → (loaded (renamed σ f) (length t) helper ≡ Accepted u) × AnswersAlike σ (written f t helper) (written (renamed σ f) t helper)
