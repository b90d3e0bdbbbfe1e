-- Lines whose forms are not broken: what a check that finds no offence has shown, for the crates that read them again. Assumes nothing.
use mathlib.Core.Path.{◌≡◌, refl, ◌∙◌}
use mathlib.Core.List.{List, [], ◌∷◌, ◌++◌}
use mathlib.Core.Bool.{true, false}
use mathlib.Core.Option.{Option, none}
use Prim.Native.Nat.{ℕ, ◌+◌, ◌-◌, ◌<◌}
use lib.ListN.{length, get_or, take, drop}
use Rattle.base.specs.Lists.{every}
use Rattle.base.proofs.Laws.{apart}
use Rattle.base.proofs.Loops.{and-true}
use Rattle.lines.specs.Lines.{Line, lines_at, cut_at, skipped}
use Rattle.lines.specs.Inner.Skips.{past_skipped}
use Rattle.lines.specs.declared.Cut.{Cut}
use Rattle.lines.proofs.Laws.{cutting}
use Rattle.lines.proofs.Pieces.{cut-empty}
use Rattle.lines.proofs.reader.Skipping.{passed-next}
use Rattle.forms.specs.Form.{form_of, Form, Fits, Broken as BrokenForm}
use Rattle.forms.specs.Columns.{columns_of}
use Rattle.timetable.specs.Delivery.{StopRecord}
use Rattle.timetable.specs.Offences.{first}
use Rattle.timetable.specs.Files.{bit_fields_first, stops_first, interchanges_first, classes_first}
use Rattle.timetable.specs.declared.Offence.{Offence}
use Rattle.timetable.proofs.Offences.{first-same, then-none}
use Rattle.sections.specs.Inner.Sections.{line_kind, key_on, numbered_by, number_on, is_sound, sound_section, record_offence, numbered_offence, line_offence}
use Rattle.sections.specs.declared.Section.{Section}
use Rattle.sections.specs.declared.Section.TheVariants.{BitFields, Stops, Interchanges, Classes}
use Rattle.sections.specs.declared.Numbered.{Numbered}
use Rattle.sections.specs.declared.Numbered.TheVariants.{Number, Skipped, Broken}
use Rattle.sections.proofs.Files.{line-of-fields, line-of-stops, line-of-interchanges, line-of-classes}

-- ---- a line

-- one that is not skipped holds a record
pub sound-number : (s : Section) (text : List ℕ) → is_sound (number_on s text) ≡ true → skipped text ≡ false → Number (key_on s text) ≡ number_on s text
unfolding number_on
sound-number s text z e = rw e (go (form_of (columns_of (line_kind s)) text) (rw e at z))
  where
    go : (g : Form) → is_sound (numbered_by g (key_on s text)) ≡ true → Number (key_on s text) ≡ numbered_by g (key_on s text)
    go Fits z = refl
    go (BrokenForm c) z = apart cc

-- ---- a walk over such lines: r is the line cut at the place `at`

module _ (f : List ℕ) (at no : ℕ) (h : at < length f) (s : Section) (z : sound_section s (lines_at f at no) ≡ true) where
  module _ (r : Cut) (e : r ≡ cut_at f at no) where
    sound-step : (is_sound (number_on s (take (r.stop - at) (drop at f))) ≡ true) × (sound_section s (lines_at f r.next r.no) ≡ true)
    unfolding sound_section every
    sound-step = and-true (is_sound (number_on s (take (r.stop - at) (drop at f)))) (sound_section s (lines_at f r.next r.no)) (rw (cutting f at no r h e).step at z)

    pub sound-here : is_sound (number_on s (take (r.stop - at) (drop at f))) ≡ true
    sound-here = sound-step.0

    pub sound-next : sound_section s (lines_at f r.next r.no) ≡ true
    sound-next = sound-step.1

  -- lines that are passed at once
  pub sound_empty : get_or f at 0 ≡ 10 → sound_section s (lines_at f (at + 1) (no + 1)) ≡ true
  sound_empty b = sound-next _ (cut-empty f at no h b)

  pub sound-passed : (p : ℕ) → p ≡ past_skipped f at → at < p → sound_section s (lines_at f p (no + 1)) ≡ true
  sound-passed p e l = rw (passed-next f at no p e l, (cutting f at no (cut_at f at no) h refl).count) at (sound-next (cut_at f at no) refl)

-- ---- lines without an offence are sound

line-sound : (own : ℕ → Option Offence) (line : ℕ) (n : Numbered) → numbered_offence own line n ≡ none → is_sound n ≡ true
line-sound own line Skipped e = refl
line-sound own line (Broken c) e = apart cc
line-sound own line (Number k) e = refl

none-sound : (s : Section) (days : ℕ) (stops : List StopRecord) (before ls : List Line) → first (line_offence s days stops) before ls ≡ none → sound_section s ls ≡ true
unfolding sound_section every first line_offence
none-sound s days stops before [] e = refl
none-sound s days stops before (l ∷ ls) e =
    let p = then-none (line_offence s days stops before l) (first (line_offence s days stops) (before ++ (l ∷ [])) ls) e in
    rw (line-sound (record_offence s days stops before l.no l.text) l.no (number_on s l.text) p.0, none-sound s days stops (before ++ (l ∷ [])) ls p.1) refl

module _ (ls : List Line) where
  pub fields-sound : (days : ℕ) → bit_fields_first days ls ≡ none → sound_section BitFields ls ≡ true
  unfolding bit_fields_first
  fields-sound days e = none-sound BitFields days [] [] ls (first-same _ _ (line-of-fields days []) [] ls ∙ e)

  pub stops-sound : stops_first ls ≡ none → sound_section Stops ls ≡ true
  unfolding stops_first
  stops-sound e = none-sound Stops 0 [] [] ls (first-same _ _ (line-of-stops 0 []) [] ls ∙ e)

  pub interchanges-sound : (stops : List StopRecord) → interchanges_first stops ls ≡ none → sound_section Interchanges ls ≡ true
  unfolding interchanges_first
  interchanges-sound stops e = none-sound Interchanges 0 stops [] ls (first-same _ _ (line-of-interchanges 0 stops) [] ls ∙ (then-none _ _ e).0)

  pub classes-sound : classes_first ls ≡ none → sound_section Classes ls ≡ true
  unfolding classes_first
  classes-sound e = none-sound Classes 0 [] [] ls (first-same _ _ (line-of-classes 0 []) [] ls ∙ e)
