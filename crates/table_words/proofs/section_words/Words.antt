-- The words of lines: those of a section are those of its records, so many for each. Assumes nothing.
use mathlib.Core.Path.{◌≡◌, refl, ap, sym, ◌∙◌}
use mathlib.Core.List.{List, [], ◌∷◌, ◌++◌, append-nil}
use mathlib.Core.Bool.{Bool, true, false, cond}
use Prim.Native.Nat.{ℕ, suc, ◌*◌}
use native.Mathlib.Nat.{mul-zero, mul-one, mul-add}
use lib.ListN.{length, length-append}
use Rattle.base.specs.Lists.{gathered}
use Rattle.base.proofs.Lists.{gathered-append}
use Rattle.lines.specs.Lines.{Line, skipped}
use Rattle.bitfield.proofs.Hex.{length-bits}
use Rattle.forms.specs.Form.{form_of, Form, Fits, Broken as BrokenForm}
use Rattle.forms.specs.Columns.{bit_field_columns, stop_columns, interchange_columns, class_columns}
use Rattle.timetable.specs.Layout.{bit_field_size, stop_size, interchange_size, class_size}
use Rattle.timetable.specs.Files.{Held, skip, listed, held_in, held_by, bit_field_of, stop_of, interchange_of, class_of}
use Rattle.timetable.specs.Table.{bit_field_words, stop_words, interchange_words, class_words}
use Rattle.sections.specs.Inner.Sections.{numbered_by, number_on, as_number, numbers}
use Rattle.sections.specs.declared.Section.{Section}
use Rattle.sections.specs.declared.Section.TheVariants.{BitFields, Stops, Interchanges, Classes}
use Rattle.sections.specs.declared.Numbered.{Numbered}
use Rattle.sections.specs.declared.Numbered.TheVariants.{Number, Skipped, Broken}
use Rattle.sections.proofs.Files.{count-fields, count-stops, count-interchanges, count-classes}
use Rattle.table_words.specs.Inner.SectionWords.{record_words, words_on, section_words}

-- ---- the words of a section are those of what its lines hold

module _ {X : Type 0} (w : X → List ℕ) (s : Section) (f : Line → Held X) where
  section-words : ((l : Line) → words_on s l.start l.text ≡ gathered w (listed (f l))) → (ls : List Line) → section_words s ls ≡ gathered w (held_in f ls)
  unfolding section_words gathered held_in
  section-words e [] = refl
  section-words e (l ∷ ls) = rw (e l, section-words e ls) (sym (gathered-append w (listed (f l)) (held_in f ls)))

  -- of a line: t is whether it is skipped, g its form, k the number of its record x
  one-record : (own : ℕ → List ℕ) (t : Bool) (g : Form) (x : X) (k : ℕ) → own k ≡ w x → gathered own (as_number (cond t Skipped (numbered_by g k))) ≡ gathered w (listed (cond t skip (held_by g x)))
  unfolding gathered
  one-record own true g x k e = refl
  one-record own false Fits x k e = ap (λ (r : List ℕ). r ++ []) e
  one-record own false (BrokenForm c) x k e = refl

module _ (ls : List Line) where
  pub words-fields : section_words BitFields ls ≡ gathered bit_field_words (held_in bit_field_of ls)
  unfolding words_on number_on
  words-fields = section-words bit_field_words BitFields bit_field_of (λ l. one-record bit_field_words BitFields bit_field_of (record_words BitFields l.start l.text) (skipped l.text) (form_of bit_field_columns l.text) _ _ refl) ls

  pub words-stops : section_words Stops ls ≡ gathered stop_words (held_in stop_of ls)
  unfolding words_on number_on
  words-stops = section-words stop_words Stops stop_of (λ l. one-record stop_words Stops stop_of (record_words Stops l.start l.text) (skipped l.text) (form_of stop_columns l.text) _ _ refl) ls

  pub words-interchanges : section_words Interchanges ls ≡ gathered interchange_words (held_in interchange_of ls)
  unfolding words_on number_on
  words-interchanges = section-words interchange_words Interchanges interchange_of (λ l. one-record interchange_words Interchanges interchange_of (record_words Interchanges l.start l.text) (skipped l.text) (form_of interchange_columns l.text) _ _ refl) ls

  pub words-classes : section_words Classes ls ≡ gathered class_words (held_in class_of ls)
  unfolding words_on number_on
  words-classes = section-words class_words Classes class_of (λ l. one-record class_words Classes class_of (record_words Classes l.start l.text) (skipped l.text) (form_of class_columns l.text) _ _ refl) ls

-- ---- the words of a line, by what it has for a number

module _ (s : Section) (start : ℕ) (text : List ℕ) (n : Numbered) (e : n ≡ number_on s text) where
  pub words-skipped : n ≡ Skipped → words_on s start text ≡ []
  unfolding words_on gathered
  words-skipped y = rw (sym e ∙ y) refl

  pub words-broken : (c : ℕ) → n ≡ Broken c → words_on s start text ≡ []
  unfolding words_on gathered
  words-broken c y = rw (sym e ∙ y) refl

  pub words-number : (k : ℕ) → n ≡ Number k → words_on s start text ≡ record_words s start text k
  unfolding words_on gathered
  words-number k y = rw (sym e ∙ y) (append-nil (record_words s start text k))

-- ---- how many words

-- those of a record
abbrev pub size_of : Section → ℕ
size_of BitFields = bit_field_size
size_of Stops = stop_size
size_of Interchanges = interchange_size
size_of Classes = class_size

pub length-record : (s : Section) (start : ℕ) (text : List ℕ) (k : ℕ) → length (record_words s start text k) ≡ size_of s
length-record BitFields start text k = ap suc (length-bits text)
length-record Stops start text k = refl
length-record Interchanges start text k = refl
length-record Classes start text k = refl

length-line : (s : Section) (start : ℕ) (text : List ℕ) → length (words_on s start text) ≡ size_of s * length (as_number (number_on s text))
length-line s start text = go (number_on s text) refl
  where
    go : (n : Numbered) → n ≡ number_on s text → length (words_on s start text) ≡ size_of s * length (as_number n)
    go Skipped e = ap length (words-skipped s start text Skipped e refl) ∙ sym (mul-zero (size_of s))
    go (Broken c) e = ap length (words-broken s start text (Broken c) e c refl) ∙ sym (mul-zero (size_of s))
    go (Number k) e = ap length (words-number s start text (Number k) e k refl) ∙ length-record s start text k ∙ sym (mul-one (size_of s))

length-words : (s : Section) (ls : List Line) → length (section_words s ls) ≡ size_of s * length (numbers s ls)
unfolding section_words gathered numbers
length-words s [] = sym (mul-zero (size_of s))
length-words s (l ∷ ls) =
    length-append (words_on s l.start l.text) (section_words s ls)
    ∙ rw (length-line s l.start l.text, length-words s ls) (sym (mul-add (size_of s) _ (length (numbers s ls))) ∙ ap (λ (k : ℕ). size_of s * k) (sym (length-append (as_number (number_on s l.text)) (numbers s ls))))

module _ (ls : List Line) where
  pub length_fields : length (section_words BitFields ls) ≡ bit_field_size * length (held_in bit_field_of ls)
  length_fields = length-words BitFields ls ∙ rw (count-fields ls) refl

  pub length-stops : length (section_words Stops ls) ≡ stop_size * length (held_in stop_of ls)
  length-stops = length-words Stops ls ∙ rw (count-stops ls) refl

  pub length-interchanges : length (section_words Interchanges ls) ≡ interchange_size * length (held_in interchange_of ls)
  length-interchanges = length-words Interchanges ls ∙ rw (count-interchanges ls) refl

  pub length-classes : length (section_words Classes ls) ≡ class_size * length (held_in class_of ls)
  length-classes = length-words Classes ls ∙ rw (count-classes ls) refl
