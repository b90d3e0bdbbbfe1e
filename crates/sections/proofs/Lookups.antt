-- The needs of the look-ups by number. Assumes nothing.
use mathlib.Core.Path.{◌≡◌, refl, ap, sym, ◌∙◌}
use mathlib.Core.List.{List, [], ◌∷◌, map}
use mathlib.Core.Bool.{Bool, true, false, ◌||◌}
use Prim.Native.Nat.{ℕ, ◌-◌, ◌≤◌}
use native.Mathlib.Nat.{sub-zero, div-one}
use native.Mathlib.Omega.{arith}
use lib.ListN.{length, take, drop, length-drop}
use lib.Seq.{take_all}
use lib.Dec.{lit≤}
use Rattle.base.specs.Lists.{some_of}
use Rattle.base.proofs.Laws.{tests}
use Rattle.columns.specs.Columns.{columns, number}
use Rattle.byte_words.specs.Inner.Words.{bytes_of}
use Rattle.byte_words.proofs.Lines.{columns-word}
use Rattle.lines.specs.Lines.{Line, skipped, lines_of}
use Rattle.forms.specs.Form.{form_of, Form, Fits, Broken as BrokenForm}
use Rattle.forms.specs.Columns.{columns_of}
use Rattle.forms.specs.declared.LineKind.{LineKind}
use Rattle.map.specs.Inner.Map.{Mapped, Finds, numbers_in}
use Rattle.std.specs.Prelude.{Option, Some, None, is_some}
use Rattle.map.proofs.Meaning.{known-found, found_none}
use Rattle.timetable.specs.Files.{held_in, bit_field_of, stop_of, interchange_of, class_of, has_field, has_stop, has_interchange, has_class}
use Rattle.sections.specs.Inner.Sections.{line_kind, key_on, numbered_by, number_on, numbers, has_number}
use Rattle.sections.specs.Inner.SectionMap.{Seen, MapOf, Reached}
use Rattle.sections.specs.declared.Section.{Section}
use Rattle.sections.specs.declared.Section.TheVariants.{BitFields, Stops, Interchanges, Classes}
use Rattle.sections.specs.declared.Numbered.{Numbered}
use Rattle.sections.specs.declared.Numbered.TheVariants.{Number, Skipped, Broken}
use Rattle.sections.proofs.Held.{field-numbers, stop-numbers, interchange-numbers, class-numbers}

-- ---- the number on a line, for `search numbering`

pub key-is : (s t : Section) (text : List ℕ) (n : ℕ) → s ≡ t → n ≡ key_on t text → n ≡ key_on s text
key-is s t text n e d = rw e d

-- w are a line's first eight bytes, of which k are digits
module _ (text : List ℕ) (w n : ℕ) (h : 8 ≤ length text) (e : bytes_of 8 w ≡ take 8 (drop 0 text)) where
  first-columns : (k : ℕ) → k ≤ 8 → columns 1 k text ≡ bytes_of k w
  first-columns k l = columns-word text 0 w e (omega arith) 0 k 1 k refl (omega arith) (omega arith) ∙ ap (bytes_of k) (div-one w)

  pub six-is : n ≡ number (bytes_of 6 w) → n ≡ number (columns 1 6 text)
  six-is d = d ∙ sym (ap number (first-columns 6 (lit≤ tt)))

  pub seven_is : n ≡ number (bytes_of 7 w) → n ≡ number (columns 1 7 text)
  seven_is d = d ∙ sym (ap number (first-columns 7 (lit≤ tt)))

pub digits_are : (t u : Bool) → t ≡ u → t ≡ true → u ≡ true
digits_are t u e y = sym e ∙ y

-- t is whether the line is skipped, n what a line has that is not
module _ (s : Section) (text : List ℕ) (t : Bool) (e : t ≡ skipped text) where
  pub number-skipped : t ≡ true → Skipped ≡ number_on s text
  unfolding number_on
  number-skipped y = rw (sym e ∙ y) refl

  pub number-formed : (n : Numbered) → t ≡ false → n ≡ numbered_by (form_of (columns_of (line_kind s)) text) (key_on s text) → n ≡ number_on s text
  unfolding number_on
  number-formed n y d = rw (sym e ∙ y) d

-- k is the kind of its section's lines, g its form
module _ (s : Section) (text : List ℕ) (k : LineKind) (q : k ≡ line_kind s) (g : Form) (d : g ≡ form_of (columns_of k) text) where
  form-is : g ≡ form_of (columns_of (line_kind s)) text
  form-is = rw (← q) d

  pub number-broken : (c : ℕ) → g ≡ BrokenForm c → Broken c ≡ numbered_by (form_of (columns_of (line_kind s)) text) (key_on s text)
  number-broken c z = rw (sym form-is ∙ z) refl

  pub number_fits : (n : ℕ) → g ≡ Fits → n ≡ key_on s text → Number n ≡ numbered_by (form_of (columns_of (line_kind s)) text) (key_on s text)
  number_fits n z v = rw (sym form-is ∙ z) (ap Number v)

pub ruleset numbering = (tests, key-is, six-is, seven_is, digits_are, number-skipped, number-formed, number-broken, number_fits)

-- ---- a number looked up among the records of lines, for `search looks`: r is what the map answers

module _ (s : Section) (ls : List Line) (m : List ℕ) (w : Seen s ls m) where
  pub seen-mapped : Mapped m
  seen-mapped = record { count = w.count; chained = w.chained }

  module _ (k : ℕ) (r : Option ℕ) (e : Finds k m r) where
    pub seen-not : r ≡ None → false ≡ has_number k (numbers s ls)
    seen-not d = rw (← w.numbers_held) (sym (found_none k (numbers_in w.count m) r (e.among w.count w.chained) d))

    pub seen-there : (t : Bool) → t ≡ is_some r → t ≡ has_number k (numbers s ls)
    seen-there t q = rw (← w.numbers_held) (q ∙ ap is_some (e.among w.count w.chained) ∙ known-found k (numbers_in w.count m))

pub ruleset looks = (tests, seen-mapped, seen-there)

-- ---- the look-ups in the definitions' words, for `search knows`

pub map-seen : (s : Section) (f m : List ℕ) → MapOf s f m → Seen s (lines_of f) m
map-seen s f m w = record { count = w.count; chained = w.filled.chained; numbers_held = w.filled.numbers_held }

some-map : {X : Type 0} (t : ℕ → Bool) (key : X → ℕ) (xs : List X) → some_of t (map key xs) ≡ some_of (λ (x : X). t (key x)) xs
unfolding some_of
some-map t key [] = refl
some-map t key (x ∷ xs) = ap (λ (u : Bool). t (key x) || u) (some-map t key xs)

module _ (r : Bool) (k : ℕ) (ls : List Line) where
  pub has-field : r ≡ has_number k (numbers BitFields ls) → r ≡ has_field k (held_in bit_field_of ls)
  has-field e = e ∙ ap (has_number k) (field-numbers ls) ∙ some-map _ _ (held_in bit_field_of ls)

  pub has-stop : r ≡ has_number k (numbers Stops ls) → r ≡ has_stop k (held_in stop_of ls)
  has-stop e = e ∙ ap (has_number k) (stop-numbers ls) ∙ some-map _ _ (held_in stop_of ls)

  pub has-interchange : r ≡ has_number k (numbers Interchanges ls) → r ≡ has_interchange k (held_in interchange_of ls)
  has-interchange e = e ∙ ap (has_number k) (interchange-numbers ls) ∙ some-map _ _ (held_in interchange_of ls)

  pub has-class : r ≡ has_number k (numbers Classes ls) → r ≡ has_class k (held_in class_of ls)
  has-class e = e ∙ ap (has_number k) (class-numbers ls) ∙ some-map _ _ (held_in class_of ls)

pub ruleset knows = (tests, map-seen, has-field, has-stop)

-- ---- two maps in one slice: the parts that are handed on

-- all words from `split` on
pub own-part : (split : ℕ) (m : List ℕ) → take (length m - split) (drop split m) ≡ drop split m
own-part split m = take_all (length m - split) (drop split m) (omega (arith, length-drop split m))

module _ (s : Section) (p b : List ℕ) (split : ℕ) (m : List ℕ) (w : Reached s p b split m) where
  seen_as : (t : Section) → s ≡ t → Seen t (lines_of p) (take (length m - split) (drop split m))
  seen_as t e = rw (own-part, ← e) w.seen

  pub fields-seen : s ≡ BitFields → Seen BitFields (lines_of p) (take (length m - split) (drop split m))
  fields-seen e = seen_as BitFields e

  pub stops-seen : s ≡ Stops → Seen Stops (lines_of p) (take (length m - split) (drop split m))
  stops-seen e = seen_as Stops e

  pub interchanges-seen : s ≡ Interchanges → Seen Interchanges (lines_of p) (take (length m - split) (drop split m))
  interchanges-seen e = seen_as Interchanges e

  pub reached-stops : s ≡ Interchanges → MapOf Stops b (take (split - 0) (drop 0 m))
  reached-stops e = rw sub-zero (w.stops e)

pub ruleset reached = (fields-seen, stops-seen, interchanges-seen, reached-stops)
