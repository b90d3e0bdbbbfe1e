-- What lines hold, by what each of them has for a number: the numbers of a section are those of its records. Assumes nothing.
use mathlib.Core.Path.{◌≡◌, refl, ap, sym}
use mathlib.Core.List.{List, [], ◌∷◌, ◌++◌, map}
use mathlib.Core.Bool.{Bool, true, false, cond}
use mathlib.Core.Option.{Option}
use Prim.Native.Nat.{ℕ, ◌-◌, ◌≤◌}
use native.Mathlib.Omega.{arith}
use lib.ListN.{length, take, drop, length-append}
use Rattle.base.specs.Lists.{every, gathered}
use Rattle.lines.specs.Lines.{Line, skipped, lines_of}
use Rattle.lines.proofs.Laws.{lines-le}
use Rattle.forms.specs.Form.{form_of, Form, Fits, Broken as BrokenForm}
use Rattle.forms.specs.Columns.{bit_field_columns, stop_columns, interchange_columns, class_columns}
use Rattle.timetable.specs.Delivery.{BitField, StopRecord, Interchange, CategoryClass}
use Rattle.timetable.specs.Files.{Held, skip, broken, held, listed, held_in, held_by, held_offence, bit_field_of, stop_of, interchange_of, class_of}
use Rattle.timetable.specs.declared.Offence.{Offence}
use Rattle.sections.specs.Inner.Sections.{numbered_by, number_on, as_number, numbers, numbered_offence}
use Rattle.sections.specs.declared.Section.{Section}
use Rattle.sections.specs.declared.Section.TheVariants.{BitFields, Stops, Interchanges, Classes}
use Rattle.sections.specs.declared.Numbered.TheVariants.{Skipped}

-- ---- what lines hold

module _ {X : Type 0} (f : Line → Held X) where
  pub held-gathered : (ls : List Line) → held_in f ls ≡ gathered (λ (l : Line). listed (f l)) ls
  unfolding held_in gathered
  held-gathered [] = refl
  held-gathered (l ∷ ls) = ap (λ r. listed (f l) ++ r) (held-gathered ls)

  listed_le : (h : Held X) → length (listed h) ≤ 1
  listed_le skip = omega arith
  listed_le (broken c) = omega arith
  listed_le (held x) = omega arith

  -- no more records than lines
  pub held-le : (ls : List Line) → length (held_in f ls) ≤ length ls
  unfolding held_in
  held-le [] = omega arith
  held-le (l ∷ ls) = omega (arith, length-append (listed (f l)) (held_in f ls), listed_le (f l), held-le ls)

  -- nor more than bytes
  pub held-file : (s : List ℕ) → length (held_in f (lines_of s)) ≤ length s
  held-file s = omega (arith, held-le (lines_of s), lines-le 1 0 s)

-- ---- a line by what it has for a number: t is whether it is skipped, g its form

-- 4, then the record's own: by its number k, where that says as much as the record x
pub by_number : {X : Type 0} (off : X → Option Offence) (own : ℕ → Option Offence) (line : ℕ) (t : Bool) (g : Form) (x : X) (k : ℕ) → off x ≡ own k
    → held_offence off line (cond t skip (held_by g x)) ≡ numbered_offence own line (cond t Skipped (numbered_by g k))
by_number off own line true g x k e = refl
by_number off own line false Fits x k e = e
by_number off own line false (BrokenForm c) x k e = refl

-- a line that is skipped has none
pub skipped-number : (s : Section) (text : List ℕ) → skipped text ≡ true → Skipped ≡ number_on s text
unfolding number_on
skipped-number s text e = sym (rw e refl)

-- an empty line, as it stands in its file
pub empty-skipped : (s : Section) (f : List ℕ) (at : ℕ) → Skipped ≡ number_on s (take (at - at) (drop at f))
unfolding number_on skipped every
empty-skipped s f at = let e : at - at ≡ 0 = omega arith in rw e refl

pub map-append : {X Y : Type 0} (f : X → Y) (a b : List X) → map f (a ++ b) ≡ map f a ++ map f b
map-append f [] b = refl
map-append f (x ∷ a) b = ap (λ r. f x ∷ r) (map-append f a b)

module _ {X : Type 0} (key : X → ℕ) where
  one_number : (t : Bool) (g : Form) (x : X) → as_number (cond t Skipped (numbered_by g (key x))) ≡ map key (listed (cond t skip (held_by g x)))
  one_number true g x = refl
  one_number false Fits x = refl
  one_number false (BrokenForm c) x = refl

  section-numbers : (s : Section) (f : Line → Held X) → ((l : Line) → as_number (number_on s l.text) ≡ map key (listed (f l))) → (ls : List Line) → numbers s ls ≡ map key (held_in f ls)
  unfolding numbers gathered held_in
  section-numbers s f e [] = refl
  section-numbers s f e (l ∷ ls) = rw (e l, section-numbers s f e ls) (sym (map-append key (listed (f l)) (held_in f ls)))

-- the sections' keys, and that they are in the columns of the number
module _ (ls : List Line) where
  pub field-numbers : numbers BitFields ls ≡ map (λ (b : BitField). b.number) (held_in bit_field_of ls)
  unfolding number_on
  field-numbers = section-numbers _ BitFields bit_field_of (λ l. one_number (λ (b : BitField). b.number) (skipped l.text) (form_of bit_field_columns l.text) _) ls

  pub stop-numbers : numbers Stops ls ≡ map (λ (s : StopRecord). s.number) (held_in stop_of ls)
  unfolding number_on
  stop-numbers = section-numbers _ Stops stop_of (λ l. one_number (λ (s : StopRecord). s.number) (skipped l.text) (form_of stop_columns l.text) _) ls

  pub interchange-numbers : numbers Interchanges ls ≡ map (λ (c : Interchange). c.number) (held_in interchange_of ls)
  unfolding number_on
  interchange-numbers = section-numbers _ Interchanges interchange_of (λ l. one_number (λ (c : Interchange). c.number) (skipped l.text) (form_of interchange_columns l.text) _) ls

  pub class-numbers : numbers Classes ls ≡ map (λ (c : CategoryClass). c.code) (held_in class_of ls)
  unfolding number_on
  class-numbers = section-numbers _ Classes class_of (λ l. one_number (λ (c : CategoryClass). c.code) (skipped l.text) (form_of class_columns l.text) _) ls
