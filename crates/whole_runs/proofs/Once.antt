-- "6 number seen earlier in the same file": in an accepted delivery no number stands twice in BITFELD, BAHNHOF or UMSTEIGB and no code in ZUGART, so the first match is the
-- only one, and what is looked up by a line's number is that line's own. Assumes nothing.
use mathlib.Core.Path.{◌≡◌, refl, sym, ap, ◌∙◌, subst}
use mathlib.Core.List.{List, [], ◌∷◌, ◌++◌, append-nil}
use mathlib.Core.Bool.{Bool, true, false, cond, ◌||◌}
use mathlib.Core.Option.{Option, none, some}
use Prim.Native.Nat.{ℕ}
use lib.Dec.{eqb}
use borrow.Author.Tests.{eq-eqb}
use Rattle.base.specs.Lists.{All, nil, cons, some_of, find}
use Rattle.base.proofs.Laws.{apart, clash}
use Rattle.bitfield.specs.BitField.{runs_on}
use Rattle.lines.specs.Lines.{Line, lines_of}
use Rattle.timetable.specs.Delivery.{Files, BitField, StopRecord, Interchange, CategoryClass}
use Rattle.timetable.specs.Offences.{first}
use Rattle.timetable.specs.Files.{Held, skip, broken, held, listed, held_in, held_offence, bit_field_of, bit_field_offence, bit_fields_first, stop_of, named_stop_offence, stops_first, has_interchange, interchange_of, interchange_offence, interchanges_first, class_of, tariff_of, class_offence, classes_first}
use Rattle.timetable.specs.Legs.{field_runs}
use Rattle.timetable.specs.Load.{delivered}
use Rattle.timetable.specs.View.{interchange_by, interchange_at_stop}
use Rattle.timetable.specs.declared.Offence.{Offence}
use Rattle.timetable.proofs.Offences.{then-none, given-none}
use Rattle.whole_runs.proofs.Lists.{all_append, all-to}
use Rattle.whole_runs.proofs.Clear.{first-keeps, held_more, Clear}

-- ---- records with a number each

-- what is found stays found as more follow
module _ {X : Type 0} (p : X → Bool) where
  find-more : (g : X) (xs ys : List X) → find p xs ≡ some g → find p (xs ++ ys) ≡ some g
  unfolding find
  find-more g [] ys e = apart (cc)
  find-more g (x ∷ xs) ys e = go (p x) e (find-more g xs ys)
    where
      go : (t : Bool) → cond t (some x) (find p xs) ≡ some g → (find p xs ≡ some g → find p (xs ++ ys) ≡ some g) → cond t (some x) (find p (xs ++ ys)) ≡ some g
      go true e more = e
      go false e more = more e

  find_past : (xs ys : List X) → some_of p xs ≡ false → find p (xs ++ ys) ≡ find p ys
  unfolding find some_of
  find_past [] ys e = refl
  find_past (x ∷ xs) ys e = go (p x) e (find_past xs ys)
    where
      go : (t : Bool) → t || some_of p xs ≡ false → (some_of p xs ≡ false → find p (xs ++ ys) ≡ find p ys) → cond t (some x) (find p (xs ++ ys)) ≡ find p ys
      go true e more = clash (sym e)
      go false e more = more e

-- what holds of all that a line without offence holds, holds of all that the lines hold
all_held : {X : Type 0} (ok : X → Type 0) (hold : Line → Held X) (off : List Line → Line → Option Offence) → ((before : List Line) (l : Line) → off before l ≡ none → All ok (listed (hold l)))
    → (ls : List Line) → first off [] ls ≡ none → All ok (held_in hold ls)
unfolding held_in
all_held ok hold off one ls e =
    first-keeps off (λ (b : List Line). All ok (held_in hold b))
    (λ before l o h. subst (All ok) (sym (held_more hold before l)) (all_append ok h (one before l o)))
    ls e nil

module _ {X : Type 0} (number : X → ℕ) where
  -- the first of its number is itself
  abbrev pub Own : List X → X → Type 0
  Own all x = find (λ (y : X). eqb (number y) (number x)) all ≡ some x

  -- none of some records has a number
  abbrev pub Unseen : List X → ℕ → Type 0
  Unseen xs n = some_of (λ (y : X). eqb (number y) n) xs ≡ false

  alone : (x : X) → Own (x ∷ []) x
  unfolding find
  alone x = rw (eq-eqb (number x) (number x) refl)

  own-more : (xs : List X) (x : X) → All (Own xs) xs → Unseen xs (number x) → All (Own (xs ++ (x ∷ []))) (xs ++ (x ∷ []))
  own-more xs x h e =
      all_append (Own (xs ++ (x ∷ [])))
      (all-to (Own xs) (Own (xs ++ (x ∷ []))) (λ y a. find-more (λ (z : X). eqb (number z) (number y)) y xs (x ∷ []) a) xs h)
      (cons {x = x} (find_past (λ (y : X). eqb (number y) (number x)) xs (x ∷ []) e ∙ alone x) nil)

  own-listed : (xs : List X) (h : Held X) → All (Own xs) xs → All (λ (x : X). Unseen xs (number x)) (listed h) → All (Own (xs ++ listed h)) (xs ++ listed h)
  own-listed xs skip a u = rw append-nil a
  own-listed xs (broken c) a u = rw append-nil a
  own-listed xs (held x) a (cons e t) = own-more xs x a e

  own_held : (hold : Line → Held X) (off : List Line → Line → Option Offence) → ((before : List Line) (l : Line) → off before l ≡ none → All (λ (x : X). Unseen (held_in hold before) (number x)) (listed (hold l)))
      → (ls : List Line) → first off [] ls ≡ none → All (Own (held_in hold ls)) (held_in hold ls)
  unfolding held_in
  own_held hold off one ls e =
      first-keeps off (λ (b : List Line). All (Own (held_in hold b)) (held_in hold b))
      (λ before l o h. subst (λ (r : List X). All (Own r) r) (sym (held_more hold before l)) (own-listed (held_in hold before) (hold l) h (one before l o)))
      ls e nil

-- ---- 2 BITFELD

module _ (n line : ℕ) (earlier : List BitField) where
  field-unseen : (h : Held BitField) → held_offence (bit_field_offence n earlier line) line h ≡ none → All (λ (b : BitField). Unseen (λ (y : BitField). y.number) earlier b.number) (listed h)
  field-unseen skip e = nil
  field-unseen (broken c) e = nil
  field-unseen (held f) e = cons {x = f} (given-none _ 6 line (then-none _ _ (then-none _ _ e).1).0) nil

  field-not-0 : (h : Held BitField) → held_offence (bit_field_offence n earlier line) line h ≡ none → All (λ (b : BitField). eqb b.number 0 ≡ false) (listed h)
  field-not-0 skip e = nil
  field-not-0 (broken c) e = nil
  field-not-0 (held f) e = cons {x = f} (given-none _ 7 line (then-none _ _ e).0) nil

field-runs : (all : List BitField) (k : ℕ) {xs : List BitField} → All (Own (λ (y : BitField). y.number) all) xs → All (λ (b : BitField). eqb b.number 0 ≡ false) xs
    → All (λ (b : BitField). field_runs all b.number k ≡ runs_on b.words k) xs
unfolding field_runs
field-runs all k nil nil = nil
field-runs all k (cons {x = b} p q) (cons u v) = cons {x = b} (rw (u, p)) (field-runs all k q v)

-- a bit field's number runs on the days of that very line's bits
pub fields-run : (f : Files) → Clear f → (k : ℕ) → All (λ (b : BitField). field_runs (delivered f).fields b.number k ≡ runs_on b.words k) (delivered f).fields
unfolding delivered bit_fields_first
fields-run f h k =
    field-runs (delivered f).fields k
    (own_held (λ (y : BitField). y.number) bit_field_of _ (λ before l o. field-unseen _ l.no (held_in bit_field_of before) (bit_field_of l) o) (lines_of f.bitfeld) h.fields)
    (all_held _ bit_field_of _ (λ before l o. field-not-0 _ l.no (held_in bit_field_of before) (bit_field_of l) o) (lines_of f.bitfeld) h.fields)

-- ---- 3 BAHNHOF

stop-unseen : (line : ℕ) (text : List ℕ) (earlier : List StopRecord) (h : Held StopRecord) → held_offence (named_stop_offence earlier line text) line h ≡ none → All (λ (s : StopRecord). Unseen (λ (y : StopRecord). y.number) earlier s.number) (listed h)
stop-unseen line text earlier skip e = nil
stop-unseen line text earlier (broken c) e = nil
stop-unseen line text earlier (held s) e = cons {x = s} (given-none _ 6 line (then-none _ _ (then-none _ _ e).1).1) nil

pub stops-own : (f : Files) → Clear f → All (Own (λ (y : StopRecord). y.number) (delivered f).stops) (delivered f).stops
unfolding delivered stops_first
stops-own f h = own_held (λ (y : StopRecord). y.number) stop_of _ (λ before l o. stop-unseen l.no l.text (held_in stop_of before) (stop_of l) o) (lines_of f.bahnhof) h.stops

-- ---- 4 UMSTEIGB

module _ (stops : List StopRecord) (line : ℕ) where
  record-unseen : (earlier : List Interchange) (c : Interchange) → interchange_offence stops earlier line c ≡ none → Unseen (λ (y : Interchange). y.number) earlier c.number
  unfolding some_of
  record-unseen [] c e = refl
  record-unseen (x ∷ earlier) c e = given-none (has_interchange c.number (x ∷ earlier)) 6 line (then-none _ _ e).0

  interchange-unseen : (earlier : List Interchange) (h : Held Interchange) → held_offence (interchange_offence stops earlier line) line h ≡ none → All (λ (c : Interchange). Unseen (λ (y : Interchange). y.number) earlier c.number) (listed h)
  interchange-unseen earlier skip e = nil
  interchange-unseen earlier (broken c) e = nil
  interchange-unseen earlier (held c) e = cons {x = c} (record-unseen earlier c e) nil

pub interchanges-own : (f : Files) → Clear f → All (Own (λ (y : Interchange). y.number) (delivered f).interchanges) (delivered f).interchanges
unfolding delivered interchanges_first
interchanges-own f h = own_held (λ (y : Interchange). y.number) interchange_of _ (λ before l o. interchange-unseen _ l.no (held_in interchange_of before) (interchange_of l) o) (lines_of f.umsteigb) (then-none _ _ h.interchanges).0

-- the record at a stop that has one is that very line's
pub interchanges-at : (f : Files) → Clear f → All (λ (x : Interchange). interchange_at_stop (delivered f) x.number ≡ x) (delivered f).interchanges
unfolding interchange_at_stop
interchanges-at f h =
    all-to (Own (λ (y : Interchange). y.number) (delivered f).interchanges) (λ (x : Interchange). interchange_at_stop (delivered f) x.number ≡ x)
    (λ x e. ap (λ (o : Option Interchange). interchange_by o (delivered f).interchanges) e)
    (delivered f).interchanges (interchanges-own f h)

-- ---- 6 ZUGART (document 02, No. 1)

pub class-unseen : (line : ℕ) (text : List ℕ) (earlier : List CategoryClass) (tariffs : List Bool) (h : Held CategoryClass) → held_offence (class_offence earlier tariffs line text) line h ≡ none → All (λ (c : CategoryClass). Unseen (λ (y : CategoryClass). y.code) earlier c.code) (listed h)
class-unseen line text earlier tariffs skip e = nil
class-unseen line text earlier tariffs (broken c) e = nil
class-unseen line text earlier tariffs (held c) e = cons {x = c} (given-none _ 6 line (then-none _ _ e).0) nil

pub classes-own : (f : Files) → Clear f → All (Own (λ (y : CategoryClass). y.code) (delivered f).classes) (delivered f).classes
unfolding delivered classes_first
classes-own f h = own_held (λ (y : CategoryClass). y.code) class_of _ (λ before l o. class-unseen l.no l.text (held_in class_of before) (held_in tariff_of before) (class_of l) o) (lines_of f.zugart) h.classes
