-- ZUGART (document 02, No. 1): a line's class is at most 13 (`classes-sound`); a category of a service without an offence is listed (`services-listed`, from
-- 38), and what is listed has exactly one class, its own line's (`own_class`), so each leg of a walk's rows has (`rows-classed`). Assumes nothing.
use mathlib.Core.Path.{◌≡◌, refl, sym, ap, ◌∙◌, subst}
use mathlib.Core.List.{List, [], ◌∷◌, ◌++◌, map}
use mathlib.Core.Bool.{Bool, true, false, cond, ◌||◌}
use mathlib.Core.Option.{Option, none, some}
use Prim.Native.Nat.{ℕ, ◌+◌, ◌<◌, ◌≤◌}
use native.Mathlib.Omega.{arith}
use lib.ListN.{get_elem?}
use lib.Dec.{eqb}
use borrow.Author.Tests.{not-false, eqb-true, leb-true}
use Rattle.base.specs.Lists.{All, nil, cons, every, some_of, count_if, find, gathered}
use Rattle.base.proofs.Laws.{clash}
use Rattle.base.proofs.Loops.{and-true}
use Rattle.columns.specs.Columns.{columns, number, count}
use Rattle.forms.specs.Form.{form_of, Form, Fits, Broken}
use Rattle.forms.specs.Columns.{class_columns}
use Rattle.forms.proofs.Laws.{row-holds}
use Rattle.lines.specs.Lines.{Line, lines_of, skipped}
use Rattle.timetable.specs.Layout.{most_class}
use Rattle.timetable.specs.Delivery.{Files, CategoryClass, Legs, CategoryRange, Service, Delivery}
use Rattle.timetable.specs.Files.{Held, skip, broken, held, listed, held_in, held_by, held_offence, has_class, class_of, tariff_of, class_offence, classes_first}
use Rattle.timetable.specs.Plan.{three_bytes, told_in, as_range}
use Rattle.timetable.specs.Service.{calls_of, with_legs, legs_on, category_range, service_of}
use Rattle.timetable.specs.Legs.{covers}
use Rattle.timetable.specs.Checks.{category_listed, told_offence, own_offence}
use Rattle.timetable.specs.Load.{delivered}
use Rattle.timetable.specs.Table.{class_sound}
use Rattle.timetable.specs.View.{class_by, class_for}
use Rattle.timetable.specs.declared.Call.{Call}
use Rattle.timetable.specs.declared.Offence.{Offence}
use Rattle.timetable.specs.declared.RangeKind.{RangeKind}
use Rattle.timetable.specs.declared.RangeKind.TheVariants.{Category}
use Rattle.timetable.specs.declared.RangeLine.{RangeLine}
use Rattle.timetable.specs.declared.Told.{Told}
use Rattle.timetable.specs.declared.Told.TheVariants.{Skip, Other, Broken as BrokenLine, Opens, Ranges, Calls}
use Rattle.timetable.proofs.Offences.{then-none, given-none}
use Rattle.whole_runs.specs.Classes.{OwnClass}
use Rattle.whole_runs.specs.Rows.{row_word, Stretched}
use Rattle.whole_runs.proofs.Lists.{all_append, all_head, all-elem, every-all}
use Rattle.whole_runs.proofs.Parts.{all-part}
use Rattle.whole_runs.proofs.Clear.{first-keeps, held_more, all_said, Fair, Clear}
use Rattle.whole_runs.proofs.Once.{Unseen, class-unseen}
use Rattle.whole_runs.proofs.StopLines.{find-line, some-found}

-- ---- "class 5-6 (count to 13)"

abbrev Sound : CategoryClass → Type 0
Sound c = class_sound c ≡ true

class-line : (l : Line) → All Sound (listed (class_of l))
class-line l = go (skipped l.text) (form_of class_columns l.text) refl
  where
    go : (s : Bool) (t : Form) → form_of class_columns l.text ≡ t → All Sound (listed (cond s skip (held_by t (record { code = three_bytes 1 l.text; class = number (columns 5 6 l.text) }))))
    go true t e = nil
    go false Fits e = cons {x = record { code = three_bytes 1 l.text; class = number (columns 5 6 l.text) }} (and-true (count (columns 5 6 l.text)) _ (row-holds class_columns l.text 1 e)).1 nil
    go false (Broken c) e = nil

all-sound : (ls : List Line) → All Sound (held_in class_of ls)
unfolding held_in
all-sound [] = nil
all-sound (l ∷ ls) = all_append Sound (class-line l) (all-sound ls)

pub classes-sound : (ls : List Line) → every class_sound (held_in class_of ls) ≡ true
classes-sound ls = every-all class_sound (all-sound ls)

-- ---- 38: the categories of a service are listed

module _ (d : Delivery) where
  abbrev pub Listed : ℕ → Type 0
  Listed code = has_class code d.classes ≡ true

  abbrev LineListed : RangeLine → Type 0
  LineListed r = category_listed r.part r.name d.classes ≡ true

  category-one : (before : List Line) (line : ℕ) (t : Told) → told_offence d.fields d.stops d.classes before line t ≡ none → All LineListed (as_range t)
  category-one before line Skip e = nil
  category-one before line Other e = nil
  category-one before line (BrokenLine c) e = nil
  category-one before line (Opens o) e = nil
  category-one before line (Ranges r) e = cons {x = r} (not-false _ (given-none _ 38 line (then-none _ _ (then-none _ _ e).1).1)) nil
  category-one before line (Calls c) e = nil

  -- a range has its line's category
  with-name : (code : ℕ) → Listed code → (o : Option Legs) → All (λ (r : CategoryRange). Listed r.name) (with_legs (λ (x : Legs). record { name = code; legs = x }) o)
  with-name code h none = nil
  with-name code h (some g) = cons {x = record { name = code; legs = g }} h nil

  names_of : (cs : List Call) {rs : List RangeLine} → All (λ (r : RangeLine). LineListed r × (r.part ≡ Category)) rs → All (λ (r : CategoryRange). Listed r.name) (gathered (category_range cs) rs)
  unfolding gathered
  names_of cs nil = nil
  names_of cs (cons {x = r} h t) =
      all_append (λ (r : CategoryRange). Listed r.name)
      (with-name r.name (subst (λ (p : RangeKind). category_listed p r.name d.classes ≡ true) h.1 h.0) (legs_on cs r))
      (names_of cs t)

  -- of a service
  abbrev pub AllListed : Service → Type 0
  AllListed s = All (λ (r : CategoryRange). Listed r.name) s.categories

  block_listed : (ls : List Line) → Fair d ls → AllListed (service_of ls)
  unfolding service_of
  block_listed ls h =
      names_of (calls_of ls) (all-part LineListed Category ls
      (all_said LineListed as_range (own_offence d.fields d.stops d.classes) (λ before l o. category-one before l.no (told_in l.text) o) ls h.own))

  blocks-listed : {bs : List (List Line)} → All (Fair d) bs → All AllListed (map service_of bs)
  blocks-listed nil = nil
  blocks-listed (cons {x = b} h t) = cons (block_listed b h) (blocks-listed t)

pub services-listed : (f : Files) → Clear f → (i : ℕ) (s : Service) → get_elem? (delivered f).services i ≡ some s → AllListed (delivered f) s
unfolding delivered
services-listed f h i s e = all-elem (AllListed (delivered f)) (delivered f).services i s (blocks-listed (delivered f) h.services) e

-- ---- 6: a code stands once

module _ {X : Type 0} (p : X → Bool) where
  count-append : (xs ys : List X) → count_if p (xs ++ ys) ≡ count_if p xs + count_if p ys
  unfolding count_if
  count-append [] ys = omega arith
  count-append (x ∷ xs) ys = omega (arith, count-append xs ys)

  none-counted : (xs : List X) → some_of p xs ≡ false → count_if p xs ≡ 0
  unfolding count_if some_of
  none-counted [] e = refl
  none-counted (x ∷ xs) e = go (p x) e (none-counted xs)
    where
      go : (t : Bool) → t || some_of p xs ≡ false → (some_of p xs ≡ false → count_if p xs ≡ 0) → cond t 1 0 + count_if p xs ≡ 0
      go true e more = clash (sym e)
      go false e more = let h = more e in omega arith

  some-counted : (xs : List X) → some_of p xs ≡ true → 1 ≤ count_if p xs
  unfolding count_if some_of
  some-counted [] e = clash e
  some-counted (x ∷ xs) e = go (p x) e (some-counted xs)
    where
      go : (t : Bool) → t || some_of p xs ≡ true → (some_of p xs ≡ true → 1 ≤ count_if p xs) → 1 ≤ cond t 1 0 + count_if p xs
      go true e more = omega arith
      go false e more = let h = more e in omega arith

  pub counted-some : (xs : List X) → 1 ≤ count_if p xs → some_of p xs ≡ true
  unfolding count_if some_of
  counted-some [] h = absurd (omega arith)
  counted-some (x ∷ xs) h = go (p x) h (counted-some xs)
    where
      go : (t : Bool) → 1 ≤ cond t 1 0 + count_if p xs → (1 ≤ count_if p xs → some_of p xs ≡ true) → t || some_of p xs ≡ true
      go true h more = refl
      go false h more = more (omega arith)

abbrev has : ℕ → CategoryClass → Bool
has code c = eqb c.code code

abbrev Once : List CategoryClass → Type 0
Once xs = (code : ℕ) → count_if (has code) xs ≤ 1

once_more : (xs : List CategoryClass) (h : Held CategoryClass) → Once xs → All (λ (c : CategoryClass). Unseen (λ (y : CategoryClass). y.code) xs c.code) (listed h) → Once (xs ++ listed h)
unfolding count_if
once_more xs skip o u code = let a = count-append (has code) xs [] in let h = o code in omega arith
once_more xs (broken c) o u code = let a = count-append (has code) xs [] in let h = o code in omega arith
once_more xs (held x) o (cons e t) code = go (eqb x.code code) refl
  where
    go : (t : Bool) → eqb x.code code ≡ t → count_if (has code) (xs ++ (x ∷ [])) ≤ 1
    go true q =
        let z : count_if (has code) xs ≡ 0 = none-counted (has code) xs (subst (λ (n : ℕ). some_of (has n) xs ≡ false) (eqb-true x.code code q) e) in
        let y : ◌≡◌ {A = ℕ} (cond (eqb x.code code) 1 0) 1 = rw q refl in
        omega (arith, count-append (has code) xs (x ∷ []), z, y)
    go false q =
        let y : ◌≡◌ {A = ℕ} (cond (eqb x.code code) 1 0) 0 = rw q refl in
        omega (arith, count-append (has code) xs (x ∷ []), o code, y)

codes-once : (ls : List Line) → classes_first ls ≡ none → Once (held_in class_of ls)
unfolding classes_first held_in count_if
codes-once ls e =
    first-keeps _ (λ (b : List Line). Once (held_in class_of b))
    (λ before l o h. subst Once (sym (held_more class_of before l)) (once_more (held_in class_of before) (class_of l) h (class-unseen l.no l.text (held_in class_of before) (held_in tariff_of before) (class_of l) o)))
    ls e (λ code. omega arith)

-- ---- what is listed has its own line's class

pub own_class : (f : Files) → Clear f → (code : ℕ) → Listed (delivered f) code → OwnClass f code
unfolding delivered class_for
own_class f h code k =
    let (x, found) = some-found class_of (has code) (delivered f).classes k in
    let on = find-line class_of (has code) (lines_of f.zugart) x found in
    let sound = all_head Sound (subst (λ (h : Held CategoryClass). All Sound (listed h)) on.holds (class-line on.line)) in
    record {
      index = on.index;
      line = on.line;
      there = on.there;
      class = x.class;
      holds = on.holds ∙ ap (λ (n : ℕ). held (record { code = n; class = x.class })) (eqb-true x.code code on.fits);
      once = let a = codes-once (lines_of f.zugart) h.classes code in let b = some-counted (has code) (delivered f).classes k in omega arith;
      is = ap class_by found;
      most = leb-true x.class most_class sound;
    }

-- ---- of the rows of a walk

-- the one that passes a test says what every one may say
one_of_all : {X : Type 0} (P : ℕ → Type 0) (p : X → Bool) (say : X → ℕ) (u : ℕ) (xs : List X) → count_if p xs ≡ 1 → All (λ x. p x ≡ true → u ≡ say x) xs → All (λ x. P (say x)) xs → P u
unfolding count_if
one_of_all P p say u [] e g h = absurd (omega arith)
one_of_all P p say u (x ∷ xs) e (cons a g) (cons b h) = go (p x) refl e (λ e. one_of_all P p say u xs e g h)
  where
    go : (t : Bool) → p x ≡ t → cond t 1 0 + count_if p xs ≡ 1 → (count_if p xs ≡ 1 → P u) → P u
    go true q e more = subst P (sym (a q)) b
    go false q e more = more (omega (arith, e))

pub rows-classed : (f : Files) → Clear f → (s : Service) → AllListed (delivered f) s → {r k : ℕ} {ws : List ℕ} (x : Stretched (delivered f) s r k ws) (q : ℕ) → q < x.legs → OwnClass f (row_word ws q 7)
rows-classed f h s all {ws = ws} x q l =
    let y = x.row q (omega arith) in
    own_class f h (row_word ws q 7)
    (one_of_all (Listed (delivered f)) (λ (g : CategoryRange). covers (x.start + q) g.legs) (λ (g : CategoryRange). g.name) (row_word ws q 7) s.categories (y.one_category l) (y.category l) all)
