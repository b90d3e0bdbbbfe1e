-- For proofs/StopNames: a line is a part of its file (`lines-parts`), the name in a line's columns is a part of the file too (`name-is`, `name-there`), and what
-- is found among the records stands on a line without an offence (`find-line`, `each_none`, `line-named`). Assumes nothing.
use mathlib.Core.Path.{◌≡◌, refl, sym, ap, ◌∙◌, subst}
use mathlib.Core.List.{List, [], ◌∷◌, ◌++◌}
use mathlib.Core.Bool.{Bool, true, false, cond, ◌||◌}
use mathlib.Core.Option.{Option, none, some}
use Prim.Native.Nat.{ℕ, zero, suc, ◌+◌, ◌-◌, ◌≤◌, ◌<◌}
use native.Mathlib.Nat.{sub-zero}
use native.Mathlib.Omega.{arith}
use lib.ListN.{length, take, drop, get_elem?, length-take, length-drop}
use lib.Seq.{take-take, drop-drop, length-take-le}
use borrow.Author.Tests.{le-leb, not-false}
use Rattle.std.specs.Prelude.{Ok}
use Rattle.base.specs.Lists.{All, nil, cons, some_of, find}
use Rattle.base.proofs.Laws.{apart, clash, by-ltb}
use Rattle.columns.specs.Columns.{columns}
use Rattle.columns.proofs.Laws.{length-columns}
use Rattle.forms.specs.Form.{Form, Fits, Broken}
use Rattle.lines.specs.Lines.{Line, lines_from, lines_of, cut_at}
use Rattle.lines.proofs.Laws.{cutting, lines_none}
use Rattle.names.specs.Names.{is_name_list, name_for}
use Rattle.names.specs.declared.Name.{Name}
use Rattle.names.specs.declared.Wanted.{Wanted}
use Rattle.names.proofs.Inside.{answer-is-part}
use Rattle.timetable.specs.Delivery.{StopRecord}
use Rattle.timetable.specs.Offences.{first}
use Rattle.timetable.specs.Files.{Held, skip, broken, held, listed, held_in, held_by, held_offence, stop_of, named_stop_offence, stop_line_offence}
use Rattle.names.specs.NameField.{name_length, name_field}
use Rattle.timetable.specs.StopNames.{name_within}
use Rattle.timetable.specs.declared.Offence.{Offence}
use Rattle.timetable.proofs.Offences.{then-none, given-none, first-none}
use Rattle.names.proofs.NameField.{name-inside, name-bytes}

-- ---- a part of a part

part-take : (k m n : ℕ) (x : List ℕ) → m + k ≤ n → take k (drop m (take n x)) ≡ take k (drop m x)
part-take k zero n x h = take-take k n x (omega arith)
part-take k (suc m) zero x h = absurd (omega arith)
part-take k (suc m) (suc n) [] h = refl
part-take k (suc m) (suc n) (b ∷ x) h = part-take k m n x (omega arith)

pub part-part : (k m n o : ℕ) (x : List ℕ) → m + k ≤ n → take k (drop m (take n (drop o x))) ≡ take k (drop (o + m) x)
part-part k m n o x h = part-take k m n (drop o x) h ∙ ap (take k) (drop-drop m o x)

-- ---- a line is a part of its file

abbrev pub PartOf : List ℕ → Line → Type 0
PartOf f l = (l.start + length l.text ≤ length f) × (take (length l.text) (drop l.start f) ≡ l.text)

-- the line at a place, and what is so of the lines after it
one-part : (f : List ℕ) (at n : ℕ) → at < length f → All (PartOf f) (lines_from (cut_at f at n).no (cut_at f at n).next (drop (cut_at f at n).next f)) → All (PartOf f) (lines_from n at (drop at f))
one-part f at n k rest =
    let r = cut_at f at n in
    let c = cutting f at n r k refl in
    let low = c.low in
    let high = c.high in
    let long : length (take (r.stop - at) (drop at f)) ≡ r.stop - at = length-take-le (r.stop - at) (drop at f) (omega (arith, length-drop at f)) in
    subst (All (PartOf f)) (sym c.step) (cons {x = record { no = n; start = at; text = take (r.stop - at) (drop at f) }} (omega (arith, long), rw long refl) rest)

parts_from : (f : List ℕ) (left at n : ℕ) → length f ≤ at + left → All (PartOf f) (lines_from n at (drop at f))
parts_from f zero at n h = subst (All (PartOf f)) (sym (lines_none f at n (omega arith))) nil
parts_from f (suc left) at n h =
    by-ltb (λ (t : Bool). All (PartOf f) (lines_from n at (drop at f))) at (length f)
    (λ k. one-part f at n k (parts_from f left (cut_at f at n).next (cut_at f at n).no (let past = (cutting f at n (cut_at f at n) k refl).past in omega arith)))
    (λ k. subst (All (PartOf f)) (sym (lines_none f at n k)) nil)

pub lines-parts : (f : List ℕ) → All (PartOf f) (lines_of f)
lines-parts f = parts_from f (length f) 0 1 (omega arith)

-- ---- the name of one line

module _ (b : List ℕ) (l : Line) (part : PartOf b l) (w : Wanted) (n : Name) (e : name_for w (name_field l.text) ≡ some n) where
  abbrev size : ℕ
  size = name_length (columns 13 62 l.text)

  abbrev field : List ℕ
  field = take 50 (drop 12 l.text)

  size-le : size ≤ length field
  size-le = name-inside l.text field size refl refl

  pub few : size ≤ 50
  few = omega (arith, size-le, length-take 50 (drop 12 l.text))

  field_is : take size (drop 12 l.text) ≡ name_field l.text
  field_is = sym (take-take size 50 (drop 12 l.text) few) ∙ (rw sub-zero at (name-bytes l.text field size refl refl))

  field-long : length (name_field l.text) ≡ size
  field-long = length-take-le size (columns 13 62 l.text) (omega (arith, few, length-columns 13 62 l.text))

  -- the name ends where the field ends, or before, and is not empty
  pub name-end : n.place + n.size ≤ size
  name-end = omega (arith, (answer-is-part (name_field l.text) w n e).inside, field-long)

  name-some : 0 < n.size
  name-some = omega (arith, (answer-is-part (name_field l.text) w n e).name.filled, length-take n.size (drop n.place (name_field l.text)))

  pub in-text : 12 + size ≤ length l.text
  in-text = omega (arith, name-end, name-some, size-le, length-take 50 (drop 12 l.text), length-drop 12 l.text)

  bytes-are : take size (drop (l.start + 12) b) ≡ name_field l.text
  bytes-are = sym (part-part size 12 (length l.text) l.start b in-text) ∙ ap (λ (x : List ℕ). take size (drop 12 x)) part.1 ∙ field_is

  pub name-is : (number : ℕ) → name_within b w (record { number = number; offset = l.start + 12; size = size }) ≡ Ok (record { start = l.start + 12 + n.place; size = n.size })
  name-is number =
      let inside : l.start + 12 + size ≤ length b = omega (arith, part.0, in-text) in
      rw (le-leb (l.start + 12 + size) (length b) inside, bytes-are, e)

  pub name-there : take n.size (drop (l.start + 12 + n.place) b) ≡ take n.size (drop (12 + n.place) l.text)
  name-there =
      let h : 12 + n.place + n.size ≤ length l.text = omega (arith, name-end, in-text) in
      let z : l.start + 12 + n.place ≡ l.start + (12 + n.place) = omega arith in
      ap (λ (x : ℕ). take n.size (drop x b)) z ∙ sym (part-part n.size (12 + n.place) (length l.text) l.start b h) ∙ ap (λ (x : List ℕ). take n.size (drop (12 + n.place) x)) part.1

-- ---- the line of a stop

-- what is found stands on a line
pub record FoundOn {X : Type 0} (hold : Line → Held X) (p : X → Bool) (ls : List Line) (x : X) : Type 0 where
  pub index : ℕ
  pub line : Line
  pub there : get_elem? ls index ≡ some line
  pub holds : hold line ≡ held x
  pub fits : p x ≡ true

module _ {X : Type 0} (hold : Line → Held X) (p : X → Bool) where
  later : (l : Line) (ls : List Line) (x : X) → FoundOn hold p ls x → FoundOn hold p (l ∷ ls) x
  later l ls x f = record { index = suc f.index; line = f.line; there = f.there; holds = f.holds; fits = f.fits }

  pub find-line : (ls : List Line) (x : X) → find p (held_in hold ls) ≡ some x → FoundOn hold p ls x
  unfolding held_in find
  find-line [] x e = apart (cc)
  find-line (l ∷ ls) x e = go (hold l) refl e (find-line ls x)
    where
      pick : (y : X) → hold l ≡ held y → (t : Bool) → p y ≡ t → cond t (some y) (find p (held_in hold ls)) ≡ some x → (find p (held_in hold ls) ≡ some x → FoundOn hold p ls x) → FoundOn hold p (l ∷ ls) x
      pick y q true z k more =
          let same : y ≡ x = cc in
          record { index = 0; line = l; there = refl; holds = q ∙ ap held same; fits = sym (ap p same) ∙ z }
      pick y q false z k more = later l ls x (more k)

      go : (h : Held X) → hold l ≡ h → find p (listed h ++ held_in hold ls) ≡ some x → (find p (held_in hold ls) ≡ some x → FoundOn hold p ls x) → FoundOn hold p (l ∷ ls) x
      go skip q k more = later l ls x (more k)
      go (broken c) q k more = later l ls x (more k)
      go (held y) q k more = pick y q (p y) refl k more

  pub some-found : (xs : List X) → some_of p xs ≡ true → (x : X) × (find p xs ≡ some x)
  unfolding some_of find
  some-found [] e = clash e
  some-found (y ∷ xs) e = go (p y) e (some-found xs)
    where
      go : (t : Bool) → t || some_of p xs ≡ true → (some_of p xs ≡ true → (x : X) × (find p xs ≡ some x)) → (x : X) × (cond t (some y) (find p xs) ≡ some x)
      go true e more = (y, refl)
      go false e more = more e

pub none_found : {X : Type 0} (p : X → Bool) (xs : List X) → some_of p xs ≡ false → find p xs ≡ none
unfolding some_of find
none_found p [] e = refl
none_found p (y ∷ xs) e = go (p y) e (none_found p xs)
  where
    go : (t : Bool) → t || some_of p xs ≡ false → (some_of p xs ≡ false → find p xs ≡ none) → cond t (some y) (find p xs) ≡ none
    go true e more = clash (sym e)
    go false e more = more e

-- no line of them has an offence
pub each_none : (off : List Line → Line → Option Offence) (before ls : List Line) → first off before ls ≡ none → All (λ (l : Line). (b : List Line) × (off b l ≡ none)) ls
each_none off before [] e = nil
each_none off before (l ∷ ls) e =
    let n = first-none off before l ls e in
    cons {x = l} (before, n.0) (each_none off (before ++ (l ∷ [])) ls n.1)

pub held-is : {X : Type 0} (t : Bool) (g : Form) (x s : X) → cond t skip (held_by g x) ≡ held s → x ≡ s
held-is true g x s e = apart (cc)
held-is false Fits x s e = cc
held-is false (Broken c) x s e = apart (cc)

-- 39
pub line-named : (before : List Line) (l : Line) (s : StopRecord) → stop_line_offence before l ≡ none → stop_of l ≡ held s → is_name_list (name_field l.text) ≡ true
line-named before l s o h =
    let z : named_stop_offence (held_in stop_of before) l.no l.text s ≡ none = sym (ap (held_offence (named_stop_offence (held_in stop_of before) l.no l.text) l.no) h) ∙ o in
    not-false _ (given-none _ 39 l.no (then-none _ _ z).0)
