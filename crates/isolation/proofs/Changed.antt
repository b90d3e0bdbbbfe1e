-- What the lines of a changed delivery hold: the same, with every bit field number changed. Assumes nothing.
use mathlib.Core.Path.{◌≡◌, refl, sym, ap, ◌∙◌}
use mathlib.Core.List.{List, [], ◌∷◌, ◌++◌, map}
use mathlib.Core.Bool.{Bool, true, false, cond}
use mathlib.Core.Option.{Option, none, some}
use Prim.Native.Nat.{ℕ, ◌<◌}
use lib.Dec.{eqb}
use Rattle.base.specs.Lists.{some_of, find, gathered}
use Rattle.lines.specs.Lines.{Line, skipped}
use Rattle.timetable.specs.Delivery.{BitField, Legs}
use Rattle.timetable.specs.Files.{Held, skip, broken, held, listed, held_in, bit_field_of, has_field}
use Rattle.timetable.specs.Legs.{runs_by, field_runs}
use Rattle.timetable.specs.Plan.{is_opening, opens_service, told_in, tolds, as_call, as_opening, as_range, ranges_of, is_part, of_part, part_lines, said_on}
use Rattle.timetable.specs.Service.{first_line, opening_of, called_on, calls_of, with_legs, legs_on, category_range, day_range, extra_range, service_of}
use Rattle.timetable.specs.declared.Call.{Call}
use Rattle.timetable.specs.declared.RangeKind.{RangeKind}
use Rattle.timetable.specs.declared.RangeKind.TheVariants.{Category, Days, Extra}
use Rattle.timetable.specs.declared.RangeLine.{RangeLine}
use Rattle.timetable.specs.declared.Told.{Told}
use Rattle.timetable.specs.declared.Told.TheVariants.{Skip, Other, Broken, Opens, Ranges, Calls}
use Rattle.isolation.specs.Rename.{field_line, plan_line}
use Rattle.isolation.proofs.Lines.{map-append}
use Rattle.isolation.proofs.Days.{day_for, extra_for, service_for, Knows}
use Rattle.isolation.proofs.Each.{on_text}
use Rattle.isolation.proofs.Told.{range_for, told_for, field_for, held_for, plan-told, plan-kind, plan-skipped, field-held}

-- one-to-one on all numbers (`OneToOne` of those with six digits; Renamed takes one to the other)
pub record Everywhere (σ : ℕ → ℕ) : Type 0 where
  pub six_digits : (n : ℕ) → n < 1000000 → σ n < 1000000
  pub same : (n m : ℕ) → eqb (σ n) (σ m) ≡ eqb n m
  pub kept : σ 0 ≡ 0

gathered-map : {X Y Z : Type 0} (f : Y → List Z) (g : X → Y) (k : X → List Z) → ((x : X) → f (g x) ≡ k x) → (xs : List X) → gathered f (map g xs) ≡ gathered k xs
unfolding gathered
gathered-map f g k e [] = refl
gathered-map f g k e (x ∷ xs) = rw (e x, gathered-map f g k e xs)

map-gathered : {X Y Z : Type 0} (g : Y → Z) (f : X → List Y) (xs : List X) → map g (gathered f xs) ≡ gathered (λ (x : X). map g (f x)) xs
unfolding gathered
map-gathered g f [] = refl
map-gathered g f (x ∷ xs) = map-append g (f x) (gathered f xs) ∙ ap (λ (r : List _). map g (f x) ++ r) (map-gathered g f xs)

-- each gives the changed ones
gathered-changed : {X Y : Type 0} (f : X → List Y) (g : X → X) (h : Y → Y) → ((x : X) → f (g x) ≡ map h (f x)) → (xs : List X) → gathered f (map g xs) ≡ map h (gathered f xs)
gathered-changed f g h e xs = gathered-map f g (λ (x : _). map h (f x)) e xs ∙ sym (map-gathered h f xs)

module _ (σ : ℕ → ℕ) (g : Everywhere σ) where
  pub zero-for : (n : ℕ) → eqb (σ n) 0 ≡ eqb n 0
  zero-for n = ap (λ (z : ℕ). eqb (σ n) z) (sym g.kept) ∙ g.same n 0

  -- ---- BITFELD

  abbrev pub fields-for : List BitField → List BitField
  fields-for fs = map (field_for σ) fs

  listed-for : (h : Held BitField) → listed (held_for σ h) ≡ fields-for (listed h)
  listed-for skip = refl
  listed-for (broken c) = refl
  listed-for (held f) = refl

  pub held-for : (ls : List Line) → held_in bit_field_of (map (on_text (field_line σ)) ls) ≡ fields-for (held_in bit_field_of ls)
  unfolding held_in
  held-for [] = refl
  held-for (l ∷ ls) =
      ap (λ (h : Held BitField). listed h ++ held_in bit_field_of (map (on_text (field_line σ)) ls)) (field-held σ g.six_digits l)
      ∙ (rw (listed-for (bit_field_of l), held-for ls) refl
      ∙ sym (map-append (field_for σ) (listed (bit_field_of l)) (held_in bit_field_of ls)))

  pub has-for : (n : ℕ) (fs : List BitField) → has_field (σ n) (fields-for fs) ≡ has_field n fs
  unfolding some_of
  has-for n [] = refl
  has-for n (f ∷ fs) = rw (g.same f.number n, has-for n fs)

  runs-found : (n k : ℕ) (fs : List BitField) → runs_by (find (λ (f : BitField). eqb f.number (σ n)) (fields-for fs)) k ≡ runs_by (find (λ (f : BitField). eqb f.number n) fs) k
  unfolding find
  runs-found n k [] = refl
  runs-found n k (f ∷ fs) = rw (g.same f.number n) (go (eqb f.number n) (runs-found n k fs))
    where
      go : (t : Bool) → runs_by (find (λ (f : BitField). eqb f.number (σ n)) (fields-for fs)) k ≡ runs_by (find (λ (f : BitField). eqb f.number n) fs) k
          → runs_by (cond t (some (field_for σ f)) (find (λ (f : BitField). eqb f.number (σ n)) (fields-for fs))) k ≡ runs_by (cond t (some f) (find (λ (f : BitField). eqb f.number n) fs)) k
      go true e = refl
      go false e = e

  -- the days of σ b are those of b
  pub knows-for : (fs : List BitField) → Knows σ (fields-for fs) fs
  unfolding field_runs
  knows-for fs = record { known = λ b. rw (zero-for b, has-for b fs); runs = λ b k. rw (zero-for b, runs-found b k fs) }

  -- ---- FPLAN: lines

  abbrev pub line-for : Line → Line
  line-for = on_text (plan_line σ)

  pub opens-for : (l : Line) → opens_service (line-for l) ≡ opens_service l
  unfolding opens_service
  opens-for l = ap is_opening (plan-kind σ l.text)

  pub told-for : (l : Line) → told_in (line-for l).text ≡ told_for σ (told_in l.text)
  told-for l = plan-told σ g.six_digits g.kept l.text

  pub skipped-for : (l : Line) → skipped (line-for l).text ≡ skipped l.text
  skipped-for l = plan-skipped σ l.text

  tolds-for : (ls : List Line) → tolds (map line-for ls) ≡ map (told_for σ) (tolds ls)
  unfolding tolds
  tolds-for [] = refl
  tolds-for (l ∷ ls) = rw (told-for l, tolds-for ls)

  ranges-told : (t : Told) → as_range (told_for σ t) ≡ map (range_for σ) (as_range t)
  ranges-told Skip = refl
  ranges-told Other = refl
  ranges-told (Broken c) = refl
  ranges-told (Opens o) = refl
  ranges-told (Ranges r) = refl
  ranges-told (Calls c) = refl

  calls-told : (t : Told) → as_call (told_for σ t) ≡ as_call t
  calls-told Skip = refl
  calls-told Other = refl
  calls-told (Broken c) = refl
  calls-told (Opens o) = refl
  calls-told (Ranges r) = refl
  calls-told (Calls c) = refl

  opens-told : (t : Told) → as_opening (told_for σ t) ≡ as_opening t
  opens-told Skip = refl
  opens-told Other = refl
  opens-told (Broken c) = refl
  opens-told (Opens o) = refl
  opens-told (Ranges r) = refl
  opens-told (Calls c) = refl

  ranges-for : (ls : List Line) → ranges_of (map line-for ls) ≡ map (range_for σ) (ranges_of ls)
  ranges-for ls = ap (gathered as_range) (tolds-for ls) ∙ gathered-changed as_range (told_for σ) (range_for σ) ranges-told (tolds ls)

  part-one : (p : RangeKind) (r : RangeLine) → of_part p (range_for σ r) ≡ map (range_for σ) (of_part p r)
  part-one p r = go (is_part p r)
    where
      go : (t : Bool) → cond t (range_for σ r ∷ []) [] ≡ map (range_for σ) (cond t (r ∷ []) [])
      go true = refl
      go false = refl

  pub parts-for : (p : RangeKind) (ls : List Line) → part_lines p (map line-for ls) ≡ map (range_for σ) (part_lines p ls)
  parts-for p ls = ap (gathered (of_part p)) (ranges-for ls) ∙ gathered-changed (of_part p) (range_for σ) (range_for σ) (part-one p) (ranges_of ls)

  opening-for : (ls : List Line) → opening_of (map line-for ls) ≡ opening_of ls
  opening-for [] = refl
  opening-for (l ∷ ls) = rw (told-for l, opens-told (told_in l.text))

  said-calls : (ls : List Line) → said_on as_call (map line-for ls) ≡ said_on as_call ls
  unfolding said_on
  said-calls ls = gathered-map (λ (l : Line). map (λ x. (l.no, x)) (as_call (told_in l.text))) line-for (λ (l : Line). map (λ x. (l.no, x)) (as_call (told_in l.text)))
      (λ l. rw (told-for l, calls-told (told_in l.text))) ls

  pub called-for : (ls : List Line) → called_on (map line-for ls) ≡ called_on ls
  unfolding called_on
  called-for ls = rw (opening-for ls, said-calls ls)

  pub calls-for : (ls : List Line) → calls_of (map line-for ls) ≡ calls_of ls
  calls-for ls = ap (map (λ (c : ℕ × Call). c.1)) (called-for ls)

  abbrev pub said_for : ℕ × RangeLine → ℕ × RangeLine
  said_for p = (p.0, range_for σ p.1)

  abbrev ranges_on : Line → List (ℕ × RangeLine)
  ranges_on l = map (λ x. (l.no, x)) (as_range (told_in l.text))

  pub said-ranges : (ls : List Line) → said_on as_range (map line-for ls) ≡ map said_for (said_on as_range ls)
  unfolding said_on
  said-ranges ls = gathered-changed ranges_on line-for said_for (λ l. rw (told-for l, ranges-told (told_in l.text)) (one l.no (as_range (told_in l.text)))) ls
    where
      one : (n : ℕ) (rs : List RangeLine) → map {B = ℕ × RangeLine} (λ x. (n, x)) (map (range_for σ) rs) ≡ map said_for (map (λ x. (n, x)) rs)
      one n [] = refl
      one n (r ∷ rs) = ap (λ (q : List (ℕ × RangeLine)). (n, range_for σ r) ∷ q) (one n rs)

  -- ---- FPLAN: services

  with-for : {X : Type 0} (f k : Legs → X) (h : X → X) → ((x : Legs) → k x ≡ h (f x)) → (o : Option Legs) → with_legs k o ≡ map h (with_legs f o)
  with-for f k h e none = refl
  with-for f k h e (some x) = ap (λ (y : _). y ∷ []) (e x)

  module _ (cs : List Call) where
    categories-for : (rs : List RangeLine) → gathered (category_range cs) (map (range_for σ) rs) ≡ gathered (category_range cs) rs
    categories-for rs = gathered-map (category_range cs) (range_for σ) (category_range cs) (λ r. refl) rs

    days-for : (rs : List RangeLine) → gathered (day_range cs) (map (range_for σ) rs) ≡ map (day_for σ) (gathered (day_range cs) rs)
    days-for rs = gathered-changed (day_range cs) (range_for σ) (day_for σ) (λ r. with-for _ _ (day_for σ) (λ x. refl) (legs_on cs r)) rs

    extras-for : (rs : List RangeLine) → gathered (extra_range cs) (map (range_for σ) rs) ≡ map (extra_for σ) (gathered (extra_range cs) rs)
    extras-for rs = gathered-changed (extra_range cs) (range_for σ) (extra_for σ) (λ r. with-for _ _ (extra_for σ) (λ x. refl) (legs_on cs r)) rs

  pub first-no : (ls : List Line) → (first_line (map line-for ls)).no ≡ (first_line ls).no
  first-no [] = refl
  first-no (l ∷ ls) = refl

  pub service-for : (ls : List Line) → service_of (map line-for ls) ≡ service_for σ (first_line ls).no (service_of ls)
  unfolding service_of
  service-for ls = rw (
    first-no ls,
    opening-for ls,
    calls-for ls,
    parts-for Category ls,
    parts-for Days ls,
    parts-for Extra ls,
    categories-for (calls_of ls) (part_lines Category ls),
    days-for (calls_of ls) (part_lines Days ls),
    extras-for (calls_of ls) (part_lines Extra ls),
  )
