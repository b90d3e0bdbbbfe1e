-- A service takes at most eight words for each line of its calls and ranges, and each such line has 59 bytes at least. Assumes nothing.
use mathlib.Core.Path.{◌≡◌, refl, ap, ◌∙◌}
use mathlib.Core.List.{List, [], ◌∷◌, map}
use mathlib.Core.Bool.{Bool, true, false, cond}
use Prim.Native.Nat.{ℕ, ◌+◌, ◌*◌, ◌≤◌}
use native.Mathlib.Omega.{arith}
use lib.ListN.{length, length-append}
use lib.Dec.{eqb}
use Rattle.base.specs.Lists.{All, nil, cons, every, count_if, gathered}
use Rattle.base.proofs.Laws.{apart}
use Rattle.columns.specs.Columns.{columns}
use Rattle.columns.proofs.Laws.{every-long}
use Rattle.forms.specs.Form.{FieldRule, form_of, Form, Fits, Broken as BrokenForm}
use Rattle.forms.specs.Columns.{service_columns, frequency_columns, category_columns, attribute_columns, call_columns}
use Rattle.forms.specs.Kinds.{kind_of}
use Rattle.forms.specs.declared.Kind.{Kind}
use Rattle.forms.specs.declared.Kind.TheVariants.{Opening as OpeningKind, Frequency, Category as CategoryKind, Attribute, Schedule, Other as OtherKind}
use Rattle.forms.proofs.Laws.{row-holds}
use Rattle.lines.specs.Lines.{Line, skipped}
use Rattle.timetable.specs.Delivery.{Legs, CategoryRange, DayRange, Delivery}
use Rattle.timetable.specs.Plan.{formed, told_by, told_in, tolds, opening_in, frequency_in, category_in, attribute_in, call_in, as_opening, as_call, as_range, ranges_of, part_number, of_part}
use Rattle.timetable.specs.Service.{head_lines, blocks, calls_of, service_of}
use Rattle.timetable.specs.Legs.{covering}
use Rattle.timetable.specs.Table.{service_words}
use Rattle.timetable.specs.declared.RangeKind.{RangeKind}
use Rattle.timetable.specs.declared.RangeKind.TheVariants.{Category, Days, Extra}
use Rattle.timetable.specs.declared.RangeLine.{RangeLine}
use Rattle.timetable.specs.declared.Told.{Told}
use Rattle.timetable.specs.declared.Told.TheVariants.{Skip, Opens, Ranges, Calls}
use Rattle.timetable.proofs.Calls.{calls_count}
use Rattle.timetable.proofs.Records.{service-length}
use Rattle.whole_runs.proofs.Clear.{Fair}
use Rattle.whole_runs.proofs.Lines.{nothing-dropped}
use Rattle.whole_runs.proofs.Right.{right}
use Rattle.whole_runs.proofs.Text.{blocks-whole}
use Rattle.room.specs.Room.{plan_least, plan_line_size}
use Rattle.room.proofs.Bytes.{bytes_of, bytes-append}

-- ---- a line

-- how many openings, calls and ranges it says: at most one, and then it has 59 columns
abbrev said : Told → ℕ
said t = length (as_opening t) + (length (as_call t) + length (as_range t))

pub record SaidIn (n : ℕ) (ls : List Line) : Type 0 where
  pub columns : plan_least * n ≤ bytes_of ls
  pub lines : n ≤ length ls

marked : (rows : List FieldRule) (text : List ℕ) → (form_of rows text ≡ Fits → every (λ (b : ℕ). eqb b 37) (columns 59 59 text) ≡ true) → (t : Told) → said t ≤ 1
    → (plan_least * said (formed (form_of rows text) t) ≤ length text) × (said (formed (form_of rows text) t) ≤ 1)
marked rows text mark t one = go (form_of rows text) refl
  where
    go : (f : Form) → form_of rows text ≡ f → (plan_least * said (formed f t) ≤ length text) × (said (formed f t) ≤ 1)
    go Fits e = let h = every-long (λ (b : ℕ). eqb b 37) refl 59 59 text (omega arith) (omega arith) (mark e) in (omega (arith, h, one), one)
    go (BrokenForm c) e = (omega arith, omega arith)

told-bytes : (text : List ℕ) → (plan_least * said (told_in text) ≤ length text) × (said (told_in text) ≤ 1)
unfolding told_in
told-bytes text = go (skipped text) (kind_of text)
  where
    go : (t : Bool) (k : Kind) → (plan_least * said (cond t Skip (told_by k text)) ≤ length text) × (said (cond t Skip (told_by k text)) ≤ 1)
    go true k = (omega arith, omega arith)
    go false OpeningKind = marked service_columns text (row-holds service_columns text 5) (Opens (opening_in text)) (omega arith)
    go false Frequency = marked frequency_columns text (row-holds frequency_columns text 5) (Opens (frequency_in text)) (omega arith)
    go false CategoryKind = marked category_columns text (row-holds category_columns text 6) (Ranges (category_in text)) (omega arith)
    go false Attribute = marked attribute_columns text (row-holds attribute_columns text 7) (Ranges (attribute_in text)) (omega arith)
    go false Schedule = marked call_columns text (row-holds call_columns text 7) (Calls (call_in text)) (omega arith)
    go false OtherKind = (omega arith, omega arith)

-- ---- the lines of a service

pub lines-said : (ls : List Line) → SaidIn (length (gathered as_opening (tolds ls)) + (length (gathered as_call (tolds ls)) + length (ranges_of ls))) ls
unfolding tolds gathered bytes_of
lines-said [] = record { columns = omega arith; lines = omega arith }
lines-said (l ∷ ls) =
    let t = told_in l.text in
    let a = told-bytes l.text in
    let b = lines-said ls in
    let o = length-append (as_opening t) (gathered as_opening (tolds ls)) in
    let c = length-append (as_call t) (gathered as_call (tolds ls)) in
    let r = length-append (as_range t) (ranges_of ls) in
    record {
      columns = omega (arith, a.0, b.columns, o, c, r);
      lines = omega (arith, a.1, b.lines, o, c, r);
    }

-- a range is of one part
one-part : (r : RangeLine) → length (of_part Category r) + length (of_part Days r) + length (of_part Extra r) ≡ 1
one-part r = go r.part
  where
    go : (p : RangeKind) → length (cond (eqb (part_number p) 0) (r ∷ []) []) + length (cond (eqb (part_number p) 1) (r ∷ []) []) + length (cond (eqb (part_number p) 2) (r ∷ []) []) ≡ 1
    go Category = refl
    go Days = refl
    go Extra = refl

pub parts-sum : (rs : List RangeLine) → length (gathered (of_part Category) rs) + length (gathered (of_part Days) rs) + length (gathered (of_part Extra) rs) ≡ length rs
unfolding gathered
parts-sum [] = refl
parts-sum (r ∷ rs) =
    let h = parts-sum rs in let o = one-part r in
    let a = length-append (of_part Category r) (gathered (of_part Category) rs) in
    let b = length-append (of_part Days r) (gathered (of_part Days) rs) in
    let c = length-append (of_part Extra r) (gathered (of_part Extra) rs) in
    omega (arith, h, o, a, b, c)

-- some range covers the first leg, so there is one
one-there : {X : Type 0} (legs : X → Legs) (rs : List X) → covering legs rs 0 ≡ 1 → 1 ≤ length rs
unfolding count_if
one-there legs [] e = apart e
one-there legs (r ∷ rs) e = omega arith

pub calls_same : (ls : List Line) → length (service_of ls).calls ≡ length (calls_of ls)
unfolding service_of
calls_same ls = refl

-- the words of a service
service-words : (d : Delivery) (ls : List Line) → Fair d ls → plan_least * length (service_words (service_of ls)) ≤ plan_line_size * bytes_of ls
service-words d ls h =
    let r = right d ls h in
    let n = nothing-dropped d ls h in
    let z = service-length (service_of ls) in
    let two = r.two in
    let g = one-there (λ (x : CategoryRange). x.legs) (service_of ls).categories (r.categories 0 (omega (arith, two))) in
    let v = one-there (λ (x : DayRange). x.legs) (service_of ls).days (r.days 0 (omega (arith, two))) in
    let c = calls_same ls ∙ calls_count ls in
    let p = parts-sum (ranges_of ls) in
    let b = (lines-said ls).columns in
    omega (arith, z, two, g, v, c, p, b, n.categories, n.days, n.extras)

-- ---- all services

pub blocks-bytes : (ls : List Line) → (bytes_of (gathered (λ (b : List Line). b) (blocks ls)) ≤ bytes_of ls) × (length (gathered (λ (b : List Line). b) (blocks ls)) ≤ length ls)
blocks-bytes ls =
    let bs = gathered (λ (b : List Line). b) (blocks ls) in
    (omega (arith, ap bytes_of (blocks-whole ls), bytes-append (head_lines ls) bs), omega (arith, ap length (blocks-whole ls), length-append (head_lines ls) bs))

services-words : (d : Delivery) {bs : List (List Line)} → All (Fair d) bs → plan_least * length (gathered service_words (map service_of bs)) ≤ plan_line_size * bytes_of (gathered (λ (b : List Line). b) bs)
unfolding gathered
services-words d nil = omega arith
services-words d (cons {x = b} {xs = bs} h t) =
    let x = service-words d b h in let y = services-words d t in
    let a = length-append (service_words (service_of b)) (gathered service_words (map service_of bs)) in
    let e = bytes-append b (gathered (λ (b : List Line). b) bs) in
    omega (arith, x, y, a, e)

pub plan-words : (d : Delivery) (ls : List Line) → All (Fair d) (blocks ls) → plan_least * length (gathered service_words (map service_of (blocks ls))) ≤ plan_line_size * bytes_of ls
plan-words d ls h = let a = services-words d h in let b = (blocks-bytes ls).0 in omega (arith, a, b)
