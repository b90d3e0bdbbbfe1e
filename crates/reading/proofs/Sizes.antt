-- A file gives no more than eighteen words for each of its bytes, so that every count fits. Assumes nothing.
use mathlib.Core.Path.{◌≡◌, ap, ◌∙◌}
use mathlib.Core.List.{List, [], ◌∷◌, map}
use mathlib.Core.Bool.{Bool, true, false, cond}
use mathlib.Core.Option.{Option, none, some}
use Prim.Native.Nat.{ℕ, suc, ◌+◌, ◌*◌, ◌≤◌}
use native.Mathlib.Omega.{arith}
use lib.ListN.{length, drop, length-append, length-drop}
use Rattle.base.specs.Lists.{gathered}
use Rattle.base.proofs.Lists.{gathered-append}
use Rattle.lines.specs.Lines.{Line, lines_at}
use Rattle.lines.proofs.Laws.{lines-le}
use Rattle.timetable.specs.Layout.{most_file_bytes, service_head, call_size}
use Rattle.timetable.specs.Delivery.{Legs, CategoryRange, DayRange, ExtraRange}
use Rattle.timetable.specs.Plan.{told_in, tolds, as_call, as_range, of_part, opens_service, ranges_of, part_lines}
use Rattle.timetable.specs.Service.{with_legs, legs_on, calls_of, head_lines, blocks, service_of}
use Rattle.timetable.specs.Table.{service_words}
use Rattle.timetable.specs.declared.Call.{Call}
use Rattle.timetable.specs.declared.CallLine.{CallLine}
use Rattle.timetable.specs.declared.RangeKind.{RangeKind}
use Rattle.timetable.specs.declared.RangeKind.TheVariants.{Category, Days, Extra}
use Rattle.timetable.specs.declared.RangeLine.{RangeLine}
use Rattle.timetable.specs.declared.Told.{Told}
use Rattle.timetable.specs.declared.Told.TheVariants.{Skip, Other, Broken, Opens, Ranges, Calls}
use Rattle.timetable.proofs.Calls.{calls_count}
use Rattle.timetable.proofs.Records.{service-length}
use Rattle.reading.specs.Inner.Services.{block_words, words_a_line, most_plan_words}

-- ---- a line gives one call or one range at most

one-part : (q : RangeKind) (r : RangeLine) → length (gathered (of_part Category) (record { part = q; name = r.name; field = r.field; ends = r.ends } ∷ []))
    + (length (gathered (of_part Days) (record { part = q; name = r.name; field = r.field; ends = r.ends } ∷ [])) + length (gathered (of_part Extra) (record { part = q; name = r.name; field = r.field; ends = r.ends } ∷ []))) ≤ 1
unfolding gathered
one-part Category r = omega arith
one-part Days r = omega arith
one-part Extra r = omega arith

told-le : (t : Told) → length (as_call t) + (length (gathered (of_part Category) (as_range t)) + (length (gathered (of_part Days) (as_range t)) + length (gathered (of_part Extra) (as_range t)))) ≤ 1
unfolding gathered
told-le Skip = omega arith
told-le Other = omega arith
told-le (Broken c) = omega arith
told-le (Opens o) = omega arith
told-le (Ranges r) = omega (arith, one-part r.part r)
told-le (Calls c) = omega arith

parts-length : (p : RangeKind) (l : Line) (ls : List Line) → length (part_lines p (l ∷ ls)) ≡ length (gathered (of_part p) (as_range (told_in l.text))) + length (part_lines p ls)
unfolding tolds gathered
parts-length p l ls = ap length (gathered-append (of_part p) (as_range (told_in l.text)) (ranges_of ls)) ∙ length-append (gathered (of_part p) (as_range (told_in l.text))) (part_lines p ls)

-- its schedule lines and the lines of its ranges
said-le : (ls : List Line) → length (gathered as_call (tolds ls)) + (length (part_lines Category ls) + (length (part_lines Days ls) + length (part_lines Extra ls))) ≤ length ls
unfolding tolds gathered
said-le [] = omega arith
said-le (l ∷ ls) =
    let t = told_in l.text in
    let cs : List CallLine = gathered as_call (tolds ls) in
    omega (arith, told-le t, said-le ls, length-append (as_call t) cs, parts-length Category l ls, parts-length Days l ls, parts-length Extra l ls)

counts-le : (ls : List Line) → length (calls_of ls) + (length (part_lines Category ls) + (length (part_lines Days ls) + length (part_lines Extra ls))) ≤ length ls
counts-le ls = omega (arith, calls_count ls, said-le ls)

-- ---- a service, and all services

-- a range line gives one range, or none where its ends are not found
ranges-le : {X : Type 0} (f : RangeLine → Legs → X) (cs : List Call) (rs : List RangeLine) → length (gathered (λ (r : RangeLine). with_legs (f r) (legs_on cs r)) rs) ≤ length rs
unfolding gathered
ranges-le f cs [] = omega arith
ranges-le f cs (r ∷ rs) = omega (arith, one (f r) (legs_on cs r), ranges-le f cs rs, length-append (with_legs (f r) (legs_on cs r)) (gathered (λ (r : RangeLine). with_legs (f r) (legs_on cs r)) rs))
  where
    one : {X : Type 0} (g : Legs → X) (o : Option Legs) → length (with_legs g o) ≤ 1
    one g none = omega arith
    one g (some x) = omega arith

pub service-le : (ls : List Line) → length (service_words (service_of ls)) ≤ service_head + call_size * length ls
unfolding service_of
service-le ls =
    let cs = calls_of ls in
    omega (
      arith,
      service-length (service_of ls),
      counts-le ls,
      ranges-le {X = CategoryRange} (λ r x. record { name = r.name; legs = x }) cs (part_lines Category ls),
      ranges-le {X = DayRange} (λ r x. record { field = r.field; legs = x }) cs (part_lines Days ls),
      ranges-le {X = ExtraRange} (λ r x. record { code = r.name; field = r.field; legs = x }) cs (part_lines Extra ls),
    )

-- the lines before the first service, and the services
blocks-le : (ls : List Line) → length (block_words (blocks ls)) + call_size * length (head_lines ls) ≤ words_a_line * length ls
unfolding blocks head_lines block_words gathered
blocks-le [] = omega arith
blocks-le (l ∷ ls) = go (opens_service l) (blocks-le ls)
  where
    go : (t : Bool) → length (block_words (blocks ls)) + call_size * length (head_lines ls) ≤ words_a_line * length ls → length (block_words (cond t ((l ∷ head_lines ls) ∷ blocks ls) (blocks ls))) + call_size * length (cond t [] (l ∷ head_lines ls)) ≤ words_a_line * length (l ∷ ls)
    go true h = omega (arith, h, service-le (l ∷ head_lines ls), length-append (service_words (service_of (l ∷ head_lines ls))) (gathered service_words (map service_of (blocks ls))))
    go false h = omega (arith, h)

-- no more services than lines
count-le : (ls : List Line) → length (blocks ls) ≤ length ls
unfolding blocks
count-le [] = omega arith
count-le (l ∷ ls) = go (opens_service l) (count-le ls)
  where
    go : (t : Bool) → length (blocks ls) ≤ length ls → length (cond t ((l ∷ head_lines ls) ∷ blocks ls) (blocks ls)) ≤ suc (length ls)
    go true h = omega (arith, h)
    go false h = omega (arith, h)

-- ---- by the bytes of a file, or of a part of it

module _ (f : List ℕ) (at n : ℕ) (h : length f ≤ most_file_bytes) where
  few-lines : length (lines_at f at n) ≤ most_file_bytes
  few-lines = omega (arith, lines-le n at (drop at f), length-drop at f)

  pub words-fit : length (block_words (blocks (lines_at f at n))) ≤ most_plan_words
  words-fit = omega (arith, blocks-le (lines_at f at n), few-lines)

  pub count_fits : length (blocks (lines_at f at n)) ≤ most_file_bytes
  count_fits = omega (arith, count-le (lines_at f at n), few-lines)
