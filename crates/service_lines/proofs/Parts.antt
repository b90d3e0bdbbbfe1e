-- The needs of the functions on a record's ranges, for `search parts` and `search ranges`. Assumes nothing.
use mathlib.Core.Path.{◌≡◌, ap, ◌∙◌}
use mathlib.Core.List.{List}
use mathlib.Core.Bool.{Bool, true, false, not, ◌&&◌}
use Prim.Native.Nat.{ℕ, ◌+◌, ◌-◌, ◌*◌, ◌^◌, ◌≤◌, ◌<◌}
use native.Mathlib.Omega.{arith}
use lib.ListN.{length, drop}
use Rattle.base.specs.Lists.{every}
use Rattle.base.proofs.Laws.{tests}
use Rattle.timetable.specs.Layout.{category_size, day_size, extra_size}
use Rattle.timetable.specs.Table.{rows_in, category_at, day_at, extra_at, categories#, days#, extras#, category_place, day_place, extra_place, sizes_sound}
use Rattle.timetable.specs.Inner.Words.{category_read, day_read, extra_read}
use Rattle.timetable.specs.declared.CategoryWords.{CategoryWords}
use Rattle.timetable.specs.declared.DayWords.{DayWords}
use Rattle.timetable.specs.declared.ExtraWords.{ExtraWords}
use Rattle.timetable.specs.declared.RangeKind.{RangeKind}
use Rattle.timetable.specs.declared.RangeKind.TheVariants.{Category, Days, Extra}
use Rattle.timetable.proofs.Rows.{stride-turn, rows-again, rows_out, rows-done}
use Rattle.table.specs.JustTable.{record_end}
use Rattle.table.proofs.Says.{sizes-say, head-word}
use Rattle.writable.specs.Writable.{name_writable, code_writable, field_writable}
use Rattle.service_lines.specs.Inner.Record.{range_size, part_count, part_place, here, part_rows, range_writable}
use Rattle.service_lines.proofs.Left.{rounds}

-- ---- where a part stands

module _ (s : List ℕ) (e : sizes_sound s ≡ true) where
  pub record-inside : record_end s ≤ length s
  record-inside = (sizes-say s e).inside

  pub parts-inside : (p : RangeKind) → part_place p s + range_size p * part_count p s ≤ length s
  parts-inside Category = omega (arith, record-inside)
  parts-inside Days = omega (arith, record-inside)
  parts-inside Extra = omega (arith, record-inside)

module _ (p : RangeKind) (s : List ℕ) where
  pub count-category : p ≡ Category → categories# s ≡ part_count p s
  count-category e = rw e

  pub count-days : p ≡ Days → days# s ≡ part_count p s
  count-days e = rw e

  pub count-extra : p ≡ Extra → extras# s ≡ part_count p s
  count-extra e = rw e

  module _ (x : ℕ) where
    pub place-category : p ≡ Category → x ≡ category_place s → x ≡ part_place p s
    place-category e q = rw e q

    pub place-days : p ≡ Days → x ≡ day_place s → x ≡ part_place p s
    place-days e q = rw e q

    pub place-extra : p ≡ Extra → x ≡ extra_place s → x ≡ part_place p s
    place-extra e q = rw e q

pub ruleset parts = (tests, head-word, record-inside, count-category, count-days, count-extra, place-category, place-days, place-extra)

-- ---- a range at q

module _ (p : RangeKind) (s : List ℕ) (q : ℕ) where
  module _ (h : q + range_size p ≤ length s) where
    pub category-room : p ≡ Category → q + category_size ≤ length s
    category-room e = rw e at h

    pub day-room : p ≡ Days → q + day_size ≤ length s
    day-room e = rw e at h

    pub extra-room : p ≡ Extra → q + extra_size ≤ length s
    extra-room e = rw e at h

  -- r is the range, x what the test says of it
  module _ (x : Bool) where
    pub range-category : p ≡ Category → (r : CategoryWords) → r ≡ category_read (category_at (drop q s)) → x ≡ name_writable r.name → x ≡ range_writable p (drop q s)
    range-category e r k f = rw e (f ∙ ap (λ (y : CategoryWords). name_writable y.name) k)

    pub range-days : p ≡ Days → (r : DayWords) → r ≡ day_read (day_at (drop q s)) → x ≡ field_writable r.field → x ≡ range_writable p (drop q s)
    range-days e r k f = rw e (f ∙ ap (λ (y : DayWords). field_writable y.field) k)

    pub range-extra : p ≡ Extra → (r : ExtraWords) → r ≡ extra_read (extra_at (drop q s)) → x ≡ (code_writable r.code && field_writable r.field) → x ≡ range_writable p (drop q s)
    range-extra e r k f = rw e (f ∙ ap (λ (y : ExtraWords). code_writable y.code && field_writable y.field) k)

pub ruleset range = (tests, category-room, day-room, extra-room, range-category, range-days, range-extra)

-- ---- the loop over them: k are left from q on

module _ (p : RangeKind) (s : List ℕ) (e : sizes_sound s ≡ true) (x y : ℕ) (a : x ≡ part_place p s) (b : y ≡ part_count p s) where
  pub ranges-start : x + range_size p * y ≤ length s
  ranges-start = rw (a, b) (parts-inside s e p)

  pub ranges-all : every (range_writable p) (rows_in here (range_size p) y (drop x s)) ≡ every (range_writable p) (part_rows p s)
  unfolding part_rows
  ranges-all = rw (a, b)

module _ (p : RangeKind) (s : List ℕ) (q k : ℕ) (h : 0 < k) (v : q + range_size p * k ≤ length s) where
  pub ranges-now : q + range_size p ≤ length s
  ranges-now = omega (arith, stride-turn (range_size p) k h)

  -- z is the size of a range
  module _ (z : ℕ) (f : z ≡ range_size p) where
    pub ranges-place : length s < 2 ^ 64 → q + z < 2 ^ 64
    ranges-place l = omega (arith, f, ranges-now)

    pub ranges-left : (j : ℕ) → j + 1 ≡ k → q + z + range_size p * j ≤ length s
    ranges-left j o =
        let e : k - 1 ≡ j = omega arith in
        omega (arith, f, rw e at (stride-turn (range_size p) k h))

module _ (p : RangeKind) (s : List ℕ) (q k : ℕ) (r x : Bool) (h : 0 < k) (e : x ≡ range_writable p (drop q s)) (v : every (range_writable p) (rows_in here (range_size p) k (drop q s)) ≡ r) where
  pub ranges-again : (z j : ℕ) → z ≡ range_size p → j + 1 ≡ k → not x ≡ false → every (range_writable p) (rows_in here (range_size p) j (drop (q + z) s)) ≡ r
  ranges-again z j f o n =
      let d : k - 1 ≡ j = omega arith in
      rw f (rw d at (rows-again (range_writable p) here (range_size p) s q k r x h e v n))

  pub ranges-out : not x ≡ true → false ≡ r
  ranges-out = rows_out (range_writable p) here (range_size p) s q k r x h e v

pub ranges-done : (p : RangeKind) (s : List ℕ) (k : ℕ) (r : Bool) → k ≤ 0 → every (range_writable p) (rows_in here (range_size p) k s) ≡ r → true ≡ r
ranges-done p s k r = rows-done (range_writable p) here (range_size p) s k r

pub ruleset ranges = (tests, rounds, ranges-start, ranges-all, ranges-now, ranges-place, ranges-left, ranges-again, ranges-out, ranges-done)
