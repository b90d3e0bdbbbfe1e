-- The needs of the functions that write a record's lines, for `search range`, `search ranges` and `search calls`. Assumes nothing.
use mathlib.Core.Path.{◌≡◌, refl, ap, sym, ◌∙◌}
use mathlib.Core.List.{List, [], ◌++◌, map, append_assoc}
use mathlib.Core.Bool.{Bool, true, cond}
use Prim.Native.Nat.{ℕ, zero, suc, ◌+◌, ◌-◌, ◌*◌, ◌^◌, ◌≤◌, ◌<◌}
use native.Mathlib.Omega.{arith}
use lib.ListN.{length, drop, length-append}
use borrow.Author.Tests.{eq-eqb, ne_eqb}
use Rattle.base.specs.Lists.{every}
use Rattle.base.proofs.Laws.{tests}
use Rattle.timetable.specs.Delivery.{StopRecord}
use Rattle.timetable.specs.Layout.{service_head, call_size, kind_z}
use Rattle.timetable.specs.Plan.{VE}
use Rattle.timetable.specs.Table.{rows_in, call_at, category_at, day_at, extra_at, calls#, opening_at, call_sound}
use Rattle.timetable.specs.Inner.Words.{category_read, day_read, extra_read}
use Rattle.timetable.specs.declared.Opening.{Opening}
use Rattle.timetable.specs.declared.Call.{Call}
use Rattle.timetable.specs.declared.CategoryWords.{CategoryWords}
use Rattle.timetable.specs.declared.DayWords.{DayWords}
use Rattle.timetable.specs.declared.ExtraWords.{ExtraWords}
use Rattle.timetable.specs.declared.RangeKind.{RangeKind}
use Rattle.timetable.specs.declared.RangeKind.TheVariants.{Category, Days, Extra}
use Rattle.timetable.proofs.Rows.{rows_left}
use Rattle.words.specs.Words.{write}
use Rattle.words.proofs.Laws.{write-none, write-turn}
use Rattle.table.proofs.Says.{call-says}
use Rattle.line_text.specs.Laid.{text_of}
use Rattle.plan_text.specs.PlanText.{with_lf, category_of, attribute_text, opening_text, frequency_text, category_text, day_text, extra_text, call_text}
use Rattle.plan_text.proofs.Lengths.{category-length, day-length, extra-length, call_length}
use Rattle.plan_services.specs.Services.{opening_line}
use Rattle.service_lines.specs.Inner.Record.{range_size, part_count, part_place, here, part_rows, shown_call, call_rows}
use Rattle.service_lines.proofs.Left.{rounds}
use Rattle.service_lines.proofs.Parts.{category-room, day-room, extra-room, ranges-start, ranges-now, ranges-place, ranges-left}
use Rattle.service_lines.proofs.Calls.{calls-just, calls-head, calls-start, calls-sound, sound-now, sound-left}
use Rattle.plan_writing.specs.Inner.Record.{range_text, part_text, calls_text}

-- ---- the opening line of a service; o is what it says

module _ (o : Opening) where
  line-of-Z : o.kind ≡ kind_z → opening_text o ≡ opening_line o
  line-of-Z k = sym (ap (λ (b : Bool). cond b (opening_text o) (frequency_text o)) (eq-eqb o.kind kind_z k))

  line-of-T : (o.kind ≡ kind_z → ⊥) → frequency_text o ≡ opening_line o
  line-of-T k = sym (ap (λ (b : Bool). cond b (opening_text o) (frequency_text o)) (ne_eqb o.kind kind_z k))

module _ (s t r : List ℕ) (q : ℕ) (o : Opening) (e : o ≡ opening_at s) where
  pub first_opening : o.kind ≡ kind_z → r ≡ write t q (with_lf (opening_text o)) → r ≡ write t q (with_lf (opening_line (opening_at s)))
  first_opening k f = f ∙ ap (λ (l : List ℕ). write t q (with_lf l)) (line-of-Z o k ∙ ap opening_line e)

  pub first-frequency : (o.kind ≡ kind_z → ⊥) → r ≡ write t q (with_lf (frequency_text o)) → r ≡ write t q (with_lf (opening_line (opening_at s)))
  first-frequency k f = f ∙ ap (λ (l : List ℕ). write t q (with_lf l)) (line-of-T o k ∙ ap opening_line e)

pub ruleset first = (tests, first_opening, first-frequency)

-- ---- the line of a range at p; g is the range

module _ (x : RangeKind) (s : List ℕ) (p : ℕ) (t r : List ℕ) (q : ℕ) where
  pub put-category : x ≡ Category → (g : CategoryWords) → g ≡ category_read (category_at (drop p s)) → r ≡ write t q (with_lf (category_text (category_of g.name g.from g.to))) → r ≡ write t q (with_lf (range_text x (drop p s)))
  put-category e g k f = f ∙ ap (λ (y : CategoryWords). write t q (with_lf (category_text (category_of y.name y.from y.to)))) k ∙ rw e

  pub put-days : x ≡ Days → (g : DayWords) → g ≡ day_read (day_at (drop p s)) → r ≡ write t q (with_lf (attribute_text VE g.field g.from g.to)) → r ≡ write t q (with_lf (range_text x (drop p s)))
  unfolding day_text
  put-days e g k f = f ∙ ap (λ (y : DayWords). write t q (with_lf (attribute_text VE y.field y.from y.to))) k ∙ rw e

  pub put-extra : x ≡ Extra → (g : ExtraWords) → g ≡ extra_read (extra_at (drop p s)) → r ≡ write t q (with_lf (attribute_text g.code g.field g.from g.to)) → r ≡ write t q (with_lf (range_text x (drop p s)))
  unfolding extra_text
  put-extra e g k f = f ∙ ap (λ (y : ExtraWords). write t q (with_lf (attribute_text y.code y.field y.from y.to))) k ∙ rw e

pub ruleset range = (tests, category-room, day-room, extra-room, put-category, put-days, put-extra)

-- ---- lines one after the other

-- a line l was written at q, and more are to follow: t' is what t is then
pub line-turn : (t t' r l ls : List ℕ) (q : ℕ) → length l ≡ 59 → q + 60 ≤ length t → t' ≡ write t q (with_lf l) → write t q (with_lf l ++ ls) ≡ r → write t' (q + 60) ls ≡ r
line-turn t t' r l ls q n h e v =
    let k : length (with_lf l) ≡ 60 = rw length-append (omega (arith, n)) in
    write-turn t t' r q 60 (with_lf l) ls e k h v

-- the lines of k rows: the first, and the others
text-rows : {X : Type 0} (g : X → List ℕ) (f : List ℕ → X) (size k p : ℕ) (w : List ℕ) → 0 < k
    → text_of (map g (rows_in f size k (drop p w))) ≡ with_lf (g (f (drop p w))) ++ text_of (map g (rows_in f size (k - 1) (drop (p + size) w)))
unfolding text_of
text-rows g f size k p w h = rw (rows_left f size k p w h, append_assoc)

text-none : {X : Type 0} (g : X → List ℕ) (f : List ℕ → X) (size k : ℕ) (w : List ℕ) → k ≤ 0 → text_of (map g (rows_in f size k w)) ≡ []
unfolding text_of rows_in
text-none g f size zero w h = refl
text-none g f size (suc k) w h = absurd (omega arith)

module _ {X : Type 0} (g : X → List ℕ) (f : List ℕ → X) (full : (x : X) → length (g x) ≡ 59) (size : ℕ) (w t t' r : List ℕ) (p k q : ℕ) (h : 0 < k) where
  rows-turn : q + 60 ≤ length t → t' ≡ write t q (with_lf (g (f (drop p w)))) → write t q (text_of (map g (rows_in f size k (drop p w)))) ≡ r → write t' (q + 60) (text_of (map g (rows_in f size (k - 1) (drop (p + size) w)))) ≡ r
  rows-turn n e v = line-turn t t' r (g (f (drop p w))) _ q (full (f (drop p w))) n e (rw (text-rows g f size k p w h) at v)

-- ---- the loop over ranges: k are left from p on, their lines to be written at q; n in all, from place `at` on

pub range_length : (x : RangeKind) (u : List ℕ) → length (range_text x u) ≡ 59
range_length Category u = category-length _
range_length Days u = day-length _
range_length Extra u = extra-length _

pub ranges-all : (x : RangeKind) (s t : List ℕ) (at p k : ℕ) → p ≡ part_place x s → k ≡ part_count x s → write t at (text_of (map (range_text x) (rows_in here (range_size x) k (drop p s)))) ≡ write t at (part_text x s)
unfolding part_text part_rows
ranges-all x s t at p k a b = rw (a, b)

module _ (t t₀ : List ℕ) (q k at n : ℕ) (h : 0 < k) (e : q + 60 * k ≡ at + 60 * n) (l : at + 60 * n ≤ length t₀) (m : length t ≡ length t₀) where
  pub line-room : q + 60 ≤ length t
  line-room = omega arith

  pub line-place : length t < 2 ^ 64 → q + 60 < 2 ^ 64
  line-place b = omega arith

  pub line-left : (j : ℕ) → j + 1 ≡ k → q + 60 + 60 * j ≡ at + 60 * n
  line-left j o = omega arith

  pub ranges-again : (x : RangeKind) (s t' r : List ℕ) (p z j : ℕ) → z ≡ range_size x → j + 1 ≡ k → t' ≡ write t q (with_lf (range_text x (drop p s)))
      → write t q (text_of (map (range_text x) (rows_in here (range_size x) k (drop p s)))) ≡ r → write t' (q + 60) (text_of (map (range_text x) (rows_in here (range_size x) j (drop (p + z) s)))) ≡ r
  ranges-again x s t' r p z j f o d v =
      let e : k - 1 ≡ j = omega arith in
      rw f (rw e at (rows-turn (range_text x) here (range_length x) (range_size x) s t t' r p k q h line-room d v))

  pub calls-again : (stops : List StopRecord) (s t' r : List ℕ) (p j : ℕ) (c : Call) → j + 1 ≡ k → c ≡ shown_call stops (drop p s) → t' ≡ write t q (with_lf (call_text c))
      → write t q (text_of (map call_text (rows_in (shown_call stops) call_size k (drop p s)))) ≡ r → write t' (q + 60) (text_of (map call_text (rows_in (shown_call stops) call_size j (drop (p + call_size) s)))) ≡ r
  calls-again stops s t' r p j c o d f v =
      let e : k - 1 ≡ j = omega arith in
      rw e at (rows-turn call_text (shown_call stops) call_length call_size s t t' r p k q h line-room (f ∙ ap (λ (y : Call). write t q (with_lf (call_text y))) d) v)

pub line-end : (q k at n : ℕ) → k ≤ 0 → q + 60 * k ≡ at + 60 * n → q ≡ at + 60 * n
line-end q k at n h e = omega arith

pub ranges-done : (x : RangeKind) (s t r : List ℕ) (q k : ℕ) → k ≤ 0 → write t q (text_of (map (range_text x) (rows_in here (range_size x) k s))) ≡ r → t ≡ r
ranges-done x s t r q k h v = sym (write-none t q) ∙ (rw (text-none (range_text x) here (range_size x) k s h) at v)

pub ruleset ranges = (tests, rounds, ranges-start, ranges-now, ranges-place, ranges-left, ranges-all, line-room, line-place, line-left, line-end, ranges-again, ranges-done)

-- ---- the loop over calls

pub calls-all : (stops : List StopRecord) (s t : List ℕ) (at : ℕ) → write t at (text_of (map call_text (rows_in (shown_call stops) call_size (calls# s) (drop service_head s)))) ≡ write t at (calls_text stops s)
unfolding calls_text call_rows
calls-all stops s t at = refl

module _ (n : ℕ) (stops : List StopRecord) (s : List ℕ) (p k : ℕ) (h : 0 < k) (v : every (call_sound n) (rows_in call_at call_size k (drop p s)) ≡ true) (c : Call) (d : c ≡ shown_call stops (drop p s)) where
  pub arrival-low : c.arrival ≤ 59999
  arrival-low = rw d (call-says n (call_at (drop p s)) (sound-now n s p k h v)).1

  pub departure-low : c.departure ≤ 59999
  departure-low = rw d (call-says n (call_at (drop p s)) (sound-now n s p k h v)).2

pub calls-done : (stops : List StopRecord) (s t r : List ℕ) (q k : ℕ) → k ≤ 0 → write t q (text_of (map call_text (rows_in (shown_call stops) call_size k s))) ≡ r → t ≡ r
calls-done stops s t r q k h v = sym (write-none t q) ∙ (rw (text-none call_text (shown_call stops) call_size k s h) at v)

pub ruleset calls = (tests, rounds, calls-just, calls-head, calls-start, calls-sound, sound-now, sound-left, calls-all, line-room, line-place, line-left, line-end, arrival-low, departure-low, calls-done)
