-- The ranges that follow each other, for `search turn`: those from the i-th of n on stand at p and after it, x is whether the bit field of the one at p is known, y whether it
-- runs, l what those before it say and r what all say. Assumes nothing.
use mathlib.Core.Path.{◌≡◌, sym, ap, ◌∙◌}
use mathlib.Core.List.{List, ◌∷◌}
use mathlib.Core.Bool.{Bool, true, false, cond, not}
use Prim.Native.Nat.{ℕ, ◌+◌, ◌-◌, ◌≤◌, ◌<◌}
use native.Mathlib.Nat.{sub-zero}
use native.Mathlib.Omega.{arith}
use lib.ListN.{get_or, drop}
use Rattle.std.specs.Prelude.{Result, Ok, Err}
use borrow.Author.Tests.{not-true, not-false, eq-eqb, ne_eqb}
use Rattle.base.proofs.Laws.{tests}
use Rattle.timetable.specs.Layout.{day_size}
use Rattle.timetable.specs.View.{View}
use Rattle.timetable.specs.declared.refusal.Refusal.{Refusal}
use Rattle.timetable.specs.declared.refusal.Refusal.TheVariants.{LegFieldUnknown}
use Rattle.timetable.specs.Table.{rows_in, day_at}
use Rattle.timetable.specs.Inner.Words.{day_held}
use Rattle.timetable.specs.declared.DayWords.{DayWords}
use Rattle.timetable.proofs.Rows.{rows-turn, rows_none, day-is}
use Rattle.course.proofs.legs.Ranges.{turn-start, turn-now, turn_fits, turn_next}
use Rattle.course.specs.declared.legs.DayLegs.{DayLegs}
use Rattle.course.specs.Inner.Turn.{no_legs, with_operated, with_idle, with_range, ranges_say}

-- ---- one range

module _ (from to : ℕ) (l : DayLegs) where
  pub operated-past : (l.end ≡ from → ⊥) → l ≡ with_operated from to l
  unfolding with_operated
  operated-past h = rw (ne_eqb l.end from h)

  pub operated-on : l.end ≡ from → record { start = l.start; end = to; again = to } ≡ with_operated from to l
  unfolding with_operated
  operated-on h = rw (eq-eqb l.end from h)

  pub idle-before : l.start ≡ from → record { start = to; end = to; again = to } ≡ with_idle from to l
  unfolding with_idle
  idle-before h = rw (eq-eqb l.start from h)

  module _ (h : l.start ≡ from → ⊥) where
    pub idle-past : (l.again ≡ from → ⊥) → l ≡ with_idle from to l
    unfolding with_idle
    idle-past g = rw (ne_eqb l.start from h, ne_eqb l.again from g)

    pub idle-after : l.again ≡ from → record { start = l.start; end = l.end; again = to } ≡ with_idle from to l
    unfolding with_idle
    idle-after g = rw (ne_eqb l.start from h, eq-eqb l.again from g)

  pub range_runs : (t : Bool) (x : DayLegs) → t ≡ true → x ≡ with_operated from to l → x ≡ with_range t from to l
  range_runs t x e f = rw e f

  pub range-idle : (t : Bool) (x : DayLegs) → t ≡ false → x ≡ with_idle from to l → x ≡ with_range t from to l
  range-idle t x e f = rw e f

-- ---- all

module _ (d : View) (k : ℕ) (v : List ℕ) (p n i : ℕ) (l : DayLegs) (r : Result DayLegs Refusal) (x : Bool) (h : i < n) (e : x ≡ d.known (get_or v p 0)) (g : ranges_say d k l (rows_in day_at day_size (n - i) (drop p v)) ≡ r) where
  say-here : cond x (ranges_say d k (with_range (d.runs (get_or v p 0) k) (get_or v (p + 1) 0) (get_or v (p + 2) 0) l) (rows_in day_at day_size (n - (i + 1)) (drop (p + day_size) v))) (Err LegFieldUnknown) ≡ r
  unfolding ranges_say
  say-here =
      ap (λ (b : Bool). cond b (ranges_say d k (with_range (d.runs (get_or v p 0) k) (get_or v (p + 1) 0) (get_or v (p + 2) 0) l) (rows_in day_at day_size (n - (i + 1)) (drop (p + day_size) v))) (Err LegFieldUnknown)) e
      ∙ ap (λ (y : DayWords). ranges_say d k l (day_held y ∷ rows_in day_at day_size (n - (i + 1)) (drop (p + day_size) v))) (day-is v p)
      ∙ sym (ap (ranges_say d k l) (rows-turn day_at day_size n i p v h)) ∙ g

  pub say-out : not x ≡ true → Err LegFieldUnknown ≡ r
  say-out o = rw (not-true x o) at say-here

  -- m is what the ranges up to this one say
  pub say-again : not x ≡ false → (y : Bool) → y ≡ d.runs (get_or v p 0) k → (m : DayLegs) → m ≡ with_range y (get_or v (p + 1) 0) (get_or v (p + 2) 0) l → ranges_say d k m (rows_in day_at day_size (n - (i + 1)) (drop (p + day_size) v)) ≡ r
  say-again o y q m z = rw (z, q) (rw (not-false x o) at say-here)

pub say-start : (d : View) (k n : ℕ) (v : List ℕ) (l : DayLegs) → l ≡ no_legs → ranges_say d k l (rows_in day_at day_size (n - 0) (drop 0 v)) ≡ ranges_say d k no_legs (rows_in day_at day_size n v)
say-start d k n v l e = rw (e, sub-zero)

pub say-done : (d : View) (k n i p : ℕ) (v : List ℕ) (l : DayLegs) (r : Result DayLegs Refusal) → n ≤ i → ranges_say d k l (rows_in day_at day_size (n - i) (drop p v)) ≡ r → Ok l ≡ r
unfolding ranges_say
say-done d k n i p v l r h g = rw (rows_none day_at day_size n i (drop p v) h) at g

pub ruleset turn = (tests, turn-start, turn-now, turn_fits, turn_next, operated-past, operated-on, idle-before, idle-past, idle-after, range_runs, range-idle, say-out, say-again, say-start, say-done)
