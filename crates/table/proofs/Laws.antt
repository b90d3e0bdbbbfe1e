-- The needs of the table's functions, a ruleset for each family. Assumes nothing.
use mathlib.Core.Path.{◌≡◌, ap, ◌∙◌, sym}
use mathlib.Core.List.{List}
use mathlib.Core.Bool.{Bool, true, false, not}
use Prim.Native.Nat.{ℕ, ◌+◌, ◌-◌, ◌*◌, ◌^◌, ◌≤◌, ◌<◌}
use native.Mathlib.Omega.{arith}
use lib.ListN.{length, drop}
use lib.Dec.{ltb, leb}
use borrow.Author.Tests.{not-true, not-false}
use Rattle.base.specs.Lists.{every}
use Rattle.base.proofs.Laws.{tests}
use Rattle.timetable.specs.Layout.{call_size}
use Rattle.timetable.specs.Ranges.{in_order}
use Rattle.timetable.specs.Table.{rows_in, legs_at, call_at, call_sound, legs_sound}
use Rattle.timetable.specs.Inner.Words.{legs_read, legs_held}
use Rattle.timetable.specs.declared.LegWords.{LegWords}
use Rattle.timetable.specs.declared.Call.{Call}
use Rattle.timetable.proofs.Rows.{stride-turn, rows-again, rows_out, rows-done}

-- ---- the rows of a record, for `search rows`: the c-th of n

pub one_less : (n c : ℕ) → n - c - 1 ≡ n - (c + 1)
one_less n c = omega arith

-- a call y was read at p, and x says whether it is sound
module _ (stops : ℕ) (w : List ℕ) (p n c : ℕ) (r x : Bool) (y : Call) (h : c < n) (d : y ≡ call_at (drop p w)) (e : x ≡ call_sound stops y) (v : every (call_sound stops) (rows_in call_at call_size (n - c) (drop p w)) ≡ r) where
  pub calls-again : not x ≡ false → every (call_sound stops) (rows_in call_at call_size (n - (c + 1)) (drop (p + call_size) w)) ≡ r
  calls-again q = rw (one_less n c) at (rows-again (call_sound stops) call_at call_size w p (n - c) r x (omega arith) (e ∙ ap (call_sound stops) d) v q)

  pub calls-out : not x ≡ true → false ≡ r
  calls-out = rows_out (call_sound stops) call_at call_size w p (n - c) r x (omega arith) (e ∙ ap (call_sound stops) d) v

pub calls-done : (stops : ℕ) (w : List ℕ) (n c : ℕ) (r : Bool) → n ≤ c → every (call_sound stops) (rows_in call_at call_size (n - c) w) ≡ r → true ≡ r
calls-done stops w n c r h = rows-done (call_sound stops) call_at call_size w (n - c) r (omega arith)

-- in order, by whether from may equal to
module _ (loose : Bool) (f t : ℕ) where
  pub loose-order : loose ≡ true → leb f t ≡ in_order loose f t
  loose-order e = rw e

  pub strict-order : loose ≡ false → ltb f t ≡ in_order loose f t
  strict-order e = rw e

-- a range's ends; x says whether they are in order
module _ (g : LegWords) (c : ℕ) (loose x : Bool) (e : x ≡ in_order loose g.from g.to) where
  pub legs-bad : not x ≡ true → false ≡ legs_sound loose c (legs_held g)
  legs-bad n = rw (sym e ∙ not-true x n)

  pub legs-end : not x ≡ false → ltb g.to c ≡ legs_sound loose c (legs_held g)
  legs-end n = rw (sym e ∙ not-false x n)

-- those of the range at p, after so many words of its own; x says whether they are sound
module _ (w : List ℕ) (p n i own c : ℕ) (loose r x : Bool) (h : i < n) (g : LegWords) (q : g ≡ legs_read (legs_at own (drop p w))) (e : x ≡ legs_sound loose c (legs_held g)) (v : every (legs_sound loose c) (rows_in (legs_at own) (own + 2) (n - i) (drop p w)) ≡ r) where
  legs-here : x ≡ legs_sound loose c (legs_at own (drop p w))
  legs-here = e ∙ ap (λ (y : LegWords). legs_sound loose c (legs_held y)) q

  pub ranges-again : not x ≡ false → every (legs_sound loose c) (rows_in (legs_at own) (own + 2) (n - (i + 1)) (drop (p + (own + 2)) w)) ≡ r
  ranges-again z = rw (one_less n i) at (rows-again (legs_sound loose c) (legs_at own) (own + 2) w p (n - i) r x (omega arith) legs-here v z)

  pub ranges-out : not x ≡ true → false ≡ r
  ranges-out = rows_out (legs_sound loose c) (legs_at own) (own + 2) w p (n - i) r x (omega arith) legs-here v

pub ranges-done : (w : List ℕ) (n i own c : ℕ) (loose r : Bool) → n ≤ i → every (legs_sound loose c) (rows_in (legs_at own) (own + 2) (n - i) w) ≡ r → true ≡ r
ranges-done w n i own c loose r h = rows-done (legs_sound loose c) (legs_at own) (own + 2) w (n - i) r (omega arith)

-- those from p on are within the words
module _ (w : List ℕ) (p n i own : ℕ) (h : i < n) (v : p + (own + 2) * (n - i) ≤ length w) where
  pub ranges-rest : p + (own + 2) + (own + 2) * (n - (i + 1)) ≤ length w
  ranges-rest =
      let t = rw (one_less n i) at (stride-turn (own + 2) (n - i) (omega arith)) in
      omega (arith, t)

  pub ranges-legs : p + (own + 2) ≤ length w
  ranges-legs = omega (arith, ranges-rest)

  pub ranges-size : length w < 2 ^ 64 → own + 2 < 2 ^ 64
  ranges-size l = omega (arith, ranges-rest)

  pub ranges-next : length w < 2 ^ 64 → p + (own + 2) < 2 ^ 64
  ranges-next l = omega (arith, ranges-rest)

pub ruleset rows = (tests, calls-again, calls-out, calls-done, loose-order, strict-order, legs-bad, legs-end, ranges-again, ranges-out, ranges-done, ranges-rest, ranges-legs, ranges-size, ranges-next)
