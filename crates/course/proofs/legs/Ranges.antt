-- The operating-day ranges of a service, for `search ranges`: x is what the code's test said, r what all ranges answer. Assumes nothing.
use mathlib.Core.Path.{◌≡◌, refl, ap, ◌∙◌}
use mathlib.Core.List.{List}
use mathlib.Core.Bool.{Bool, true, false, not, ◌&&◌, ◌||◌}
use Prim.Native.Nat.{ℕ, ◌+◌, ◌-◌, ◌*◌, ◌^◌, ◌≤◌, ◌<◌}
use native.Mathlib.Nat.{sub-zero}
use native.Mathlib.Omega.{arith}
use lib.ListN.{drop}
use borrow.Author.Tests.{lt-leb, le-leb, le-ltb, lt-ltb, not-true, not-false}
use Rattle.base.specs.Lists.{every, some_of}
use Rattle.base.proofs.Laws.{tests}
use Rattle.bitfield.specs.BitField.{runs_on}
use Rattle.timetable.specs.Layout.{day_size, most_period_days}
use Rattle.timetable.specs.View.{View}
use Rattle.timetable.specs.Table.{rows_in, day_at}
use Rattle.timetable.specs.Inner.Words.{day_read, day_held}
use Rattle.timetable.specs.declared.DayWords.{DayWords}
use Rattle.timetable.proofs.Rows.{room-start, room-now, room_next, rows-turn, rows_none, rows-done}
use Rattle.course.specs.Inner.Run.{range_known, range_runs}

-- ---- one range

module _ (fields : View) (range : DayWords) (leg : ℕ) where
  pub known-before : leg < range.from → true ≡ range_known fields leg (day_held range)
  unfolding range_known
  known-before h = rw (lt-leb range.from leg h)

  pub known-after : range.from ≤ leg → range.to ≤ leg → true ≡ range_known fields leg (day_held range)
  unfolding range_known
  known-after h g = rw (le-leb range.from leg h, le-ltb leg range.to g)

  pub known_on : range.from ≤ leg → leg < range.to → (x : Bool) → x ≡ fields.known range.field → x ≡ range_known fields leg (day_held range)
  unfolding range_known
  known_on h g x e = rw (le-leb range.from leg h, lt-ltb leg range.to g) e

  module _ (k : ℕ) where
    pub runs-before : leg < range.from → false ≡ range_runs fields k leg (day_held range)
    unfolding range_runs
    runs-before h = rw (lt-leb range.from leg h)

    pub runs_after : range.from ≤ leg → range.to ≤ leg → false ≡ range_runs fields k leg (day_held range)
    unfolding range_runs
    runs_after h g = rw (le-leb range.from leg h, le-ltb leg range.to g)

    -- ws are the words that the look-up gave
    pub runs-on-days : range.from ≤ leg → leg < range.to → k < most_period_days → (ws : List ℕ) → ((d : ℕ) → d < most_period_days → runs_on ws d ≡ fields.runs range.field d) → (x : Bool) → x ≡ runs_on ws k → x ≡ range_runs fields k leg (day_held range)
    unfolding range_runs
    runs-on-days h g l ws f x e = rw (le-leb range.from leg h, lt-ltb leg range.to g) (e ∙ f k l)

pub ruleset ranges = (tests, known-before, known-after, known_on, runs-before, runs_after, runs-on-days)

-- ---- n ranges: those from the i-th on stand at p and after it, and `range` is the one at p

module _ (at n i size l : ℕ) (h : i < n) (r : at + (n - i) * size ≤ l) where
  pub turn-now : at + size ≤ l
  turn-now = room-now at (n - i) size l (omega arith) r

  pub turn_fits : l < 2 ^ 64 → at + size < 2 ^ 64
  turn_fits k = omega (arith, turn-now)

  pub turn_next : at + size + (n - (i + 1)) * size ≤ l
  turn_next =
      let e : n - i - 1 ≡ n - (i + 1) = omega arith in
      rw e at (room_next at (n - i) size l (omega arith) r)

module _ (fields : View) (leg : ℕ) (v : List ℕ) (p n i : ℕ) (range : DayWords) (x r : Bool) (h : i < n) (q : range ≡ day_read (day_at (drop p v))) where
  module _ (e : x ≡ range_known fields leg (day_held range)) (g : every (range_known fields leg) (rows_in day_at day_size (n - i) (drop p v)) ≡ r) where
    known-here : (x && every (range_known fields leg) (rows_in day_at day_size (n - (i + 1)) (drop (p + day_size) v))) ≡ r
    unfolding every
    known-here =
        ap (λ (b : Bool). b && every (range_known fields leg) (rows_in day_at day_size (n - (i + 1)) (drop (p + day_size) v))) (e ∙ ap (λ (y : DayWords). range_known fields leg (day_held y)) q)
        ∙ (rw (rows-turn day_at day_size n i p v h) at g)

    pub known-again : not x ≡ false → every (range_known fields leg) (rows_in day_at day_size (n - (i + 1)) (drop (p + day_size) v)) ≡ r
    known-again o = rw (not-false x o) at known-here

    pub known_out : not x ≡ true → false ≡ r
    known_out o = rw (not-true x o) at known-here

  module _ (k : ℕ) (e : x ≡ range_runs fields k leg (day_held range)) (g : some_of (range_runs fields k leg) (rows_in day_at day_size (n - i) (drop p v)) ≡ r) where
    runs_here : (x || some_of (range_runs fields k leg) (rows_in day_at day_size (n - (i + 1)) (drop (p + day_size) v))) ≡ r
    unfolding some_of
    runs_here =
        ap (λ (b : Bool). b || some_of (range_runs fields k leg) (rows_in day_at day_size (n - (i + 1)) (drop (p + day_size) v))) (e ∙ ap (λ (y : DayWords). range_runs fields k leg (day_held y)) q)
        ∙ (rw (rows-turn day_at day_size n i p v h) at g)

    pub runs-again : x ≡ false → some_of (range_runs fields k leg) (rows_in day_at day_size (n - (i + 1)) (drop (p + day_size) v)) ≡ r
    runs-again o = rw o at runs_here

    pub runs-out : x ≡ true → true ≡ r
    runs-out o = rw o at runs_here

pub known_start : (fields : View) (leg n : ℕ) (v : List ℕ) → every (range_known fields leg) (rows_in day_at day_size (n - 0) (drop 0 v)) ≡ every (range_known fields leg) (rows_in day_at day_size n v)
known_start fields leg n v = rw sub-zero

pub known-done : (fields : View) (leg n i p : ℕ) (v : List ℕ) (r : Bool) → n ≤ i → every (range_known fields leg) (rows_in day_at day_size (n - i) (drop p v)) ≡ r → true ≡ r
known-done fields leg n i p v r h g = rows-done (range_known fields leg) day_at day_size (drop p v) (n - i) r (omega arith) g

pub runs-start : (fields : View) (k leg n : ℕ) (v : List ℕ) → some_of (range_runs fields k leg) (rows_in day_at day_size (n - 0) (drop 0 v)) ≡ some_of (range_runs fields k leg) (rows_in day_at day_size n v)
runs-start fields k leg n v = rw sub-zero

pub runs_done : (fields : View) (k leg n i p : ℕ) (v : List ℕ) (r : Bool) → n ≤ i → some_of (range_runs fields k leg) (rows_in day_at day_size (n - i) (drop p v)) ≡ r → false ≡ r
unfolding some_of
runs_done fields k leg n i p v r h g = rw (rows_none day_at day_size n i (drop p v) h) at g

pub turn-start : (n size l : ℕ) → n * size ≤ l → 0 + (n - 0) * size ≤ l
turn-start n size l h = rw sub-zero (room-start n size l h)

pub ruleset loops = (tests, turn-start, turn-now, turn_fits, turn_next, known_start, known-again, known_out, known-done, runs-start, runs-again, runs-out, runs_done)
