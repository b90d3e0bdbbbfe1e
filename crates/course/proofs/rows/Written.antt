-- The rows of a stretch, for `search rows`. Assumes nothing.
use mathlib.Core.Path.{◌≡◌, refl, sym, ap, ◌∙◌}
use mathlib.Core.List.{List, [], ◌∷◌, ◌++◌, map}
use mathlib.Core.Bool.{Bool, true, false, cond}
use Prim.Native.Nat.{ℕ, ◌+◌, ◌*◌, ◌-◌, ◌/◌, ◌%◌, ◌^◌, ◌≤◌, ◌<◌}
use native.Mathlib.Nat.{add-zero, sub-zero}
use native.Mathlib.Omega.{arith}
use lib.ListN.{length, drop}
use lib.Dec.{eqb}
use Rattle.base.proofs.Laws.{tests}
use Rattle.timetable.specs.Layout.{service_head, call_size, row_size, all_flags}
use Rattle.timetable.specs.Delivery.{Service}
use Rattle.timetable.specs.Table.{rows_in, call_at, with_stop}
use Rattle.timetable.specs.View.{View}
use Rattle.timetable.specs.Run.{category_on}
use Rattle.timetable.specs.Questions.{row_flags, row_of, rows_of}
use Rattle.timetable.specs.declared.Call.{Call}
use Rattle.words.specs.Words.{write}
use Rattle.words.proofs.Laws.{write-none, write-write, write-turn, length-write}
use Rattle.table.proofs.Says.{record-sized}
use Rattle.lookups.specs.Lookups.{times_of}
use Rattle.lookups.specs.declared.Times.{Times}
use Rattle.course.specs.declared.rows.WalkRow.{WalkRow}
use Rattle.course.specs.Inner.Rows.{row_for, walk_row_words, calls_from, call_shown, calls_shown, shown_by}
use Rattle.course.proofs.rows.Record.{leg-fits, next_fits, leg-within, call-stop, call-arrival, call-departure, call_flags}
use Rattle.course.proofs.rows.Calls.{calls-next}

-- ---- the flags

low : (f : ℕ) (t : Bool) → f ≤ all_flags → cond t 0 (f % 2 + f / 4 % 2 * 4) ≤ 5
low f true h = omega arith
low f false h = omega arith

high : (f : ℕ) (t : Bool) → f ≤ all_flags → cond t 0 (f / 2 % 2 * 2 + f / 8 * 8) ≤ 10
high f true h = omega arith
high f false h = omega arith

pub flags_fit : (n i f x y : ℕ) → f ≤ all_flags → x ≡ cond (eqb i 0) 0 (f % 2 + f / 4 % 2 * 4) → y ≡ cond (eqb i n) 0 (f / 2 % 2 * 2 + f / 8 * 8) → x + y < 2 ^ 32
flags_fit n i f x y h p q = omega (arith, p, q, low f (eqb i 0) h, high f (eqb i n) h)

-- ---- a row

module _ (d : View) (s : Service) (a n delay i : ℕ) (c : Call) where
  pub row_is : (m : ℕ) → m ≡ d.shown c.stop → (t : Times) → t ≡ times_of (d.times m) → (p q f g : ℕ) → p ≡ cond (eqb i 0) 0 (c.arrival + delay) → q ≡ cond (eqb i n) 0 (c.departure + delay) → f ≡ row_flags n i c.flags → g ≡ cond (eqb i n) 0 (category_on s (a + i)) → m ∷ p ∷ q ∷ f ∷ c.number ∷ c.high ∷ c.low ∷ g ∷ t.first ∷ t.second ∷ [] ≡ row_for d (shown_by d s) a n delay i (call_shown d c)
  unfolding row_for shown_by
  row_is m k t e p q f g ep eq ef eg = rw (ep, eq, ef, eg, e, k)

-- four words, three and three: u, v and x are the rows after each of them
module _ (t u : List ℕ) (at : ℕ) (r : WalkRow) (h : at + row_size ≤ length t) (e : u ≡ write t at (r.stop ∷ r.arrival ∷ r.departure ∷ r.flags ∷ [])) where
  abbrev four : List ℕ
  four = r.stop ∷ r.arrival ∷ r.departure ∷ r.flags ∷ []

  abbrev three : List ℕ
  three = r.number ∷ r.high ∷ r.low ∷ []

  pub row_room : at + 4 + 3 ≤ length u
  row_room = rw (e, length-write t at four (omega arith)) (omega arith)

  module _ (v : List ℕ) (f : v ≡ write u (at + 4) (r.number ∷ r.high ∷ r.low ∷ [])) where
    seven : v ≡ write t at (four ++ three)
    seven = f ∙ rw e (write-write t at four three (omega arith))

    pub row-rest : at + 7 + 3 ≤ length v
    row-rest = rw (seven, length-write t at (four ++ three) (omega arith)) (omega arith)

    pub row_written : (x : List ℕ) → x ≡ write v (at + 7) (r.category ∷ r.first ∷ r.second ∷ []) → x ≡ write t at (walk_row_words r)
    row_written x g = g ∙ rw seven (write-write t at (four ++ three) (r.category ∷ r.first ∷ r.second ∷ []) (omega arith))

pub leaving-last : (last : Bool) (y : ℕ) → last ≡ true → 0 ≡ cond last 0 y
leaving-last last y e = rw e

pub leaving-on : (last : Bool) (x y : ℕ) → last ≡ false → x ≡ y → x ≡ cond last 0 y
leaving-on last x y e f = rw e f

pub ruleset row = (tests, leg-fits, leaving-last, leaving-on, flags_fit, row_is, row_room, row-rest, row_written)

-- ---- one call: c was read, row is its row

pub call-written : (d : View) (z : Service) (s t u : List ℕ) (a n delay i at : ℕ) (c : Call) (row : WalkRow) → c ≡ call_at (drop (service_head + call_size * (a + i)) s) → walk_row_words row ≡ row_for d z a n delay i (call_shown d c) → u ≡ write t at (walk_row_words row) → u ≡ write t at (row_for d z a n delay i (call_shown d (call_at (drop (service_head + call_size * (a + i)) s))))
call-written d z s t u a n delay i at c row e f q = q ∙ ap (write t at) (f ∙ ap (λ (y : Call). row_for d z a n delay i (call_shown d y)) e)

pub ruleset one-call = (tests, record-sized, leg-fits, leg-within, call-stop, call-arrival, call-departure, call_flags, call-written)

-- ---- the rows: t before, u after the row of the i-th call, c

module _ (d : View) (z : Service) (t u : List ℕ) (a n delay i at : ℕ) (c : Call) (q : u ≡ write t at (row_for d z a n delay i c)) where
  pub rows-length : at + row_size ≤ length t → length u ≡ length t
  unfolding row_for
  rows-length g = rw q (length-write t at (row_of d z a n delay i c) (omega arith))

  pub rows-still : (l m : ℕ) → at ≡ row_size * i → i ≤ m → row_size * (m + 1) ≤ l → length t ≡ l → length u ≡ l
  rows-still l m w h g k = rows-length (omega arith) ∙ k

shown-next : (d : View) (s : List ℕ) (a n i : ℕ) (c : Call) → i ≤ n → c ≡ call_at (drop (service_head + call_size * (a + i)) s) → calls_shown d s (a + i) (n + 1 - i) ≡ call_shown d c ∷ calls_shown d s (a + (i + 1)) (n + 1 - (i + 1))
unfolding calls_shown
shown-next d s a n i c h e = ap (map (with_stop d.shown)) (calls-next s a n i c h e)

module _ (d : View) (z : Service) (s t u r : List ℕ) (a n delay i at : ℕ) (h : i ≤ n) (l : ℕ) (g : row_size * (n + 1) ≤ l) (k : length t ≡ l) (w : at ≡ row_size * i) (q : u ≡ write t at (row_for d z a n delay i (call_shown d (call_at (drop (service_head + call_size * (a + i)) s))))) where
  pub rows-again : write t at (rows_of d z a n delay i (calls_shown d s (a + i) (n + 1 - i))) ≡ r → write u (at + row_size) (rows_of d z a n delay (i + 1) (calls_shown d s (a + (i + 1)) (n + 1 - (i + 1)))) ≡ r
  unfolding rows_of row_for
  rows-again v = write-turn t u r at row_size (row_of d z a n delay i (call_shown d (call_at (drop (service_head + call_size * (a + i)) s)))) (rows_of d z a n delay (i + 1) (calls_shown d s (a + (i + 1)) (n + 1 - (i + 1)))) q refl (omega arith) (rw (shown-next d s a n i (call_at (drop (service_head + call_size * (a + i)) s)) h refl) at v)

pub rows_start : (d : View) (z : Service) (s t : List ℕ) (a n delay : ℕ) → write t 0 (rows_of d z a n delay 0 (calls_shown d s (a + 0) (n + 1 - 0))) ≡ write t 0 (rows_of d z a n delay 0 (calls_shown d s a (n + 1)))
rows_start d z s t a n delay = rw (add-zero a, sub-zero (n + 1))

pub rows-done : (d : View) (z : Service) (s t r : List ℕ) (a n delay i at : ℕ) → n < i → write t at (rows_of d z a n delay i (calls_shown d s (a + i) (n + 1 - i))) ≡ r → t ≡ r
unfolding rows_of calls_shown calls_from rows_in
rows-done d z s t r a n delay i at h v =
    let k : n + 1 - i ≡ 0 = omega arith in
    sym (write-none t at) ∙ (rw k at v)

pub ruleset rows = (tests, record-sized, next_fits, rows-still, rows_start, rows-again, rows-done)
