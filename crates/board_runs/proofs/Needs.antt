-- The needs of the functions of src: each value that code computed stands with its equation. Assumes nothing.
use mathlib.Core.Path.{◌≡◌, refl, ap, ◌∙◌, sym}
use mathlib.Core.List.{List, [], ◌∷◌, map}
use mathlib.Core.Bool.{Bool, true, false, cond, not, ◌&&◌}
use mathlib.Core.Option.{Option, none, some}
use Prim.Native.Nat.{ℕ, zero, suc, ◌+◌, ◌-◌, ◌*◌, ◌/◌, ◌%◌, ◌^◌, ◌≤◌, ◌<◌}
use native.Mathlib.Nat.{mul-zero, mul-suc}
use native.Mathlib.Omega.{arith}
use lib.ListN.{length, get_or, get_elem?, drop}
use lib.Seq.{drop-drop}
use lib.Dec.{eqb, leb, ltb}
use borrow.Author.Tests.{eq-eqb, ne_eqb, lt-ltb, le-ltb, le-leb, lt-leb, not-true, not-false}
use Rattle.std.specs.Prelude.{Some, Ok, Err}
use Rattle.base.specs.Lists.{gathered, upto}
use Rattle.base.proofs.Laws.{tests, by-ltb}
use Rattle.base.proofs.Loops.{upto_next, upto-none}
use Rattle.timetable.specs.Run.{Course, not_running}
use Rattle.timetable.specs.Layout.{service_head, call_size, latest_time, most_delay}
use Rattle.timetable.specs.Runs.{has_run, lateness, opening_sound}
use Rattle.timetable.specs.Table.{calls#, rows_in, call_at, opening_at, service_at, with_stop, with_stops}
use Rattle.timetable.specs.View.{View}
use Rattle.timetable.specs.declared.Call.{Call}
use Rattle.timetable.specs.declared.Opening.{Opening}
use Rattle.timetable.specs.declared.Along.{Along}
use Rattle.timetable.specs.declared.refusal.Refusal.{Refusal}
use Rattle.table.proofs.Says.{sizes-say, call-says}
use Rattle.words.specs.Words.{write}
use Rattle.words.proofs.Laws.{write-none, write-turn, length-write}
use Rattle.index.specs.Index.{view_in}
use Rattle.sort.specs.Rows.{board_row_words}
use Rattle.spans.specs.Spans.{runs#, span_of}
use Rattle.spans.specs.declared.Span.{Span}
use Rattle.spans.proofs.Meaning.{has-below, end-runs}
use Rattle.board.specs.Board.{boardable, departure_of, runs_from, call_departures, leaves}
use Rattle.board_runs.specs.Batch.{Batched, call_gives}
use Rattle.board_runs.specs.declared.Batch.{Batch}
use Rattle.board_runs.specs.Inner.Goes.{CallReady}
use Rattle.board_runs.proofs.Interval.{runs-in-a-row}
use Rattle.board_runs.proofs.Given.{call-room}

-- ---- a batch

pub none-batched : Batched (record { service = 0; place = 0; departure = 0; opening = record { number = 0; high = 0; low = 0; repeats = 0; offset = 0; kind = 0 }; low = 0; high = 0 }) []
unfolding opening_sound upto runs#
none-batched = record { rows = refl; sound = refl; there = omega arith; early = omega arith }

pub span-batched : (o : Opening) (d t u i p : ℕ) (s : Span) → opening_sound o ≡ true → d ≤ latest_time → s ≡ span_of o d t u
    → Batched (record { service = i; place = p; departure = d; opening = o; low = s.low; high = s.high }) (runs_from t u i o p d)
unfolding span_of
span-batched o d t u i p s h l e = rw e (record { rows = runs-in-a-row t u i o p d h; sound = h; there = end-runs o h d u; early = l })

pub ruleset batches = (tests, none-batched, span-batched)

-- ---- a course

module _ (a m p : ℕ) where
  pub left-early : p < a → false ≡ (leb a p && ltb p (a + m))
  left-early h = rw (lt-leb a p h)

  pub left_along : a ≤ p → ltb (p - a) m ≡ (leb a p && ltb p (a + m))
  left_along h = rw (le-leb a p h) (by-ltb (λ t. t ≡ ltb p (a + m)) (p - a) m (λ q. sym (lt-ltb p (a + m) (omega arith))) (λ q. sym (le-ltb p (a + m) (omega arith))))

pub goes-along : (p : ℕ) (c : Course) (x : Along) (r : Bool) → c ≡ Ok (Some x) → r ≡ (leb x.start p && ltb p (x.start + x.legs)) → r ≡ leaves c p
goes-along p c x r e q = q ∙ rw e

pub goes-idle : (p : ℕ) (c : Course) → c ≡ not_running → false ≡ leaves c p
goes-idle p c e = rw e

pub goes-refused : (p : ℕ) (refusal : Refusal) (c : Course) → c ≡ Err refusal → false ≡ leaves c p
goes-refused p refusal c e = rw e

pub ruleset courses = (tests, left-early, left_along, goes-along, goes-idle, goes-refused)

-- ---- a call of a record

row-there : {X Y : Type 0} (g : X → Y) (f : List ℕ → X) (s n i : ℕ) (w : List ℕ) → i < n → get_elem? (map g (rows_in f s n w)) i ≡ some (g (f (drop (s * i) w)))
unfolding rows_in
row-there g f s zero i w h = absurd (omega arith)
row-there g f s (suc n) zero w h = rw mul-zero
row-there {X} {Y} g f s (suc n) (suc i) w h =
    let e : s + s * i ≡ s * suc i = omega (arith, mul-suc s i) in
    row-there g f s n i (drop s w) (omega arith) ∙ ap (λ (v : List ℕ). some (g (f v))) (drop-drop (s * i) s w ∙ ap (λ (k : ℕ). drop k w) e)

row-none : {X Y : Type 0} (g : X → Y) (f : List ℕ → X) (s n i : ℕ) (w : List ℕ) → n ≤ i → get_elem? (map g (rows_in f s n w)) i ≡ none
unfolding rows_in
row-none g f s zero zero w h = refl
row-none g f s zero (suc i) w h = refl
row-none g f s (suc n) zero w h = absurd (omega arith)
row-none g f s (suc n) (suc i) w h = row-none g f s n i (drop s w) (omega arith)

module _ (f : ℕ → ℕ) (s : List ℕ) (p : ℕ) where
  pub call-there : p < calls# s → get_elem? (with_stops f (service_at s)).calls p ≡ some (with_stop f (call_at (drop (service_head + call_size * p) s)))
  unfolding service_at
  call-there h = row-there (with_stop f) call_at call_size (calls# s) p (drop service_head s) h ∙ ap (λ (v : List ℕ). some (with_stop f (call_at v))) (drop-drop (call_size * p) service_head s)

  pub call_none : calls# s ≤ p → get_elem? (with_stops f (service_at s)).calls p ≡ none
  unfolding service_at
  call_none h = row-none (with_stop f) call_at call_size (calls# s) p (drop service_head s) h

-- the words of a call are there
module _ (stops : ℕ) (s : List ℕ) (p : ℕ) (e : CallReady stops s p) where
  pub head-there : 6 < length s
  head-there = omega (arith, (sizes-say s e.opened.sized).head)

  pub head-whole : 12 ≤ length s
  head-whole = (sizes-say s e.opened.sized).head

  module _ (h : p < get_or s 6 0) where
    pub call-within : 12 + 7 * p + 7 ≤ length s
    call-within = call-room s p e.opened h

    module _ (c : Call) (q : c ≡ call_at (drop (12 + 7 * p) s)) where
      says : (c.stop < stops) × (c.arrival ≤ latest_time) × (c.departure ≤ latest_time) × (c.flags ≤ 15)
      says = call-says stops c (rw q (e.call h))

      pub call-stop : c.stop < stops
      call-stop = says.0

      pub call-early : c.departure ≤ latest_time
      call-early = says.2

module _ (w x s : List ℕ) (n t u i p : ℕ) where
  abbrev there : Option Call
  there = get_elem? (with_stops (view_in w x).shown (service_at s)).calls p

  pub call-past : (b : Batch) → get_or s 6 0 ≤ p → Batched b [] → Batched b (call_gives (view_in w x) n t u i s p)
  call-past b h g = rw (call_none (view_in w x).shown s p h) g

  module _ (h : p < get_or s 6 0) (c : Call) (q : c ≡ call_at (drop (12 + 7 * p) s)) (y : Bool)
      (r : y ≡ (eqb ((view_in w x).shown c.stop) n && boardable (record { stop = c.stop; arrival = 0; departure = 0; flags = c.flags; number = 0; high = 0; low = 0 }))) where
    told : call_departures n t u i (opening_at s) p (get_elem? (with_stops (view_in w x).shown (service_at s)).calls p) ≡ cond y (runs_from t u i (opening_at s) p c.departure) []
    told = ap (call_departures n t u i (opening_at s) p) (call-there (view_in w x).shown s p h) ∙ rw (r, q)

    pub call-off : (b : Batch) → not y ≡ true → Batched b [] → Batched b (call_gives (view_in w x) n t u i s p)
    call-off b k g = rw (told, not-true y k) g

    pub call-on : (b : Batch) (o : Opening) → not y ≡ false → o ≡ opening_at s → Batched b (runs_from t u i o p c.departure) → Batched b (call_gives (view_in w x) n t u i s p)
    call-on b o k d g = rw (told, not-false y k) (rw d at g)

pub opening-is-fine : (stops : ℕ) (s : List ℕ) (p : ℕ) (o : Opening) → CallReady stops s p → o ≡ opening_at s → opening_sound o ≡ true
opening-is-fine stops s p o e q = rw q e.opened.opening

pub ruleset calls = (tests, head-there, head-whole, opening-is-fine, call-within, call-stop, call-early, call-past, call-off, call-on)

-- place p of a record, as a place of its words
module _ (s : List ℕ) (p j : ℕ) (h : 12 + 7 * p + 7 ≤ length s) (q : j ≡ p) where
  pub place-times : length s < 2 ^ 64 → 7 * j < 2 ^ 64
  place-times l = omega (arith, q)

  pub place-sum : length s < 2 ^ 64 → 12 + 7 * j < 2 ^ 64
  place-sum l = omega (arith, q)

  pub place_in : 12 + 7 * j + 7 ≤ length s
  place_in = omega (arith, q)

  pub place-call : (c : Call) → c ≡ call_at (drop (12 + 7 * j) s) → c ≡ call_at (drop (12 + 7 * p) s)
  place-call c e = rw q at e

pub ruleset places = (tests, place-times, place-sum, place_in, place-call)

-- ---- the stop and the flags

module _ (v : View) (place flags n m : ℕ) (e : m ≡ v.shown place) where
  pub stop-other : (m ≡ n → ⊥) → false ≡ (eqb (v.shown place) n && boardable (record { stop = place; arrival = 0; departure = 0; flags = flags; number = 0; high = 0; low = 0 }))
  stop-other h = rw (← e, ne_eqb m n h)

  pub stop-same : m ≡ n → not (eqb (flags / 8 % 2) 1) ≡ (eqb (v.shown place) n && boardable (record { stop = place; arrival = 0; departure = 0; flags = flags; number = 0; high = 0; low = 0 }))
  stop-same h = rw (← e, eq-eqb m n h)

pub ruleset stops = (tests, stop-other, stop-same)

-- ---- how many, and their rows

pub size_none : (a b : ℕ) → b ≤ a → 0 ≡ b - a
size_none a b h = omega arith

module _ (o : Opening) (s : opening_sound o ≡ true) (r : ℕ) (h : r < runs# o) where
  pub run-there : has_run o r ≡ true
  run-there = has-below o s r ∙ lt-ltb r (runs# o) h

pub time_fits : (d l : ℕ) → d ≤ latest_time → l ≤ most_delay → d + l < 2 ^ 32
time_fits d l a b = omega arith

pub row_put : (t t' : List ℕ) (to i p d r l m : ℕ) (o : Opening) → l ≡ lateness o r → m ≡ d + l → t' ≡ write t to (m ∷ i ∷ r ∷ p ∷ []) → t' ≡ write t to (board_row_words (departure_of i o p d r))
row_put t t' to i p d r l m o e q g = g ∙ rw (q, e)

pub ruleset row = (tests, size_none, run-there, time_fits, row_put)

module _ (o : Opening) (i p d low high : ℕ) where
  abbrev rows_from : ℕ → List ℕ
  rows_from r = gathered board_row_words (map (departure_of i o p d) (upto (high - r) r))

  module _ (t t₀ g : List ℕ) (at to r : ℕ) (k : to + 4 * (high - r) ≡ at + 4 * (high - low)) (l : length t ≡ length t₀) (m : at + 4 * (high - low) ≤ length t₀) where
    pub rows-room : r < high → to + 4 ≤ length t
    rows-room h = omega (arith, k, l, m)

    pub rows_fit : r < high → length t < 2 ^ 64 → to + 4 < 2 ^ 64
    rows_fit h c = omega (arith, rows-room h)

    pub rows-count : r < high → to + 4 + 4 * (high - (r + 1)) ≡ at + 4 * (high - low)
    rows-count h = omega (arith, k)

    module _ (t' : List ℕ) (w : t' ≡ write t to (board_row_words (departure_of i o p d r))) where
      pub rows_long : r < high → length t' ≡ length t₀
      rows_long h = ap length w ∙ length-write t to (board_row_words (departure_of i o p d r)) (rows-room h) ∙ l

      pub rows-turn : r < high → write t to (gathered board_row_words (map (departure_of i o p d) (upto (high - r) r))) ≡ g → write t' (to + 4) (gathered board_row_words (map (departure_of i o p d) (upto (high - (r + 1)) (r + 1)))) ≡ g
      unfolding gathered
      rows-turn h v =
          write-turn t t' g to 4 (board_row_words (departure_of i o p d r)) (gathered board_row_words (map (departure_of i o p d) (upto (high - (r + 1)) (r + 1)))) w refl (rows-room h)
          (rw (upto_next high r h) at v)

  pub rows_end : (t g : List ℕ) (to r : ℕ) → high ≤ r → write t to (gathered board_row_words (map (departure_of i o p d) (upto (high - r) r))) ≡ g → t ≡ g
  unfolding gathered
  rows_end t g to r h v = sym (write-none t to) ∙ (rw (upto-none high r h) at v)

pub rows_last : (high low at to r : ℕ) → high ≤ r → to + 4 * (high - r) ≡ at + 4 * (high - low) → to ≡ at + 4 * (high - low)
rows_last high low at to r h k = omega (arith, k)

pub rows-some : (r high n : ℕ) → r < high → high ≤ n → r < n
rows-some r high n a b = omega arith

pub ruleset rows = (tests, rows-room, rows_fit, rows-count, rows_long, rows-turn, rows_end, rows_last, rows-some)
