-- A stage along the course of a record, for `search courses`, `search alongs` and `search betweens`. Assumes nothing.
use mathlib.Core.Path.{◌≡◌, refl, sym, ap, ◌∙◌}
use mathlib.Core.List.{List, [], ◌∷◌, map}
use mathlib.Core.Bool.{Bool, true, false, cond, not, ◌&&◌}
use mathlib.Core.Option.{Option, none, some}
use Prim.Native.Nat.{ℕ, zero, suc, ◌+◌, ◌-◌, ◌*◌, ◌/◌, ◌%◌, ◌^◌, ◌≤◌, ◌<◌}
use native.Mathlib.Nat.{mul-suc, mul-zero}
use native.Mathlib.Omega.{arith}
use lib.ListN.{length, drop, get_elem?}
use lib.Seq.{drop-drop}
use lib.Dec.{ltb, leb, eqb}
use borrow.Author.Tests.{ltb-true, leb-true, not-true, not-false}
use Rattle.std.specs.Prelude.{Some, None, Ok, Err}
use Rattle.base.proofs.Laws.{tests, apart}
use Rattle.base.proofs.Loops.{and-true}
use Rattle.timetable.specs.Layout.{service_head, call_size, latest_time}
use Rattle.timetable.specs.Delivery.{Service}
use Rattle.timetable.specs.Runs.{has_run, lateness, opening_sound}
use Rattle.timetable.specs.Table.{rows_in, call_at, opening_at, calls#, service_at, record_sound}
use Rattle.timetable.specs.View.{View}
use Rattle.timetable.specs.Run.{Course, category_on, a_run, run_along, run_by, service_course}
use Rattle.timetable.specs.declared.Call.{Call}
use Rattle.timetable.specs.declared.Opening.{Opening}
use Rattle.table.proofs.Says.{record-says, record-sized, call-sound, call-says}
use Rattle.course.specs.Inner.Rows.{call_shown, shown_by, service_shown}
use Rattle.course.proofs.Laws.{legs-count, count-shown, course-shown}
use Rattle.course.proofs.Within.{along-within}
use Rattle.timetable.specs.declared.refusal.Refusal.{Refusal}
use Rattle.timetable.specs.declared.refusal.Refusal.TheVariants.{CallNotListed, NotBoardable}
use Rattle.connections.specs.declared.Part.{Part}
use Rattle.connections.specs.declared.Stage.{Stage}
use Rattle.connections.specs.Connection.{Staged, moment, row_call, stage_along, stage_between, stage_by}
use Rattle.connections.specs.Inner.Stages.{run_in, call_in, stage_in, stage_ridden, stage_calls}

-- ---- the course c of the service at the front of s, for a part p on day k

module _ (v : View) (s : List ℕ) (p : Part) (k : ℕ) (c : Course) (e : c ≡ service_course v (service_at s) p.repeat k) where
  opening-is : (service_shown v s).opening ≡ opening_at s
  unfolding service_at shown_by
  opening-is = refl

  course-is : run_by v (Ok (service_shown v s)) p.repeat k ≡ run_along (service_shown v s) (lateness (opening_at s) p.repeat) c
  course-is = rw (course-shown v (service_at s) p.repeat k, opening-is, sym e)

  pub course-refused : (refusal : Refusal) → c ≡ Err refusal → Err refusal ≡ stage_in v s p k
  course-refused refusal g = rw (course-is, g)

  pub course-idle : c ≡ Ok None → Err CallNotListed ≡ stage_in v s p k
  course-idle g = rw (course-is, g)

  module _ (a n : ℕ) (g : c ≡ Ok (Some (record { start = a; legs = n }))) where
    pub course-along : (y : Staged) → y ≡ stage_by k p (a_run (run_in v s p.repeat a n)) → y ≡ stage_in v s p k
    course-along y f = rw (course-is, g) f

    shown-along : service_course v (service_shown v s) p.repeat k ≡ Ok (Some (record { start = a; legs = n }))
    shown-along = course-shown v (service_at s) p.repeat k ∙ sym e ∙ g

    pub course-run : has_run (opening_at s) p.repeat ≡ true
    course-run = rw opening-is at (along-within a n v (service_shown v s) p.repeat k shown-along).0

    pub course-calls : (stops : ℕ) → record_sound stops s ≡ true → a + n < calls# s
    course-calls stops h = omega (arith, (along-within a n v (service_shown v s) p.repeat k shown-along).1, count-shown v (service_at s), legs-count s, (record-says stops s h).0.calls-low)

pub ruleset courses = (tests, record-sized, course-refused, course-idle, course-along, course-run, course-calls)

-- ---- the calls of a record

row-there : {X : Type 0} (f : List ℕ → X) (size n i : ℕ) (w : List ℕ) → i < n → get_elem? (rows_in f size n w) i ≡ some (f (drop (size * i) w))
unfolding rows_in
row-there f size zero i w h = absurd (omega arith)
row-there f size (suc n) zero w h = rw mul-zero
row-there f size (suc n) (suc i) w h =
    let z : size + size * i ≡ size * suc i = omega (arith, mul-suc size i) in
    row-there f size n i (drop size w) (omega arith) ∙ rw (drop-drop (size * i) size w, z)

map-there : {X Y : Type 0} (f : X → Y) (l : List X) (i : ℕ) (x : X) → get_elem? l i ≡ some x → get_elem? (map f l) i ≡ some (f x)
map-there f [] i x e = apart (cc)
map-there f (y ∷ l) zero x e = let z : y ≡ x = cc in rw z
map-there f (y ∷ l) (suc i) x e = map-there f l i x e

call-there : (v : View) (s : List ℕ) (i : ℕ) (c : Call) → i < calls# s → c ≡ call_in s i → get_elem? (service_shown v s).calls i ≡ some (call_shown v c)
unfolding shown_by service_at
call-there v s i c h e =
    map-there (call_shown v) (rows_in call_at call_size (calls# s) (drop service_head s)) i c
    (row-there call_at call_size (calls# s) i (drop service_head s) h ∙ ap some (rw (drop-drop (call_size * i) service_head s) (sym e)))

-- ---- along a stretch from call a on with n legs; t says whether both calls are among its rows

none-47 : (s : Service) (late k : ℕ) (p : Part) (o : Option Call) → stage_between s late k p o none ≡ Err CallNotListed
none-47 s late k p none = refl
none-47 s late k p (some b) = refl

abbrev among : ℕ → ℕ → ℕ → Bool
among a n i = leb a i && leb i (a + n)

module _ (p : Part) (a n : ℕ) (t : Bool) (e : t ≡ (among a n p.board && among a n p.alight)) where
  pub along-47 : (v : View) (s : List ℕ) (k : ℕ) → not t ≡ true → Err CallNotListed ≡ stage_by k p (a_run (run_in v s p.repeat a n))
  along-47 v s k f = go (among a n p.board) (among a n p.alight) (sym e ∙ not-true t f)
    where
      board : Option Call
      board = get_elem? (service_shown v s).calls p.board

      alight : Option Call
      alight = get_elem? (service_shown v s).calls p.alight

      go : (x y : Bool) → (x && y) ≡ false → Err CallNotListed ≡ stage_between (service_shown v s) (lateness (opening_at s) p.repeat) k p (cond x board none) (cond y alight none)
      go false y q = refl
      go true false q = sym (none-47 (service_shown v s) (lateness (opening_at s) p.repeat) k p board)
      go true true q = apart (cc)

  module _ (f : not t ≡ false) (s : List ℕ) (h : a + n < calls# s) where
    both : (among a n p.board ≡ true) × (among a n p.alight ≡ true)
    both = and-true (among a n p.board) (among a n p.alight) (sym e ∙ not-false t f)

    pub along-board : p.board < calls# s
    along-board = omega (arith, leb-true p.board (a + n) (and-true (leb a p.board) (leb p.board (a + n)) both.0).1)

    pub along-alight : p.alight < calls# s
    along-alight = omega (arith, leb-true p.alight (a + n) (and-true (leb a p.alight) (leb p.alight (a + n)) both.1).1)

    pub along-calls : (v : View) (k : ℕ) (y : Staged) → y ≡ stage_ridden v s p k → y ≡ stage_by k p (a_run (run_in v s p.repeat a n))
    along-calls v k y g = rw (both.0, both.1, call-there v s p.board (call_in s p.board) along-board refl, call-there v s p.alight (call_in s p.alight) along-alight refl) g

pub along-fits : (stops : ℕ) (s : List ℕ) → record_sound stops s ≡ true → (a n : ℕ) → a + n < calls# s → a + n < 2 ^ 32
along-fits stops s e a n h = omega (arith, (record-says stops s e).0.calls-high)

-- what a call of a sound record keeps
module _ (stops : ℕ) (s : List ℕ) (e : record_sound stops s ≡ true) (i : ℕ) (h : i < calls# s) (c : Call) (q : c ≡ call_in s i) where
  keeps : (c.stop < stops) × (c.arrival ≤ latest_time) × (c.departure ≤ latest_time) × (c.flags ≤ 15)
  keeps = call-says stops c (rw q (call-sound stops s e i h))

  pub keeps-stop : c.stop < stops
  keeps-stop = keeps.0

  pub keeps-arrival : c.arrival ≤ latest_time
  keeps-arrival = keeps.1

  pub keeps-departure : c.departure ≤ latest_time
  keeps-departure = keeps.2

pub ruleset alongs = (tests, record-sized, along-fits, along-47, along-board, along-alight, along-calls)

-- ---- the two calls: b and c, as they were read; z says whether they may be ridden

module _ (p : Part) (b c : Call) (z : Bool) (g : z ≡ (ltb p.board p.alight && (eqb (b.flags / 8 % 2) 0 && eqb (c.flags / 4 % 2) 0))) where
  pub ride-order : not z ≡ false → 1 ≤ p.alight
  ride-order o = omega (arith, ltb-true p.board p.alight (and-true (ltb p.board p.alight) (eqb (b.flags / 8 % 2) 0 && eqb (c.flags / 4 % 2) 0) (sym g ∙ not-false z o)).0)

  module _ (v : View) (s : List ℕ) (k : ℕ) (q : b ≡ call_in s p.board) (r : c ≡ call_in s p.alight) where
    abbrev ridden : Call → Call → Staged
    ridden x y = stage_between (service_shown v s) (lateness (opening_at s) p.repeat) k p (some (call_shown v x)) (some (call_shown v y))

    as_read : ridden b c ≡ ridden (call_in s p.board) (call_in s p.alight)
    as_read = ap (λ (x : Call). ridden x c) q ∙ ap (ridden (call_in s p.board)) r

    pub ride-48 : not z ≡ true → Err NotBoardable ≡ stage_ridden v s p k
    ride-48 o = rw (sym g ∙ not-true z o) at as_read

    pub ride-is : not z ≡ false → (y : Stage) → y ≡ stage_calls v s p k b c → Ok y ≡ stage_ridden v s p k
    ride-is o y i = ap Ok i ∙ (rw (sym g ∙ not-false z o) at as_read)

pub ruleset rides = (tests, record-sized, ride-order, ride-48, ride-is)

-- ---- from one call to another; o is what the opening line says, as it was read

module _ (stops : ℕ) (s : List ℕ) (e : record_sound stops s ≡ true) where
  pub between-head : service_head ≤ length s
  between-head = omega (arith, (record-says stops s e).0.head)

  pub between-sound : (o : Opening) → o ≡ opening_at s → opening_sound o ≡ true
  between-sound o q = ap opening_sound q ∙ (record-says stops s e).1.opening

pub between_run : (s : List ℕ) (r : ℕ) → has_run (opening_at s) r ≡ true → (o : Opening) → o ≡ opening_at s → has_run o r ≡ true
between_run s r h o q = ap (λ (p : Opening). has_run p r) q ∙ h

category-shown : (v : View) (s : List ℕ) (leg : ℕ) → category_on (service_shown v s) leg ≡ category_on (service_at s) leg
unfolding shown_by
category-shown v s leg = refl

pub between_is : (v : View) (s : List ℕ) (p : Part) (k : ℕ) (b c : Call) (o : Opening) → o ≡ opening_at s → (late : ℕ) → late ≡ lateness o p.repeat
    → (from to departs arrives departing arriving : ℕ) → from ≡ v.shown b.stop → departs ≡ moment k (b.departure + late) → departing ≡ category_on (service_at s) p.board
    → to ≡ v.shown c.stop → arrives ≡ moment k (c.arrival + late) → arriving ≡ category_on (service_at s) (p.alight - 1)
    → record { from = from; departs = departs; departing = departing; to = to; arrives = arrives; arriving = arriving }
    ≡ stage_calls v s p k b c
between_is v s p k b c o q late l from to departs arrives departing arriving ef ed eg et ea ei =
    rw (category-shown v s p.board, category-shown v s (p.alight - 1), sym q, sym l, ef, ed, eg, et, ea, ei)

pub ruleset betweens = (tests, record-sized, keeps-stop, keeps-arrival, keeps-departure, between-head, between-sound, between_run, between_is)
