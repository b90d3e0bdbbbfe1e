-- The needs of the functions that tell whether a record is sound and the day's course goes on from a place. Assumes nothing.
use mathlib.Core.Path.{◌≡◌, refl, sym, ap, ◌∙◌}
use mathlib.Core.List.{List, []}
use mathlib.Core.Bool.{Bool, true, false, cond, not, ◌&&◌}
use mathlib.Core.Option.{Option, none, some}
use Prim.Native.Nat.{ℕ, ◌+◌, ◌-◌, ◌*◌, ◌≤◌, ◌<◌}
use native.Mathlib.Omega.{arith}
use lib.ListN.{length, get_or, take, drop, drop_of_length-le}
use lib.Dec.{eqb, ltb, leb}
use borrow.Author.Tests.{not-true, not-false, le-leb, lt-leb, lt-ltb, le-ltb}
use Rattle.std.specs.Prelude.{Result, Ok, Err, is_ok, ⊤}
use Rattle.base.proofs.Laws.{tests, clash, by-leb, by-ltb, by_eqb}
use Rattle.base.proofs.Loops.{and-true}
use Rattle.timetable.specs.Layout.{service_head, call_size, day_size}
use Rattle.timetable.specs.Runs.{opening_sound}
use Rattle.timetable.specs.Table.{rows_in, day_at, call_at, opening_at, calls#, days#, day_place, service_at, stops#, services#, call_sound, sizes_sound, record_sound}
use Rattle.timetable.specs.declared.Call.{Call}
use Rattle.timetable.specs.View.{View}
use Rattle.timetable.specs.Run.{Course, runs_along, not_running, calls_refusal, course_by, stretch_course, course_on}
use Rattle.timetable.specs.declared.Opening.{Opening}
use Rattle.timetable.specs.declared.refusal.Refusal.{Refusal}
use Rattle.timetable.specs.declared.refusal.Refusal.TheVariants.{TwoStretches}
use Rattle.table.specs.Steady.{calls_steady}
use Rattle.table.proofs.Says.{sizes-say, head-word, header-word, record-sized, call-sound}
use Rattle.cover.specs.Inner.Cover.{legs_in, in_turn}
use Rattle.index.specs.Index.{view_in}
use Rattle.index.specs.Inner.Ready.{Ready}
use Rattle.course.specs.declared.legs.DayLegs.{DayLegs}
use Rattle.course.specs.Inner.Run.{noted}
use Rattle.course.specs.Inner.Turn.{no_legs, ranges_say}
use Rattle.course.proofs.legs.Legs.{head-words, legs-fit, days-room}
use Rattle.course.specs.Inner.Rows.{calls_from}
use Rattle.course.specs.Inner.Course.{stretches_course}
use Rattle.course.proofs.Laws.{stretch-calls}
use Rattle.course.proofs.Turn.{turn-31, turn-order, turn-within, turn-day}
use Rattle.board.specs.Board.{leaves}
use Rattle.board_runs.specs.Batch.{days_follow, followed, left_on, call_stands, says_left, trusted, call_gives, departures_at, record_of, departures_in, Batched, Shelved}
use Rattle.board_runs.specs.declared.Batch.{Batch}
use Rattle.board_runs.specs.Inner.Goes.{goes_from, goes_along, goes_in, along_in, record_gives, is_none, unrefused, Opened, DaysInTurn, CallReady}
use Rattle.board_runs.proofs.Given.{followed-days, goes-ready, goes_none, call-room, unmarked, none-past, given_by}
use Rattle.board_runs.proofs.Plain.{plain-record, plain-fine}
use Rattle.board_runs.proofs.Quiet.{past-none, shelf-fits, shelf-some, shelf-place}

and_no : (b : Bool) → false ≡ (b && false)
and_no true = refl
and_no false = refl

-- ---- a stretch: from one of its calls the course goes on where no call is refused

module _ (s : List ℕ) (a n p : ℕ) where
  by-refusal : (o : Option Refusal) → a ≤ p → p < a + n → leaves (course_by o (runs_along a n)) p ≡ is_none o
  by-refusal none h g = rw (le-leb a p h, lt-ltb p (a + n) g)
  by-refusal (some refusal) h g = refl

  along-leaves : a + n < calls# s → a ≤ p → p < a + n → leaves (stretch_course (service_at s) a n) p ≡ unrefused s a n
  unfolding stretch_course
  along-leaves b h g = rw (stretch-calls s a n b) (by-refusal (calls_refusal (service_at s) a n 0 0 (calls_from s a (n + 1))) h g)

  past-refusal : (o : Option Refusal) → (leb a p && ltb p (a + n)) ≡ false → leaves (course_by o (runs_along a n)) p ≡ false
  past-refusal none e = e
  past-refusal (some refusal) e = refl

  off-leaves : (leb a p && ltb p (a + n)) ≡ false → leaves (stretch_course (service_at s) a n) p ≡ false
  unfolding stretch_course
  off-leaves e = past-refusal (calls_refusal (service_at s) a n 0 0 (take (n + 1) (drop a (service_at s).calls))) e

-- ---- where the first stretch begins and ends, and where another begins

module _ (stops : ℕ) (s : List ℕ) (a b c p : ℕ) where
  -- whatever it is before
  off-any : leaves (stretch_course (service_at s) a (b - a)) p ≡ false → leaves (stretches_course (service_at s) (calls# s - 1) a b c) p ≡ false
  unfolding stretches_course
  off-any e =
      by-leb (λ (t : Bool). leaves (cond t not_running (cond (ltb c (calls# s - 1)) (Err TwoStretches) (stretch_course (service_at s) a (b - a)))) p ≡ false) (calls# s - 1) a
      (λ h. refl)
      (λ h. by-ltb (λ (t : Bool). leaves (cond t (Err TwoStretches) (stretch_course (service_at s) a (b - a))) p ≡ false) c (calls# s - 1) (λ g. refl) (λ g. e))

  before : p < a → goes_along stops s a b c p ≡ false
  before h = ap (λ (t : Bool). record_sound stops s && t) (off-any (off-leaves s a (b - a) p (rw (lt-leb a p h)))) ∙ sym (and_no (record_sound stops s))

  -- whatever the mark
  neither : (m : Bool) → left_on (calls# s - 1) a b c p ≡ false → goes_along stops s a b c p ≡ false → false ≡ along_in m stops s a b c p
  neither m e f = go (m && followed s)
    where
      go : (x : Bool) → false ≡ cond x (left_on (calls# s - 1) a b c p && call_stands stops s p) (goes_along stops s a b c p)
      go true = sym (ap (λ (y : Bool). y && call_stands stops s p) e)
      go false = sym f

  pub along-before : (m : Bool) → p < a → false ≡ along_in m stops s a b c p
  along-before m h = neither m (rw (lt-leb a p h)) (before h)

  module _ (o : a ≤ b) where
    after : b ≤ p → goes_along stops s a b c p ≡ false
    after h =
        let l : a + (b - a) ≤ p = omega arith in
        let m : a ≤ p = omega arith in
        ap (λ (t : Bool). record_sound stops s && t) (off-any (off-leaves s a (b - a) p (rw (le-leb a p m, le-ltb p (a + (b - a)) l)))) ∙ sym (and_no (record_sound stops s))

    pub along-after : (m : Bool) → b ≤ p → false ≡ along_in m stops s a b c p
    along-after m h = neither m (rw (le-ltb p b h) (sym (and_no (leb a p)))) (after h)

    module _ (i : b ≤ calls# s - 1) (h : a ≤ p) (g : p < b) where
      begins : leb (calls# s - 1) a ≡ false
      begins = lt-leb (calls# s - 1) a (omega arith)

      two : c < calls# s - 1 → goes_along stops s a b c p ≡ false
      unfolding stretches_course
      two l = rw (begins, lt-ltb c (calls# s - 1) l) (sym (and_no (record_sound stops s)))

      pub along-two : (m : Bool) → c < get_or s 6 0 - 1 → false ≡ along_in m stops s a b c p
      along-two m l = neither m (rw (lt-leb (calls# s - 1) c l, le-leb a p h, lt-ltb p b g)) (two l)

      module _ (l : get_or s 6 0 - 1 ≤ c) where
        one : leaves (stretches_course (service_at s) (calls# s - 1) a b c) p ≡ unrefused s a (b - a)
        unfolding stretches_course
        one = rw (begins, le-ltb c (calls# s - 1) l) (along-leaves s a (b - a) p (omega arith) h (omega arith))

        -- by what calls that pass say
        plainly : followed s ≡ true → calls_steady stops s ≡ true → goes_along stops s a b c p ≡ true
        plainly y z = rw (plain-record stops s y z, one, plain-fine stops s y z a (b - a) (omega arith) (omega arith))

        -- y says whether the ranges follow
        module _ (m y : Bool) (f : y ≡ followed s) where
          pub along-loose : not y ≡ true → (r : Bool) → r ≡ (record_sound stops s && unrefused s a (b - a)) → r ≡ along_in m stops s a b c p
          along-loose n r e =
              e ∙ ap (λ (t : Bool). record_sound stops s && t) (sym one)
              ∙ ap (λ (t : Bool). cond t (left_on (calls# s - 1) a b c p && call_stands stops s p) (goes_along stops s a b c p)) (and_no m ∙ ap (λ (t : Bool). m && t) (sym (not-true y n) ∙ f))

          pub along-steady : not y ≡ false → m ≡ true → (r : Bool) → r ≡ call_stands stops s p → r ≡ along_in m stops s a b c p
          along-steady n d r e = e ∙ sym (rw (d, sym f ∙ not-false y n, le-leb a p h, lt-ltb p b g, le-leb (calls# s - 1) c l) refl)

          pub along-plain : not y ≡ false → m ≡ false → (r : Bool) → r ≡ calls_steady stops s → r ≡ true → true ≡ along_in m stops s a b c p
          along-plain n d r e v = sym (rw d (plainly (sym f ∙ not-false y n) (sym e ∙ v)))

        pub along-by : (m : Bool) → m ≡ false → (r : Bool) → r ≡ (record_sound stops s && unrefused s a (b - a)) → r ≡ along_in m stops s a b c p
        along-by m d r e = e ∙ ap (λ (t : Bool). record_sound stops s && t) (sym one) ∙ sym (rw d refl)

      pub along-within : a + (b - a) < calls# s
      along-within = omega arith

      pub along-call : DaysInTurn s → service_head + call_size * p + call_size ≤ length s
      along-call d = call-room s p d.opened (omega arith)

module _ (s : List ℕ) (d : DaysInTurn s) where
  pub along-sized : sizes_sound s ≡ true
  along-sized = d.opened.sized

  pub along-head : 6 < length s
  along-head = head-word s d.opened.sized 6 (omega arith)

  pub along-legs : 1 ≤ get_or s 6 0
  along-legs = omega (arith, (sizes-say s d.opened.sized).calls-low)

pub ruleset along = (tests, along-before, along-after, along-two, along-loose, along-steady, along-plain, along-by, along-within, along-call, along-sized, along-head, along-legs)

pub stands_at : (stops p : ℕ) (s : List ℕ) (c : Call) (r : Bool) → c ≡ call_at (drop (12 + 7 * p) s) → r ≡ call_sound stops c → r ≡ call_stands stops s p
stands_at stops p s c r q e = e ∙ ap (call_sound stops) q

pub ruleset one-call = (tests, stands_at)

-- ---- call by call; t says whether the record is sound, o what a call is refused for

module _ (stops : ℕ) (s : List ℕ) (t : Bool) (e : t ≡ record_sound stops s) where
  pub stands-no : (x : Bool) → not t ≡ true → false ≡ (record_sound stops s && x)
  stands-no x h = sym (ap (λ (b : Bool). b && x) (sym e ∙ not-true t h))

  pub stands_by : (a n : ℕ) (o : Result ⊤ Refusal) → not t ≡ false → noted o ≡ calls_refusal (service_at s) a n 0 0 (calls_from s a (n + 1)) → (x : Bool) → x ≡ is_ok o → x ≡ (record_sound stops s && unrefused s a n)
  stands_by a n o h q x f = f ∙ fine o ∙ ap is_none q ∙ sym (ap (λ (b : Bool). b && unrefused s a n) (sym e ∙ not-false t h))
    where
      fine : (o : Result ⊤ Refusal) → is_ok o ≡ is_none (noted o)
      fine (Ok u) = refl
      fine (Err refusal) = refl

  pub slowly-by : (v : View) (k p : ℕ) (c : Course) (r : Bool) → not t ≡ false → c ≡ course_on v (service_at s) k → r ≡ leaves c p → r ≡ goes_from v stops s k p
  slowly-by v k p c r h q f = f ∙ ap (λ (x : Course). leaves x p) q ∙ sym (ap (λ (b : Bool). b && leaves (course_on v (service_at s) k) p) (sym e ∙ not-false t h))

  pub slowly-sized : not t ≡ false → sizes_sound s ≡ true
  slowly-sized h = record-sized stops s (sym e ∙ not-false t h)

pub stops-word : (w x : List ℕ) → Ready w x → 4 < length w
stops-word w x h = header-word w h.head 4 (omega arith)

pub ruleset slowly = (tests, stops-word, stands-no, stands_by, slowly-by, slowly-sized)

-- ---- by the operating-day ranges, which begin u; t says whether they follow each other, l what they say of day k

module _ (v : View) (stops : ℕ) (s u : List ℕ) (k p : ℕ) (t : Bool) (y : Result DayLegs Refusal) (o : Opened s) (q : u ≡ drop (day_place s) s) (e : t ≡ in_turn 0 (calls# s - 1) (legs_in day_size (days# s) u)) (h : not t ≡ false) (f : y ≡ ranges_say v k no_legs (rows_in day_at day_size (days# s) u)) where
  trusted-by : (says_left y (calls# s - 1) p && call_stands stops s p) ≡ trusted v stops s k p
  unfolding trusted
  trusted-by = ap (λ (m : Result DayLegs Refusal). says_left m (calls# s - 1) p && call_stands stops s p) (f ∙ ap (λ (r : List ℕ). ranges_say v k no_legs (rows_in day_at day_size (days# s) r)) q)

  pub goes-31 : (m : Bool) (refusal : Refusal) → y ≡ Err refusal → false ≡ goes_in m v stops s k p
  goes-31 m refusal n = go (m && followed s)
    where
      go : (x : Bool) → false ≡ cond x (trusted v stops s k p) (goes_from v stops s k p)
      go true = sym (ap (λ (z : Result DayLegs Refusal). says_left z (calls# s - 1) p && call_stands stops s p) n) ∙ trusted-by
      go false = and_no (record_sound stops s) ∙ ap (λ (x : Course). record_sound stops s && leaves x p) (turn-31 v s u k t y q e h f refusal n)

  module _ (l : DayLegs) (n : y ≡ Ok l) where
    pub goes_order : l.start ≤ l.end
    goes_order = turn-order v s u k t y q e h f l n

    pub goes-within : l.end ≤ calls# s - 1
    goes-within = turn-within v s u k t y q e h f l n

    along-is : goes_along stops s l.start l.end l.again p ≡ goes_from v stops s k p
    along-is = ap (λ (x : Course). record_sound stops s && leaves x p) (turn-day v s u k t y q e h f l n (stretches_course (service_at s) (calls# s - 1) l.start l.end l.again) refl)

    left_is : (left_on (calls# s - 1) l.start l.end l.again p && call_stands stops s p) ≡ trusted v stops s k p
    left_is = sym (ap (λ (z : Result DayLegs Refusal). says_left z (calls# s - 1) p && call_stands stops s p) n) ∙ trusted-by

    pub goes_by : (m r : Bool) → r ≡ along_in m stops s l.start l.end l.again p → r ≡ goes_in m v stops s k p
    goes_by m r g = g ∙ (λ j. cond (m && followed s) (left_is j) (along-is j))

-- where they do not
pub goes-loose : (v : View) (stops : ℕ) (s u : List ℕ) (k p : ℕ) (t m r : Bool) → Opened s → u ≡ drop (day_place s) s → t ≡ in_turn 0 (calls# s - 1) (legs_in day_size (days# s) u) → not t ≡ true → r ≡ goes_from v stops s k p → r ≡ goes_in m v stops s k p
unfolding followed
goes-loose v stops s u k p t m r o q e h g =
    let d : days_follow s ≡ false = sym (e ∙ ap (λ (z : List ℕ). in_turn 0 (calls# s - 1) (legs_in day_size (days# s) z)) q) ∙ not-true t h in
    let f : followed s ≡ false = rw (o.sized, o.opening, d) refl in
    g ∙ ap (λ (x : Bool). cond x (trusted v stops s k p) (goes_from v stops s k p)) (and_no m ∙ ap (λ (x : Bool). m && x) (sym f))

pub goes-turn : (s u : List ℕ) (t : Bool) → Opened s → u ≡ drop (day_place s) s → t ≡ in_turn 0 (calls# s - 1) (legs_in day_size (days# s) u) → not t ≡ false → DaysInTurn s
goes-turn s u t o q e h = record { opened = o; follow = rw q at (sym e ∙ not-false t h) }

pub opened-sized : (s : List ℕ) → Opened s → sizes_sound s ≡ true
opened-sized s o = o.sized

pub ruleset from-days = (tests, head-words, head-word, legs-fit, days-room, stops-word, opened-sized, goes-31, goes_order, goes-within, goes_by, goes-loose, goes-turn)

-- ---- a record, and the i-th service

module _ (m : Bool) (v : View) (stops n k t u i : ℕ) (s : List ℕ) (p : ℕ) (b : Batch) where
  unready : (Opened s → ⊥) → Batched b [] → Batched b (record_gives m v stops n k t u i s p)
  unready o g = go (goes_in m v stops s k p) refl
    where
      go : (y : Bool) → goes_in m v stops s k p ≡ y → Batched b (cond y (call_gives v n t u i s p) [])
      go false e = g
      go true e = absurd (o (goes-ready m v stops s k p e).opened)

  pub record-unsized : (x : Bool) → x ≡ sizes_sound s → not x ≡ true → Batched b [] → Batched b (record_gives m v stops n k t u i s p)
  record-unsized x e h g = unready (λ o. clash (sym (not-true x h) ∙ e ∙ o.sized)) g

  pub record-unopened : (o : Opening) → o ≡ opening_at s → (x : Bool) → x ≡ opening_sound o → not x ≡ true → Batched b [] → Batched b (record_gives m v stops n k t u i s p)
  record-unopened o q x e h g = unready (λ r. clash (sym (not-true x h) ∙ e ∙ ap opening_sound q ∙ r.opening)) g

  module _ (x : Bool) (e : x ≡ goes_in m v stops s k p) where
    pub record-on : not x ≡ false → Batched b (call_gives v n t u i s p) → Batched b (record_gives m v stops n k t u i s p)
    record-on h g = rw (sym e ∙ not-false x h) g

    pub record-off : not x ≡ true → Batched b [] → Batched b (record_gives m v stops n k t u i s p)
    record-off h g = rw (sym e ∙ not-true x h) g

pub record-ready : (m : Bool) (v : View) (stops k p : ℕ) (s : List ℕ) (x : Bool) → x ≡ goes_in m v stops s k p → not x ≡ false → CallReady stops s p
record-ready m v stops k p s x e h = goes-ready m v stops s k p (sym e ∙ not-false x h)

pub record-opened : (s : List ℕ) (x : Bool) (o : Opening) (y : Bool) → x ≡ sizes_sound s → not x ≡ false → o ≡ opening_at s → y ≡ opening_sound o → not y ≡ false → Opened s
record-opened s x o y e h q f g = record { sized = sym e ∙ not-false x h; opening = sym (f ∙ ap opening_sound q) ∙ not-false y g }

pub record-head : (s : List ℕ) (x : Bool) → x ≡ sizes_sound s → not x ≡ false → 12 ≤ length s
record-head s x e h = (sizes-say s (sym e ∙ not-false x h)).head

pub ruleset one-record = (tests, record-unsized, record-unopened, record-on, record-off, record-head)

-- the places of the services begin at `places`; j is the service as a place, at what stands there
module _ (w x : List ℕ) (places n k t u i p j : ℕ) (h : Shelved w x places) (a : j ≡ i) (b : Batch) (m : Bool) where
  pub service-past : length x ≤ places + j → Batched b [] → Batched b (departures_in m w x n k t u i p)
  service-past l g = rw (past-none w x places t u i p j h a l m n k) g

  module _ (l : places + j < length x) (at : ℕ) (e : at ≡ get_or x (places + j) 0) where
    found : departures_in m w x n k t u i p ≡ record_gives m (view_in w x) (stops# w) n k t u i (drop at w) p
    found = given_by w x n k t u i p (shelf-some w x places i j h a l) m ∙ ap (λ (q : ℕ). record_gives m (view_in w x) (stops# w) n k t u i (drop q w) p) (sym (shelf-place w x places i j h a l at e))

    pub service-out : length w < at → Batched b [] → Batched b (departures_in m w x n k t u i p)
    service-out c g = rw (found, drop_of_length-le w {i = at} (omega arith), goes_none m (view_in w x) (stops# w) k p) g

    pub service-in : at ≤ length w → (s : List ℕ) → s ≡ drop at w → Batched b (record_gives m (view_in w x) (stops# w) n k t u i s p) → Batched b (departures_in m w x n k t u i p)
    service-in c s d g = rw found (rw d at g)

pub ready_of : (w x : List ℕ) (places : ℕ) → Shelved w x places → Ready w x
ready_of w x places h = h.ready

pub ruleset services = (tests, shelf-fits, service-past, service-out, service-in, ready_of)

-- ---- where the calls of a record pass, the mark changes nothing

module _ (stops : ℕ) (s : List ℕ) (y : followed s ≡ true) (z : calls_steady stops s ≡ true) where
  steady-along : (a b c p : ℕ) → a ≤ b → b ≤ calls# s - 1 → (left_on (calls# s - 1) a b c p && call_stands stops s p) ≡ goes_along stops s a b c p
  steady-along a b c p o i =
      by-leb (λ (t : Bool). ((t && (ltb p b && leb (calls# s - 1) c)) && call_stands stops s p) ≡ goes_along stops s a b c p) a p
      (λ h. by-ltb (λ (t : Bool). ((t && leb (calls# s - 1) c) && call_stands stops s p) ≡ goes_along stops s a b c p) p b
      (λ g. by-leb (λ (t : Bool). (t && call_stands stops s p) ≡ goes_along stops s a b c p) (calls# s - 1) c
      (λ l. call-sound stops s (plain-record stops s y z) p (omega arith) ∙ sym (plainly stops s a b c p o i h g l y z))
      (λ l. sym (two stops s a b c p o i h g l)))
      (λ g. sym (after stops s a b c p o g)))
      (λ h. sym (before stops s a b c p h))

  module _ (v : View) (k p : ℕ) where
    abbrev day : Result DayLegs Refusal
    day = ranges_say v k no_legs (rows_in day_at day_size (days# s) (drop (day_place s) s))

    turns : true ≡ in_turn 0 (calls# s - 1) (legs_in day_size (days# s) (drop (day_place s) s))
    turns = sym (followed-days s y).follow

    opened : Opened s
    opened = (followed-days s y).opened

    steady-goes : trusted v stops s k p ≡ goes_from v stops s k p
    steady-goes = go day refl
      where
        go : (b : Result DayLegs Refusal) → day ≡ b → trusted v stops s k p ≡ goes_from v stops s k p
        go (Ok l) n =
            let u : List ℕ = drop (day_place s) s in
            sym (left_is v stops s u k p true day opened refl turns refl refl l n)
            ∙ steady-along l.start l.end l.again p (goes_order v stops s u k p true day opened refl turns refl refl l n) (goes-within v stops s u k p true day opened refl turns refl refl l n)
            ∙ along-is v stops s u k p true day opened refl turns refl refl l n
        go (Err refusal) n =
            let u : List ℕ = drop (day_place s) s in
            let t : false ≡ cond (followed s) (trusted v stops s k p) (goes_from v stops s k p) = goes-31 v stops s u k p true day opened refl turns refl refl true refusal n in
            sym (rw y at t) ∙ goes-31 v stops s u k p true day opened refl turns refl refl false refusal n

-- of words and an index whose records pass where they are marked so
pub steady-same : (m : Bool) (w x : List ℕ) (n k t u i p : ℕ) → (m ≡ true → i < services# w → calls_steady (stops# w) (record_of w x i) ≡ true) → departures_in m w x n k t u i p ≡ departures_at (view_in w x) n k t u i p
steady-same m w x n k t u i p f =
    by-ltb (λ (b : Bool). departures_in m w x n k t u i p ≡ departures_in false w x n k t u i p) i (services# w)
    (λ l. given_by w x n k t u i p l m ∙ ap (λ (b : Bool). cond b (call_gives (view_in w x) n t u i (record_of w x i) p) []) (go l (m && followed (record_of w x i)) refl) ∙ sym (given_by w x n k t u i p l false))
    (λ l. none-past w x n k t u i p m l ∙ sym (none-past w x n k t u i p false l))
    ∙ unmarked w x n k t u i p
  where
    go : i < services# w → (b : Bool) → (m && followed (record_of w x i)) ≡ b → cond b (trusted (view_in w x) (stops# w) (record_of w x i) k p) (goes_from (view_in w x) (stops# w) (record_of w x i) k p) ≡ goes_from (view_in w x) (stops# w) (record_of w x i) k p
    go l true e =
        let q = and-true m (followed (record_of w x i)) e in
        steady-goes (stops# w) (record_of w x i) q.1 (f q.0 l) (view_in w x) k p
    go l false e = refl
