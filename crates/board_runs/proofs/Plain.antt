-- What one look at a record says (`plain-record`, `plain-fine`): ranges that follow each other are sound, calls that pass are, and the times of any stretch stand. Assumes
-- nothing.
use mathlib.Core.Path.{◌≡◌, refl, sym, ap, ◌∙◌}
use mathlib.Core.List.{List, [], ◌∷◌}
use mathlib.Core.Bool.{Bool, true, false, not, ◌&&◌}
use Prim.Native.Nat.{ℕ, zero, suc, ◌+◌, ◌-◌, ◌*◌, ◌/◌, ◌%◌, ◌≤◌, ◌<◌}
use native.Mathlib.Omega.{arith}
use lib.ListN.{length, get_or, drop, length-drop}
use lib.Seq.{drop-drop}
use lib.Bits.{bit_and, and_mod, and_le_l}
use lib.Dec.{eqb, ltb}
use borrow.Author.Tests.{not-true, not-false, eq-eqb, eqb-true, le-leb, lt-ltb, ltb-true}
use Rattle.base.specs.Lists.{every}
use Rattle.base.proofs.Laws.{tests, clash}
use Rattle.base.proofs.Loops.{and-true}
use Rattle.timetable.specs.Layout.{service_head, call_size, category_size, day_size}
use Rattle.timetable.specs.Delivery.{Legs}
use Rattle.timetable.specs.Ranges.{has_departure}
use Rattle.timetable.specs.Table.{rows_in, call_at, legs_at, calls#, categories#, days#, extras#, category_place, day_place, legs_sound, sizes_sound, record_sound}
use Rattle.timetable.specs.declared.Call.{Call}
use Rattle.table.specs.JustTable.{extras_sound}
use Rattle.table.specs.Steady.{passes_steady, later_steady, calls_steady}
use Rattle.table.proofs.steady.Laws.{opens-says, passes-says, ends-says, both-parts, steady-sound}
use Rattle.table.proofs.Says.{sizes-say, service-parts, head-word}
use Rattle.cover.specs.Inner.Cover.{legs_in, begins, in_turn}
use Rattle.course.specs.Inner.Rows.{times_stand, later_stand}
use Rattle.course.proofs.rows.Times.{turn-fine}
use Rattle.board_runs.specs.Inner.Goes.{is_none, unrefused, DaysInTurn}
use Rattle.board_runs.specs.Batch.{followed}
use Rattle.board_runs.proofs.Given.{followed-days, followed-ranges}

-- ---- ranges that follow each other up to the last call of c are sound

turn-high : (leg end : ℕ) (gs : List Legs) → in_turn leg end gs ≡ true → leg ≤ end
unfolding in_turn
turn-high leg end [] e = omega (arith, eqb-true leg end e)
turn-high leg end (g ∷ gs) e =
    let p = and-true (begins leg g) (in_turn g.to end gs) e in
    let q = and-true (eqb g.from leg) (ltb leg g.to) p.0 in
    omega (arith, ltb-true leg g.to q.1, turn-high g.to end gs p.1)

turn-sound : (c leg end : ℕ) (gs : List Legs) → end < c → in_turn leg end gs ≡ true → every (legs_sound false c) gs ≡ true
unfolding in_turn every
turn-sound c leg end [] h e = refl
turn-sound c leg end (g ∷ gs) h e =
    let p = and-true (begins leg g) (in_turn g.to end gs) e in
    let q = and-true (eqb g.from leg) (ltb leg g.to) p.0 in
    let l : g.to < c = omega (arith, turn-high g.to end gs p.1) in
    let m : g.from < g.to = omega (arith, eqb-true g.from leg q.0, ltb-true leg g.to q.1) in
    rw (lt-ltb g.from g.to m, lt-ltb g.to c l, turn-sound c g.to end gs h p.1)

-- ---- flags of which both times are stated

second : (f : ℕ) → f % 4 ≡ 3 → f / 2 % 2 ≡ 1
second f e =
    let p : f ≡ 4 * (f / 4) + 3 = omega (arith, e) in
    odd (f / 2) (f / 4) (omega (arith, p))
  where
    odd : (d q : ℕ) → d ≡ 2 * q + 1 → d % 2 ≡ 1
    odd d q h = omega (arith, h)

three : (f : ℕ) → f % 4 ≡ 3 → bit_and 3 f ≡ 3
three f e =
    let m : bit_and 3 f % 4 ≡ bit_and 3 (f % 4) = and_mod 3 f 2 in
    let n : bit_and 3 (f % 4) ≡ 3 = rw e refl in
    omega (arith, m, n, and_le_l 3 f)

-- ---- m calls between and the last

module _ (stops : ℕ) where
  -- the times of the first n of them and the next
  later-stands : (n m before : ℕ) (w : List ℕ) → n ≤ m → later_steady stops m before w ≡ true → later_stand n 3 before w ≡ true
  unfolding later_steady later_stand
  later-stands zero zero before w h e =
      let c = ends-says stops before (call_at w) e in
      rw (c.arrives, le-leb before (call_at w).arrival c.after)
  later-stands zero (suc m) before w h e =
      let p = and-true (passes_steady stops before (call_at w)) _ e in
      let c = passes-says stops before (call_at w) p.0 in
      let x : (call_at w).flags % 2 ≡ 1 = omega (arith, c.both) in
      rw (eq-eqb ((call_at w).flags % 2) 1 x, le-leb before (call_at w).arrival c.after)
  later-stands (suc n) zero before w h e = absurd (omega arith)
  later-stands (suc n) (suc m) before w h e =
      let p = and-true (passes_steady stops before (call_at w)) _ e in
      let c = passes-says stops before (call_at w) p.0 in
      rw (le-leb before (call_at w).arrival c.after, le-leb (call_at w).arrival (call_at w).departure c.order, three (call_at w).flags c.both)
      (later-stands n m (call_at w).departure (drop call_size w) (omega arith) p.1)

  -- call a of those from call 0 on, which is not the last: it is left, and those after it pass
  record From (s : List ℕ) (a m : ℕ) : Type 0 where
    leaves : has_departure (call_at (drop (service_head + call_size * a) s)) ≡ true
    rest : later_steady stops m (call_at (drop (service_head + call_size * a) s)).departure (drop (service_head + call_size * (a + 1)) s) ≡ true

  from_next : (s : List ℕ) (a m : ℕ) → From s a (suc m) → From s (a + 1) m
  unfolding later_steady
  from_next s a m f =
      let c : Call = call_at (drop (service_head + call_size * (a + 1)) s) in
      let p = and-true (passes_steady stops (call_at (drop (service_head + call_size * a) s)).departure c) _ f.rest in
      let q = passes-says stops (call_at (drop (service_head + call_size * a) s)).departure c p.0 in
      let z : service_head + call_size * (a + 1) + call_size ≡ service_head + call_size * (a + 1 + 1) = omega arith in
      record {
        leaves = eq-eqb (c.flags / 2 % 2) 1 (second c.flags q.both);
        rest = rw (← z, ← (drop-drop call_size (service_head + call_size * (a + 1)) s)) p.1;
      }

  from-any : (s : List ℕ) (a m : ℕ) → From s 0 (a + m) → From s a m
  from-any s zero m f = rw (zero_is m) at f
    where
      zero_is : (m : ℕ) → 0 + m ≡ m
      zero_is m = omega arith
  from-any s (suc a) m f =
      let z : suc a + m ≡ a + suc m = omega arith in
      let y : a + 1 ≡ suc a = omega arith in
      rw y at (from_next s a m (from-any s a (suc m) (rw z at f)))

-- ---- the record

module _ (stops : ℕ) (s : List ℕ) (e : calls_steady stops s ≡ true) (h : 2 ≤ calls# s) where
  from_first : From stops s 0 (calls# s - 2)
  from_first = record { leaves = (opens-says stops (call_at (drop service_head s)) (both-parts stops s e h).0).leaves; rest = (both-parts stops s e h).1 }

  plain-stands : (a n : ℕ) → 0 < n → a + n < calls# s → times_stand n (call_at (drop (service_head + call_size * a) s)) (drop (service_head + call_size * (a + 1)) s) ≡ true
  plain-stands a n p q =
      let z : calls# s - 2 ≡ a + (calls# s - 2 - a) = omega arith in
      let f = from-any stops s a (calls# s - 2 - a) (rw z at from_first) in
      rw (lt-ltb 0 n p, f.leaves) (later-stands stops (n - 1) (calls# s - 2 - a) (call_at (drop (service_head + call_size * a) s)).departure (drop (service_head + call_size * (a + 1)) s) (omega arith) f.rest)

-- ---- a record that is followed, whose calls pass

module _ (stops : ℕ) (s : List ℕ) (y : followed s ≡ true) (z : calls_steady stops s ≡ true) where
  two : 2 ≤ calls# s
  two = (sizes-say s (followed-days s y).opened.sized).calls-low

  both-follow : (in_turn 0 (calls# s - 1) (legs_in category_size (categories# s) (drop (category_place s) s)) ≡ true) × (extras_sound s ≡ true)
  both-follow = and-true (in_turn 0 (calls# s - 1) (legs_in category_size (categories# s) (drop (category_place s) s))) _ (followed-ranges s y)

  categories-sound : every (legs_sound false (calls# s)) (rows_in (legs_at 1) category_size (categories# s) (drop (category_place s) s)) ≡ true
  categories-sound = turn-sound (calls# s) 0 (calls# s - 1) (rows_in (legs_at 1) category_size (categories# s) (drop (category_place s) s)) (omega (arith, two)) both-follow.0

  days-sound : every (legs_sound false (calls# s)) (rows_in (legs_at 1) day_size (days# s) (drop (day_place s) s)) ≡ true
  days-sound = turn-sound (calls# s) 0 (calls# s - 1) (rows_in (legs_at 1) day_size (days# s) (drop (day_place s) s)) (omega (arith, two)) (followed-days s y).follow

  -- it is sound
  pub plain-record : record_sound stops s ≡ true
  unfolding record_sound
  plain-record =
      let d = followed-days s y in
      rw (d.opened.sized, service-parts stops s, d.opened.opening, steady-sound stops s z two, categories-sound, days-sound, both-follow.1)

  -- and no call of any stretch is refused
  pub plain-fine : (a n : ℕ) → 0 < n → a + n < calls# s → unrefused s a n ≡ true
  plain-fine a n l b =
      ap is_none (sym (turn-fine s (drop (category_place s) s) a n b true refl (sym both-follow.0) refl true (sym (plain-stands stops s z two a n l b)) refl))

-- ---- the needs of the look at the ranges: t says whether the *G, which begin g, follow each other

module _ (s g : List ℕ) (d : DaysInTurn s) (t : Bool) (q : g ≡ drop (category_place s) s) (e : t ≡ in_turn 0 (calls# s - 1) (legs_in category_size (categories# s) g)) where
  follow-is : (t && extras_sound s) ≡ followed s
  unfolding followed
  follow-is =
      ap (λ (b : Bool). b && extras_sound s) (e ∙ ap (λ (r : List ℕ). in_turn 0 (calls# s - 1) (legs_in category_size (categories# s) r)) q)
      ∙ sym (rw (d.opened.sized, d.opened.opening, d.follow) refl)

  pub follow-no : not t ≡ true → false ≡ followed s
  follow-no h = sym (ap (λ (b : Bool). b && extras_sound s) (not-true t h)) ∙ follow-is

  pub follow-by : not t ≡ false → (x : Bool) → x ≡ extras_sound s → x ≡ followed s
  follow-by h x f = f ∙ sym (ap (λ (b : Bool). b && extras_sound s) (not-false t h)) ∙ follow-is

module _ (s : List ℕ) (d : DaysInTurn s) where
  pub turn-sized : sizes_sound s ≡ true
  turn-sized = d.opened.sized

  pub turn-room : 12 + 7 * calls# s + 3 * categories# s + 3 * days# s + 4 * extras# s ≤ length s
  turn-room = (sizes-say s d.opened.sized).inside

  pub categories-in : category_place s ≤ length s
  categories-in = omega (arith, turn-room)

  pub categories-fit : (g : List ℕ) → g ≡ drop (category_place s) s → categories# s * 3 ≤ length g
  categories-fit g q = omega (arith, ap length q, length-drop (category_place s) s, turn-room)

  pub turn-legs : 1 ≤ get_or s 6 0
  turn-legs = omega (arith, (sizes-say s d.opened.sized).calls-low)

  pub turn-head : (i : ℕ) → i < service_head → i < length s
  turn-head = head-word s d.opened.sized

pub ruleset look = (tests, follow-no, follow-by, turn-sized, turn-room, categories-fit, turn-legs, turn-head)
