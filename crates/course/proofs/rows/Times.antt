-- The times of the calls of a stretch looked at together, for `search later` and `search stand`: where they stand, and the *G of the service follow each other, no call is
-- refused (`turn-fine`). Assumes nothing.
use mathlib.Core.Path.{◌≡◌, refl, sym, ap, ◌∙◌}
use mathlib.Core.List.{List, ◌∷◌, map}
use mathlib.Core.Bool.{Bool, true, false, cond, not, ◌&&◌}
use mathlib.Core.Option.{none}
use Prim.Native.Nat.{ℕ, zero, suc, ◌+◌, ◌*◌, ◌-◌, ◌/◌, ◌%◌, ◌^◌, ◌≤◌, ◌<◌}
use native.Mathlib.Omega.{arith}
use lib.ListN.{length, drop}
use lib.Seq.{drop-drop}
use lib.Bits.{bit_and, and_mod, and_le_l, and_le_r}
use lib.Dec.{eqb, ltb, leb}
use Rattle.std.specs.Prelude.{Ok}
use borrow.Author.Tests.{not-true, not-false, eq-eqb, ne_eqb, eqb-true, le-leb, lt-leb, lt-ltb, ltb-true}
use Rattle.base.proofs.Laws.{tests, by-ltb}
use Rattle.base.proofs.Loops.{and-true}
use Rattle.timetable.specs.Layout.{service_head, call_size, category_size}
use Rattle.timetable.specs.Delivery.{Legs, Service, CategoryRange}
use Rattle.timetable.specs.Offences.{◌<|>◌}
use Rattle.timetable.specs.Ranges.{has_arrival, has_departure}
use Rattle.timetable.specs.Legs.{covering}
use Rattle.timetable.specs.Table.{rows_in, call_at, category_at, calls#, categories#, category_place, service_at, sizes_sound}
use Rattle.timetable.specs.Run.{refuse, times_needed, needed_last, call_refusal, calls_refusal}
use Rattle.timetable.specs.declared.Call.{Call}
use Rattle.timetable.specs.declared.refusal.Refusal.TheVariants.{LegCategoryNotOnce, TimeNeeded}
use Rattle.timetable.proofs.Rows.{one-row}
use Rattle.table.proofs.Says.{sizes-say, head-word}
use Rattle.cover.specs.Inner.Cover.{legs_in, in_turn}
use Rattle.cover.proofs.Turn.{turn-once, legs-rows}
use Rattle.course.specs.Inner.Run.{noted}
use Rattle.course.proofs.legs.Legs.{head-words, legs-fit}
use Rattle.course.proofs.rows.Record.{categories-room}
use Rattle.course.specs.Inner.Rows.{time_fine, times_stand, later_stand, calls_from}

-- ---- the calls after the first: k of them and the last are left from p on

pub order-no : (before a d : ℕ) → a < before → false ≡ (leb before a && leb a d)
order-no before a d h = rw (lt-leb before a h)

pub order-by : (before a d : ℕ) → before ≤ a → leb a d ≡ (leb before a && leb a d)
order-by before a d h = rw (le-leb before a h)

later-turn : (s : List ℕ) (p k both before : ℕ) (c : Call) → c ≡ call_at (drop p s) → 0 < k →
    later_stand k both before (drop p s) ≡ ((leb before c.arrival && leb c.arrival c.departure) && later_stand (k - 1) (bit_and both c.flags) c.departure (drop (p + call_size) s))
unfolding later_stand
later-turn s p zero both before c q h = absurd (omega arith)
later-turn s p (suc m) both before c q h =
    let z : suc m - 1 ≡ m = omega arith in
    rw (z, q, ← (drop-drop call_size p s)) refl

later_last : (s : List ℕ) (p k both before : ℕ) (c : Call) → c ≡ call_at (drop p s) → k ≤ 0 → later_stand k both before (drop p s) ≡ (eqb both 3 && time_fine false (has_arrival c) before c.arrival)
unfolding later_stand
later_last s p zero both before c q h = rw q refl
later_last s p (suc m) both before c q h = absurd (omega arith)

module _ (s : List ℕ) (p k both before : ℕ) (r : Bool) (v : later_stand k both before (drop p s) ≡ r) where
  -- c is the one at p, x says whether its times are in order
  module _ (c : Call) (q : c ≡ call_at (drop p s)) (x : Bool) (h : 0 < k) (e : x ≡ (leb before c.arrival && leb c.arrival c.departure)) where
    later-here : (x && later_stand (k - 1) (bit_and both c.flags) c.departure (drop (p + call_size) s)) ≡ r
    later-here = ap (λ (b : Bool). b && later_stand (k - 1) (bit_and both c.flags) c.departure (drop (p + call_size) s)) e ∙ sym (later-turn s p k both before c q h) ∙ v

    pub later-again : not x ≡ false → later_stand (k - 1) (bit_and both c.flags) c.departure (drop (p + call_size) s) ≡ r
    later-again n = rw (not-false x n) at later-here

    pub later-out : not x ≡ true → false ≡ r
    later-out n = rw (not-true x n) at later-here

  module _ (h : k ≤ 0) where
    pub later-unstated : (both ≡ 3 → ⊥) → false ≡ r
    later-unstated g = sym (later_last s p k both before (call_at (drop p s)) refl h ∙ rw (ne_eqb both 3 g)) ∙ v

    pub later-done : both ≡ 3 → (c : Call) → c ≡ call_at (drop p s) → (x : Bool) → x ≡ time_fine false (has_arrival c) before c.arrival → x ≡ r
    later-done g c q x e = e ∙ sym (later_last s p k both before c q h ∙ rw (eq-eqb both 3 g)) ∙ v

-- where the calls stand
pub later-room : (s : List ℕ) → sizes_sound s ≡ true → (from left : ℕ) → from + left < calls# s → (y : ℕ) → y ≡ from → service_head + call_size * y + call_size * (left + 1) ≤ length s
later-room s e from left h y q = omega (arith, q, (sizes-say s e).inside)

pub later-start : (s : List ℕ) (left before from y : ℕ) → y ≡ from → later_stand left 3 before (drop (service_head + call_size * y) s) ≡ later_stand left 3 before (drop (service_head + call_size * from) s)
later-start s left before from y q = rw q

pub arrival-by : (before : ℕ) (c : Call) (s x : Bool) → s ≡ has_arrival c → x ≡ time_fine false s before c.arrival → x ≡ time_fine false (has_arrival c) before c.arrival
arrival-by before c s x a e = e ∙ ap (λ (b : Bool). time_fine false b before c.arrival) a

pub ruleset later = (tests, arrival-by, order-no, order-by, later-again, later-out, later-unstated, later-done, later-room, later-start)

-- ---- all calls of the stretch from call a on with n legs; c is its first

module _ (n : ℕ) (c : Call) (w : List ℕ) where
  pub stand-none : n ≡ 0 → false ≡ times_stand n c w
  stand-none e = rw e

  module _ (h : n ≡ 0 → ⊥) where
    has-legs : ltb 0 n ≡ true
    has-legs = lt-ltb 0 n (omega arith)

    pub stand-no : (d : Call) → d ≡ c → (t : Bool) → t ≡ has_departure d → not t ≡ true → false ≡ times_stand n c w
    stand-no d q t f g = rw (has-legs, ← q, sym f ∙ not-true t g)

    pub stand-by : (d : Call) → d ≡ c → (t : Bool) → t ≡ has_departure d → not t ≡ false → (x : Bool) → x ≡ later_stand (n - 1) 3 d.departure w → x ≡ times_stand n c w
    stand-by d q t f g x e = e ∙ sym (rw (has-legs, ← q, sym f ∙ not-false t g))

module _ (s : List ℕ) (e : sizes_sound s ≡ true) (a n : ℕ) (b : a + n < calls# s) where
  pub first-within : a < calls# s
  first-within = omega arith

  module _ (h : n ≡ 0 → ⊥) where
    pub second_fits : a + 1 < 2 ^ 32
    second_fits = omega (arith, (sizes-say s e).calls-high)

    pub later-within : a + 1 + (n - 1) < calls# s
    later-within = omega arith

pub ruleset stand = (tests, stand-none, stand-no, stand-by, first-within, second_fits, later-within)

-- ---- what is said together holds of each

three : (a b : ℕ) → bit_and a b % 4 ≡ 3 → (a % 4 ≡ 3) × (b % 4 ≡ 3)
three a b e =
    let m : bit_and a b % 4 ≡ bit_and (a % 4) (b % 4) = and_mod a b 2 in
    (omega (arith, e, m, and_le_l (a % 4) (b % 4)), omega (arith, e, m, and_le_r (a % 4) (b % 4)))

second : (f : ℕ) → f % 4 ≡ 3 → f / 2 % 2 ≡ 1
second f e =
    let p : f ≡ 4 * (f / 4) + 3 = omega (arith, e) in
    odd (f / 2) (f / 4) (omega (arith, p))
  where
    odd : (d q : ℕ) → d ≡ 2 * q + 1 → d % 2 ≡ 1
    odd d q h = omega (arith, h)

and-unit : (b : Bool) → (b && true) ≡ b
and-unit true = refl
and-unit false = refl

module _ (n before : ℕ) (c : Call) where
  needed-first : 1 ≤ n → times_needed n 0 0 c ≡ has_departure c
  needed-first h = rw (ne_eqb 0 n (λ z. absurd (omega arith)), le-leb 0 c.departure (omega arith)) (and-unit (has_departure c))

  needed-between : (i : ℕ) → 1 ≤ i → i < n → c.flags % 4 ≡ 3 → (leb before c.arrival && leb c.arrival c.departure) ≡ true → times_needed n i before c ≡ true
  needed-between i h g f e =
      let p = and-true (leb before c.arrival) (leb c.arrival c.departure) e in
      let x : c.flags % 2 ≡ 1 = omega (arith, f) in
      let y : c.flags / 2 % 2 ≡ 1 = second c.flags f in
      rw (ne_eqb i 0 (λ z. absurd (omega arith)), ne_eqb i n (λ z. absurd (omega arith)), eq-eqb (c.flags % 2) 1 x, eq-eqb (c.flags / 2 % 2) 1 y, p.0, p.1)

  needed-end : 1 ≤ n → times_needed n n before c ≡ time_fine false (has_arrival c) before c.arrival
  needed-end h = rw (ne_eqb n 0 (λ z. absurd (omega arith)), eq-eqb n n refl) (and-unit (has_arrival c && leb before c.arrival))

-- ---- no call is refused

module _ (t : Service) (s : List ℕ) (a n : ℕ) (once : (k : ℕ) → k < a + n → covering (λ (r : CategoryRange). r.legs) t.categories k ≡ 1) where
  call-fine : (i before : ℕ) (c : Call) → times_needed n i before c ≡ true → call_refusal t a n i before c ≡ none
  unfolding call_refusal ◌<|>◌
  call-fine i before c e = rw e (by-ltb (λ (b : Bool). (refuse (not true) TimeNeeded <|> refuse (b && not (eqb (covering (λ (r : CategoryRange). r.legs) t.categories (a + i)) 1)) LegCategoryNotOnce) ≡ none) i n (λ (h : i < n). rw (once (a + i) (omega arith)) refl) (λ (h : n ≤ i). refl))

  -- c is the i-th call
  next-fine : (i m before : ℕ) (c : Call) → c ≡ call_at (drop (service_head + call_size * (a + i)) s) → times_needed n i before c ≡ true → calls_refusal t a n i before (calls_from s (a + i) (m + 1)) ≡ calls_refusal t a n (i + 1) (needed_last n i c) (calls_from s (a + (i + 1)) m)
  unfolding calls_refusal calls_from ◌<|>◌
  next-fine i m before c q e =
      let p : service_head + call_size * (a + i) + call_size ≡ service_head + call_size * (a + (i + 1)) = omega arith in
      let z : m + 1 - 1 ≡ m = omega arith in
      let f : rows_in call_at call_size (m + 1) (drop (service_head + call_size * (a + i)) s) ≡ c ∷ rows_in call_at call_size m (drop (service_head + call_size * (a + (i + 1))) s)
      = one-row call_at call_size (m + 1) (drop (service_head + call_size * (a + i)) s) (omega arith) ∙ rw (drop-drop call_size (service_head + call_size * (a + i)) s, p, z, q) refl in
      ap (calls_refusal t a n i before) f ∙ rw (call-fine i before c e)

  no-calls : (i before k : ℕ) → calls_refusal t a n i before (calls_from s k 0) ≡ none
  unfolding calls_refusal calls_from rows_in
  no-calls i before k = refl

  -- from the i-th on, which is not the first, m and the last
  later-fine : (m i both before : ℕ) → 1 ≤ i → i + m ≡ n → later_stand m both before (drop (service_head + call_size * (a + i)) s) ≡ true → (both % 4 ≡ 3) × (calls_refusal t a n i before (calls_from s (a + i) (m + 1)) ≡ none)
  unfolding later_stand
  later-fine zero i both before h g e =
      let c : Call = call_at (drop (service_head + call_size * (a + i)) s) in
      let p = and-true (eqb both 3) (time_fine false (has_arrival c) before c.arrival) e in
      let z : i ≡ n = omega arith in
      let d : times_needed n i before c ≡ true = ap (λ (j : ℕ). times_needed n j before c) z ∙ needed-end n before c (omega arith) ∙ p.1 in
      (omega (arith, eqb-true both 3 p.0), next-fine i 0 before c refl d ∙ no-calls (i + 1) (needed_last n i c) (a + (i + 1)))
  later-fine (suc m) i both before h g e =
      let c : Call = call_at (drop (service_head + call_size * (a + i)) s) in
      let p = and-true (leb before c.arrival && leb c.arrival c.departure) (later_stand m (bit_and both c.flags) c.departure (drop call_size (drop (service_head + call_size * (a + i)) s))) e in
      let z : service_head + call_size * (a + i) + call_size ≡ service_head + call_size * (a + (i + 1)) = omega arith in
      let r = later-fine m (i + 1) (bit_and both c.flags) c.departure (omega arith) (omega arith) (ap (later_stand m (bit_and both c.flags) c.departure) (sym (drop-drop call_size (service_head + call_size * (a + i)) s ∙ ap (λ (j : ℕ). drop j s) z)) ∙ p.1) in
      let f = three both c.flags r.0 in
      let y : suc m ≡ m + 1 = omega arith in
      (f.0, next-fine i (suc m) before c refl (needed-between n before c i h (omega arith) f.1 p.0) ∙ rw (y, ne_eqb i n (λ w. absurd (omega arith))) r.1)

  all-fine : (c : Call) → c ≡ call_at (drop (service_head + call_size * a) s) → times_stand n c (drop (service_head + call_size * (a + 1)) s) ≡ true → calls_refusal t a n 0 0 (calls_from s a (n + 1)) ≡ none
  all-fine c q e =
      let p = and-true (ltb 0 n) (has_departure c && later_stand (n - 1) 3 c.departure (drop (service_head + call_size * (a + 1)) s)) e in
      let r = and-true (has_departure c) (later_stand (n - 1) 3 c.departure (drop (service_head + call_size * (a + 1)) s)) p.1 in
      let h : 0 < n = ltb-true 0 n p.0 in
      let z : a + 0 ≡ a = omega arith in
      let y : n ≡ n - 1 + 1 = omega arith in
      let w : 0 + 1 ≡ 1 = refl in
      let d : c ≡ call_at (drop (service_head + call_size * (a + 0)) s) = rw z q in
      ap (λ (j : ℕ). calls_refusal t a n 0 0 (calls_from s j (n + 1))) (sym z)
      ∙ next-fine 0 n 0 c d (needed-first n 0 c (omega arith) ∙ r.0)
      ∙ ap (λ (b : Bool). calls_refusal t a n 1 (cond b c.arrival c.departure) (calls_from s (a + 1) n)) (ne_eqb 0 n (λ v. absurd (omega arith)))
      ∙ ap (λ (j : ℕ). calls_refusal t a n 1 c.departure (calls_from s (a + 1) j)) y
      ∙ (later-fine (n - 1) 1 3 c.departure (omega arith) (omega arith) r.1).1

-- ---- the *G of a service; t says whether they follow each other, x whether the times stand

module _ (s g : List ℕ) (a n : ℕ) (b : a + n < calls# s) (t : Bool) (q : g ≡ drop (category_place s) s) (e : t ≡ in_turn 0 (calls# s - 1) (legs_in category_size (categories# s) g)) (h : not t ≡ false) where
  abbrev of_category : CategoryRange → Legs
  of_category r = r.legs

  follow : in_turn 0 (calls# s - 1) (map of_category (service_at s).categories) ≡ true
  unfolding service_at
  follow = ap (λ (w : List ℕ). in_turn 0 (calls# s - 1) (map of_category (rows_in category_at category_size (categories# s) w))) (sym q) ∙ ap (in_turn 0 (calls# s - 1)) (sym (legs-rows of_category category_at category_size (λ u. refl) (categories# s) g)) ∙ sym e ∙ not-false t h

  pub turn-fine : (x : Bool) → x ≡ times_stand n (call_at (drop (service_head + call_size * a) s)) (drop (service_head + call_size * (a + 1)) s) → not x ≡ false → noted (Ok tt) ≡ calls_refusal (service_at s) a n 0 0 (calls_from s a (n + 1))
  turn-fine x f m = sym (all-fine (service_at s) s a n (λ k l. turn-once of_category 0 (calls# s - 1) k (service_at s).categories follow (omega arith) (omega arith)) (call_at (drop (service_head + call_size * a) s)) refl (sym f ∙ not-false x m))

pub ruleset follows = (tests, head-words, head-word, legs-fit, categories-room, turn-fine)
