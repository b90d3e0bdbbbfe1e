-- What a look at calls that are steady says: such calls are sound (`steady-sound`), and the needs of its functions. Assumes nothing.
use mathlib.Core.Path.{◌≡◌, refl, sym, ap, ◌∙◌}
use mathlib.Core.List.{List}
use mathlib.Core.Bool.{Bool, true, false, not, ◌&&◌}
use Prim.Native.Nat.{ℕ, zero, suc, ◌+◌, ◌-◌, ◌*◌, ◌/◌, ◌%◌, ◌^◌, ◌≤◌, ◌<◌}
use native.Mathlib.Omega.{arith}
use lib.ListN.{length, get_or, drop}
use lib.Seq.{drop-drop, get_or-drop}
use lib.Dec.{eqb, ltb, leb}
use borrow.Author.Tests.{not-true, not-false, eqb-true, le-leb, leb-true}
use Rattle.base.specs.Lists.{every}
use Rattle.base.proofs.Laws.{tests}
use Rattle.base.proofs.Loops.{and-true}
use Rattle.timetable.specs.Layout.{service_head, call_size, latest_time, all_flags}
use Rattle.timetable.specs.Ranges.{has_arrival, has_departure}
use Rattle.timetable.specs.Table.{rows_in, call_at, calls#, call_sound, sizes_sound}
use Rattle.timetable.specs.declared.Call.{Call}
use Rattle.timetable.proofs.Rows.{one-row}
use Rattle.table.specs.Steady.{opens_steady, passes_steady, ends_steady, two_steady, four_steady, later_steady, calls_steady}
use Rattle.table.proofs.Laws.{one_less}
use Rattle.table.proofs.Says.{sizes-say, head-word}

-- ---- a call that passes

pub record Opens (stops : ℕ) (c : Call) : Type 0 where
  pub sound : c.departure ≤ latest_time → call_sound stops c ≡ true
  pub leaves : has_departure c ≡ true

pub opens-says : (stops : ℕ) (c : Call) → opens_steady stops c ≡ true → Opens stops c
opens-says stops c e =
    let (s, e1) = and-true (ltb c.stop stops) _ e in
    let (a, e2) = and-true (leb c.arrival latest_time) _ e1 in
    let (f, d) = and-true (leb c.flags all_flags) _ e2 in
    record { sound = λ h. rw (s, a, le-leb c.departure latest_time h, f); leaves = d }

pub record Passes (stops before : ℕ) (c : Call) : Type 0 where
  pub sound : c.departure ≤ latest_time → call_sound stops c ≡ true
  pub after : before ≤ c.arrival
  pub order : c.arrival ≤ c.departure
  pub both : c.flags % 4 ≡ 3

pub passes-says : (stops before : ℕ) (c : Call) → passes_steady stops before c ≡ true → Passes stops before c
passes-says stops before c e =
    let (s, e1) = and-true (ltb c.stop stops) _ e in
    let (a, e2) = and-true (leb before c.arrival) _ e1 in
    let (d, e3) = and-true (leb c.arrival c.departure) _ e2 in
    let (f, b) = and-true (leb c.flags all_flags) _ e3 in
    let o : c.arrival ≤ c.departure = leb-true c.arrival c.departure d in
    record {
      sound = λ h. rw (s, le-leb c.arrival latest_time (omega (arith, o)), le-leb c.departure latest_time h, f);
      after = leb-true before c.arrival a;
      order = o;
      both = eqb-true (c.flags % 4) 3 b;
    }

pub record Ends (stops before : ℕ) (c : Call) : Type 0 where
  pub sound : call_sound stops c ≡ true
  pub after : before ≤ c.arrival
  pub early : c.arrival ≤ latest_time
  pub arrives : has_arrival c ≡ true

pub ends-says : (stops before : ℕ) (c : Call) → ends_steady stops before c ≡ true → Ends stops before c
ends-says stops before c e =
    let (s, e1) = and-true (ltb c.stop stops) _ e in
    let (b, e2) = and-true (leb before c.arrival) _ e1 in
    let (a, e3) = and-true (leb c.arrival latest_time) _ e2 in
    let (d, e4) = and-true (leb c.departure latest_time) _ e3 in
    let (f, g) = and-true (leb c.flags all_flags) _ e4 in
    record { sound = rw (s, a, d, f); after = leb-true before c.arrival b; early = leb-true c.arrival latest_time a; arrives = g }

-- ---- m calls between and the last

module _ (stops : ℕ) where
  pub later-high : (m before : ℕ) (w : List ℕ) → later_steady stops m before w ≡ true → before ≤ latest_time
  unfolding later_steady
  later-high zero before w e = omega (arith, (ends-says stops before (call_at w) e).after, (ends-says stops before (call_at w) e).early)
  later-high (suc m) before w e =
      let p = and-true (passes_steady stops before (call_at w)) _ e in
      let c = passes-says stops before (call_at w) p.0 in
      omega (arith, c.after, c.order, later-high m (call_at w).departure (drop call_size w) p.1)

  pub later-sound : (m before : ℕ) (w : List ℕ) → later_steady stops m before w ≡ true → every (call_sound stops) (rows_in call_at call_size (suc m) w) ≡ true
  unfolding later_steady every rows_in
  later-sound zero before w e = rw (ends-says stops before (call_at w) e).sound
  later-sound (suc m) before w e =
      let p = and-true (passes_steady stops before (call_at w)) _ e in
      rw ((passes-says stops before (call_at w) p.0).sound (later-high m (call_at w).departure (drop call_size w) p.1), later-sound m (call_at w).departure (drop call_size w) p.1)

-- ---- the record

module _ (stops : ℕ) (s : List ℕ) (e : calls_steady stops s ≡ true) (h : 2 ≤ calls# s) where
  pub both-parts : (opens_steady stops (call_at (drop service_head s)) ≡ true) × (later_steady stops (calls# s - 2) (call_at (drop service_head s)).departure (drop (service_head + call_size) s) ≡ true)
  unfolding calls_steady
  both-parts = and-true (opens_steady stops (call_at (drop service_head s))) _ e

  pub steady-sound : every (call_sound stops) (rows_in call_at call_size (calls# s) (drop service_head s)) ≡ true
  unfolding every
  steady-sound =
      let c : Call = call_at (drop service_head s) in
      let z : calls# s - 1 ≡ suc (calls# s - 2) = omega arith in
      let d : c.departure ≤ latest_time = later-high stops (calls# s - 2) c.departure (drop (service_head + call_size) s) both-parts.1 in
      ap (every (call_sound stops)) (one-row call_at call_size (calls# s) (drop service_head s) (omega arith))
      ∙ rw ((opens-says stops c both-parts.0).sound d, drop-drop call_size service_head s, z)
      (later-sound stops (calls# s - 2) c.departure (drop (service_head + call_size) s) both-parts.1)

-- ---- of all calls; c is the first

module _ (s : List ℕ) (e : sizes_sound s ≡ true) where
  pub first-room : 12 + 7 ≤ length s
  first-room = omega (arith, (sizes-say s e).inside, (sizes-say s e).calls-low)

  pub first_two : 2 ≤ get_or s 6 0
  first_two = (sizes-say s e).calls-low

  pub first_rest : 12 + 7 * (get_or s 6 0 - 2 + 2) ≤ length s
  first_rest = omega (arith, (sizes-say s e).inside, (sizes-say s e).calls-low)

  pub first_head : 6 < length s
  first_head = head-word s e 6 (omega arith)

module _ (stops : ℕ) (s : List ℕ) (c : Call) (q : c ≡ call_at (drop 12 s)) (t : Bool) (e : t ≡ opens_steady stops c) where
  pub calls-no : not t ≡ true → false ≡ calls_steady stops s
  unfolding calls_steady
  calls-no h = sym (ap (λ (b : Bool). b && later_steady stops (calls# s - 2) (call_at (drop service_head s)).departure (drop (service_head + call_size) s)) (ap (opens_steady stops) (sym q) ∙ sym e ∙ not-true t h))

  pub calls_by : not t ≡ false → (r : Bool) → r ≡ later_steady stops (get_or s 6 0 - 2) c.departure (drop 19 s) → r ≡ calls_steady stops s
  unfolding calls_steady
  calls_by h r f =
      sym (ap (λ (b : Bool). b && later_steady stops (calls# s - 2) (call_at (drop service_head s)).departure (drop (service_head + call_size) s)) (ap (opens_steady stops) (sym q) ∙ sym e ∙ not-false t h)
      ∙ ap (λ (d : Call). later_steady stops (calls# s - 2) d.departure (drop (service_head + call_size) s)) (sym q) ∙ sym f)

pub ruleset all-calls = (tests, first-room, first_two, first_rest, first_head, calls-no, calls_by)

-- ---- after the first: n - i of them and the last are left from p on; c is the one at p, x says whether it passes

later-turn : (s : List ℕ) (p k stops before : ℕ) (c : Call) → c ≡ call_at (drop p s) → 0 < k →
    later_steady stops k before (drop p s) ≡ (passes_steady stops before c && later_steady stops (k - 1) c.departure (drop (p + call_size) s))
unfolding later_steady
later-turn s p zero stops before c q h = absurd (omega arith)
later-turn s p (suc m) stops before c q h =
    let z : suc m - 1 ≡ m = omega arith in
    rw (z, q, ← (drop-drop call_size p s)) refl

later_last : (s : List ℕ) (p k stops before : ℕ) (c : Call) → c ≡ call_at (drop p s) → k ≤ 0 → later_steady stops k before (drop p s) ≡ ends_steady stops before c
unfolding later_steady
later_last s p zero stops before c q h = rw q refl
later_last s p (suc m) stops before c q h = absurd (omega arith)

module _ (s : List ℕ) (p n i stops before : ℕ) (r : Bool) (v : later_steady stops (n - i) before (drop p s) ≡ r) (c : Call) (q : c ≡ call_at (drop p s)) (x : Bool) where
  module _ (h : i < n) (e : x ≡ passes_steady stops before c) where
    later-here : (x && later_steady stops (n - (i + 1)) c.departure (drop (p + call_size) s)) ≡ r
    later-here =
        rw (one_less n i) at (ap (λ (b : Bool). b && later_steady stops (n - i - 1) c.departure (drop (p + call_size) s)) e ∙ sym (later-turn s p (n - i) stops before c q (omega arith)) ∙ v)

    pub later-again : not x ≡ false → later_steady stops (n - (i + 1)) c.departure (drop (p + call_size) s) ≡ r
    later-again m = rw (not-false x m) at later-here

    pub later-out : not x ≡ true → false ≡ r
    later-out m = rw (not-true x m) at later-here

  pub later-done : n ≤ i → x ≡ ends_steady stops before c → x ≡ r
  later-done h e = e ∙ sym (later_last s p (n - i) stops before c q (omega arith)) ∙ v

module _ (p n i l : ℕ) (h : i < n) (r : p + 7 * (n - i + 1) ≤ l) where
  pub calls-now : p + 7 ≤ l
  calls-now = omega arith

  pub calls-fit : l < 2 ^ 64 → p + 7 < 2 ^ 64
  calls-fit m = omega arith

  pub calls-next : p + 7 + 7 * (n - (i + 1) + 1) ≤ l
  calls-next = omega arith

pub calls_last : (p n i l : ℕ) → n ≤ i → p + 7 * (n - i + 1) ≤ l → p + 7 ≤ l
calls_last p n i l h r = omega arith

pub ruleset later = (tests, later-again, later-out, later-done, calls-now, calls-fit, calls-next, calls_last)

-- ---- two calls and four; x says whether the first of two, or the first two, pass

module _ (s : List ℕ) (p stops before : ℕ) (x y : Bool) where
  pub two-no : (c : Call) → c ≡ call_at (drop p s) → x ≡ passes_steady stops before c → not x ≡ true → false ≡ two_steady stops before (drop p s)
  unfolding two_steady
  two-no c q e n = sym (ap (λ (b : Bool). b && passes_steady stops (call_at (drop p s)).departure (call_at (drop call_size (drop p s)))) (ap (passes_steady stops before) (sym q) ∙ sym e ∙ not-true x n))

  pub two-by : (c d : Call) → c ≡ call_at (drop p s) → x ≡ passes_steady stops before c → not x ≡ false → d ≡ call_at (drop (p + 7) s) → y ≡ passes_steady stops c.departure d → y ≡ two_steady stops before (drop p s)
  unfolding two_steady
  two-by c d q e n z f =
      f ∙ ap (λ (u : Call). passes_steady stops u.departure d) q ∙ ap (λ (u : Call). passes_steady stops (call_at (drop p s)).departure u) (z ∙ ap call_at (sym (drop-drop call_size p s)))
      ∙ sym (ap (λ (b : Bool). b && passes_steady stops (call_at (drop p s)).departure (call_at (drop call_size (drop p s)))) (ap (passes_steady stops before) (sym q) ∙ sym e ∙ not-false x n))

  pub four-no : x ≡ two_steady stops before (drop p s) → not x ≡ true → false ≡ four_steady stops before (drop p s)
  unfolding four_steady
  four-no e n = sym (ap (λ (b : Bool). b && two_steady stops (call_at (drop call_size (drop p s))).departure (drop 14 (drop p s))) (sym e ∙ not-true x n))

  pub four-by : x ≡ two_steady stops before (drop p s) → not x ≡ false → y ≡ two_steady stops (get_or s (p + 9) 0) (drop (p + 14) s) → y ≡ four_steady stops before (drop p s)
  unfolding four_steady
  four-by e n f =
      let d : (call_at (drop call_size (drop p s))).departure ≡ get_or s (p + 9) 0 = get_or-drop call_size (drop p s) 2 0 ∙ get_or-drop p s 9 0 in
      f ∙ sym (rw (sym e ∙ not-false x n, d, drop-drop 14 p s))

pub two-room : (p l : ℕ) → p + 14 ≤ l → p + 7 ≤ l
two-room p l h = omega arith

pub two_fits : (p l : ℕ) → p + 14 ≤ l → l < 2 ^ 64 → p + 7 < 2 ^ 64
two_fits p l h m = omega arith

pub two-next : (p l : ℕ) → p + 14 ≤ l → p + 7 + 7 ≤ l
two-next p l h = omega arith

pub ruleset twos = (tests, two-no, two-by, two-room, two_fits, two-next)

module _ (p l : ℕ) (h : p + 28 ≤ l) where
  pub four-first : p + 14 ≤ l
  four-first = omega arith

  pub four-second : p + 14 + 14 ≤ l
  four-second = omega arith

  pub four-fits : l < 2 ^ 64 → p + 14 < 2 ^ 64
  four-fits m = omega arith

  pub four-sum : l < 2 ^ 64 → p + 9 < 2 ^ 64
  four-sum m = omega arith

  pub four-reads : p + 9 < l
  four-reads = omega arith

pub ruleset fours = (tests, four-no, four-by, four-first, four-second, four-fits, four-sum, four-reads)

-- ---- four a turn, i turns done

four-pass : (stops m before : ℕ) (w : List ℕ) → later_steady stops (suc (suc (suc (suc m)))) before w ≡ (four_steady stops before w && later_steady stops m (call_at (drop 21 w)).departure (drop 28 w))
unfolding later_steady four_steady two_steady
four-pass stops m before w =
    let two : drop 7 (drop 7 w) ≡ drop 14 w = drop-drop 7 7 w in
    let three : drop 7 (drop 14 w) ≡ drop 21 w = drop-drop 7 14 w in
    let four : drop 7 (drop 21 w) ≡ drop 28 w = drop-drop 7 21 w in
    rw (two, three, four)
    (go (passes_steady stops before (call_at w)) (passes_steady stops (call_at w).departure (call_at (drop 7 w)))
    (passes_steady stops (call_at (drop 7 w)).departure (call_at (drop 14 w))) (passes_steady stops (call_at (drop 14 w)).departure (call_at (drop 21 w)))
    (later_steady stops m (call_at (drop 21 w)).departure (drop 28 w)))
  where
    go : (a b c d e : Bool) → (a && (b && (c && (d && e)))) ≡ (((a && b) && (c && d)) && e)
    go false b c d e = refl
    go true false c d e = refl
    go true true false d e = refl
    go true true true d e = refl

module _ (s : List ℕ) (p n i stops before : ℕ) (r : Bool) (v : later_steady stops (n - 4 * i) before (drop p s) ≡ r) (x : Bool) (h : i < n / 4) (e : x ≡ four_steady stops before (drop p s)) where
  four-here : (x && later_steady stops (n - 4 * (i + 1)) (get_or s (p + 23) 0) (drop (p + 28) s)) ≡ r
  four-here =
      let z : n - 4 * i ≡ suc (suc (suc (suc (n - 4 * i - 4)))) = omega arith in
      let d : (call_at (drop 21 (drop p s))).departure ≡ get_or s (p + 23) 0 = get_or-drop 21 (drop p s) 2 0 ∙ get_or-drop p s 23 0 in
      let f : n - 4 * i - 4 ≡ n - 4 * (i + 1) = omega arith in
      rw f at (ap (λ (b : Bool). b && later_steady stops (n - 4 * i - 4) (get_or s (p + 23) 0) (drop (p + 28) s)) e
      ∙ sym (ap (λ (j : ℕ). later_steady stops j before (drop p s)) z ∙ four-pass stops (n - 4 * i - 4) before (drop p s) ∙ rw (d, drop-drop 28 p s))
      ∙ v)

  pub fours-again : not x ≡ false → later_steady stops (n - 4 * (i + 1)) (get_or s (p + 23) 0) (drop (p + 28) s) ≡ r
  fours-again m = rw (not-false x m) at four-here

  pub fours-out : not x ≡ true → false ≡ r
  fours-out m = rw (not-true x m) at four-here

module _ (p n i l : ℕ) (h : i < n / 4) (r : p + 7 * (n - 4 * i + 1) ≤ l) where
  pub fours-now : p + 28 ≤ l
  fours-now = omega arith

  pub fours-reads : p + 23 < l
  fours-reads = omega arith

  pub fours-sum : l < 2 ^ 64 → p + 23 < 2 ^ 64
  fours-sum m = omega arith

  pub fours-fit : l < 2 ^ 64 → p + 28 < 2 ^ 64
  fours-fit m = omega arith

  pub fours-next : p + 28 + 7 * (n - 4 * (i + 1) + 1) ≤ l
  fours-next = omega arith

pub calls-start : (left l : ℕ) → 12 + 7 * (left + 2) ≤ l → 19 + 7 * (left + 1) ≤ l
calls-start left l h = omega arith

-- after the last turn
module _ (n i : ℕ) (a : i ≤ n / 4) (b : n / 4 ≤ i) where
  four-left : n - 4 * i ≡ n % 4
  four-left = omega arith

  pub fours-left : (p l : ℕ) → p + 7 * (n - 4 * i + 1) ≤ l → p + 7 * (n % 4 + 1) ≤ l
  fours-left p l r = omega (arith, four-left)

  pub fours-done : (s : List ℕ) (p stops before : ℕ) (r x : Bool) → later_steady stops (n - 4 * i) before (drop p s) ≡ r → x ≡ later_steady stops (n % 4) before (drop p s) → x ≡ r
  fours-done s p stops before r x v e = e ∙ (rw four-left at v)

pub ruleset by-four = (tests, fours-again, fours-out, fours-now, fours-reads, fours-sum, fours-fit, fours-next, calls-start, fours-left, fours-done)
