-- What is refused of the calls of a stretch, for `search calls`. Assumes nothing.
use mathlib.Core.Path.{◌≡◌, refl, sym, ◌∙◌}
use mathlib.Core.List.{List, [], ◌∷◌, map}
use mathlib.Core.Bool.{Bool, true, false, cond, not}
use mathlib.Core.Option.{Option}
use Prim.Native.Nat.{ℕ, ◌+◌, ◌*◌, ◌-◌, ◌≤◌, ◌<◌}
use native.Mathlib.Nat.{add-zero, sub-zero}
use native.Mathlib.Omega.{arith}
use lib.ListN.{drop}
use lib.Seq.{drop-drop}
use lib.Dec.{eqb, leb}
use Rattle.std.specs.Prelude.{Result, Ok, Err, ⊤}
use borrow.Author.Tests.{not-true, not-false, ne_eqb, le-ltb, lt-ltb}
use Rattle.base.proofs.Laws.{tests}
use Rattle.timetable.specs.Layout.{service_head, call_size}
use Rattle.timetable.specs.Delivery.{Service, CategoryRange}
use Rattle.timetable.specs.Offences.{◌<|>◌}
use Rattle.timetable.specs.Ranges.{has_arrival, has_departure}
use Rattle.timetable.specs.Legs.{covering}
use Rattle.timetable.specs.Table.{rows_in, call_at, with_stop}
use Rattle.timetable.specs.View.{View}
use Rattle.timetable.specs.Run.{needed_last, call_refusal, calls_refusal}
use Rattle.timetable.specs.declared.Call.{Call}
use Rattle.timetable.specs.declared.refusal.Refusal.{Refusal}
use Rattle.timetable.specs.declared.refusal.Refusal.TheVariants.{LegCategoryNotOnce, TimeNeeded}
use Rattle.timetable.proofs.Rows.{one-row}
use Rattle.course.specs.Inner.Run.{noted}
use Rattle.course.proofs.rows.Record.{leg-fits, next_fits, leg-within}
use Rattle.course.specs.Inner.Rows.{times_fine, time_fine, calls_from, shown_by}

-- ---- a time; the tests of the code as they come

module _ (free stated : Bool) (before time : ℕ) where
  pub fine-free : free ≡ true → true ≡ time_fine free stated before time
  fine-free e = rw e

  pub fine-missing : free ≡ false → not stated ≡ true → false ≡ time_fine free stated before time
  fine-missing e n = rw (e, not-true stated n)

  pub fine-order : free ≡ false → not stated ≡ false → leb before time ≡ time_fine free stated before time
  fine-order e n = rw (e, not-false stated n)

pub choose-first : (t : Bool) (x y : ℕ) → t ≡ true → x ≡ cond t x y
choose-first t x y e = rw e

pub choose-second : (t : Bool) (x y : ℕ) → t ≡ false → y ≡ cond t x y
choose-second t x y e = rw e

module _ (n i before : ℕ) (c : Call) (s x : Bool) (a : s ≡ has_arrival c) (e : x ≡ time_fine (eqb i 0) s before c.arrival) where
  pub times-no : not x ≡ true → false ≡ times_fine n i before c
  unfolding times_fine
  times-no k = rw (← a, sym e ∙ not-true x k)

  pub times-both : not x ≡ false → (b : ℕ) → b ≡ cond (eqb i 0) before c.arrival → (t : Bool) → t ≡ has_departure c → (y : Bool) → y ≡ time_fine (eqb i n) t b c.departure → y ≡ times_fine n i before c
  unfolding times_fine
  times-both k b q t d y f = rw (← a, sym e ∙ not-false x k) (f ∙ rw (q, d))

pub ruleset times = (tests, fine-free, fine-missing, fine-order, choose-first, choose-second, times-no, times-both)

-- ---- one call; y says whether its times are fine, z whether its leaving leg has one *G

module _ (s : Service) (a n i before : ℕ) (c : Call) (y : Bool) (f : y ≡ times_fine n i before c) where
  pub call-36 : not y ≡ true → noted (Err TimeNeeded) ≡ call_refusal s a n i before c
  unfolding call_refusal ◌<|>◌ times_fine
  call-36 l = rw (sym f ∙ not-true y l)

  module _ (l : not y ≡ false) where
    pub call-last : n ≤ i → noted (Ok tt) ≡ call_refusal s a n i before c
    unfolding call_refusal ◌<|>◌ times_fine
    call-last h = rw (sym f ∙ not-false y l, le-ltb i n h)

    module _ (h : i < n) (z : Bool) (g : z ≡ eqb (covering (λ (r : CategoryRange). r.legs) s.categories (a + i)) 1) where
      pub call-33 : not z ≡ true → noted (Err LegCategoryNotOnce) ≡ call_refusal s a n i before c
      unfolding call_refusal ◌<|>◌ times_fine
      call-33 m = rw (sym f ∙ not-false y l, lt-ltb i n h, sym g ∙ not-true z m)

      pub call-fine : not z ≡ false → noted (Ok tt) ≡ call_refusal s a n i before c
      unfolding call_refusal ◌<|>◌ times_fine
      call-fine m = rw (sym f ∙ not-false y l, lt-ltb i n h, sym g ∙ not-false z m)

pub ruleset call = (tests, leg-fits, call-36, call-last, call-33, call-fine)

-- ---- the calls: c is the i-th

pub calls-next : (s : List ℕ) (a n i : ℕ) (c : Call) → i ≤ n → c ≡ call_at (drop (service_head + call_size * (a + i)) s) → calls_from s (a + i) (n + 1 - i) ≡ c ∷ calls_from s (a + (i + 1)) (n + 1 - (i + 1))
unfolding calls_from
calls-next s a n i c h e =
    let p : service_head + call_size * (a + i) + call_size ≡ service_head + call_size * (a + (i + 1)) = omega arith in
    let m : n + 1 - i - 1 ≡ n + 1 - (i + 1) = omega arith in
    one-row call_at call_size (n + 1 - i) (drop (service_head + call_size * (a + i)) s) (omega arith) ∙ rw (e, drop-drop call_size (service_head + call_size * (a + i)) s, p, m) refl

module _ (t : Service) (s : List ℕ) (a n i before : ℕ) (c : Call) (o : Result ⊤ Refusal) (r : Option Refusal) (h : i ≤ n) (e : c ≡ call_at (drop (service_head + call_size * (a + i)) s)) (f : noted o ≡ call_refusal t a n i before c) (v : calls_refusal t a n i before (calls_from s (a + i) (n + 1 - i)) ≡ r) where
  calls-here : (noted o <|> calls_refusal t a n (i + 1) (needed_last n i c) (calls_from s (a + (i + 1)) (n + 1 - (i + 1)))) ≡ r
  unfolding calls_refusal
  calls-here = rw f (rw (calls-next s a n i c h e) at v)

  pub calls-again : o ≡ Ok tt → (b : ℕ) → b ≡ needed_last n i c → calls_refusal t a n (i + 1) b (calls_from s (a + (i + 1)) (n + 1 - (i + 1))) ≡ r
  unfolding ◌<|>◌
  calls-again z b q = rw q (rw z at calls-here)

  pub calls-out : (y : Refusal) → o ≡ Err y → noted (Err y) ≡ r
  unfolding ◌<|>◌
  calls-out y z = rw z at calls-here

pub calls-start : (t : Service) (s : List ℕ) (a n : ℕ) → calls_refusal t a n 0 0 (calls_from s (a + 0) (n + 1 - 0)) ≡ calls_refusal t a n 0 0 (calls_from s a (n + 1))
calls-start t s a n = rw (add-zero a, sub-zero (n + 1))

pub calls-done : (t : Service) (s : List ℕ) (a n i before : ℕ) (r : Option Refusal) → n < i → calls_refusal t a n i before (calls_from s (a + i) (n + 1 - i)) ≡ r → noted (Ok tt) ≡ r
unfolding calls_refusal calls_from rows_in
calls-done t s a n i before r h v =
    let z : n + 1 - i ≡ 0 = omega arith in
    rw z at v

-- ---- what is refused is the same where each stop is told by its number

pub refusal-shown : (v : View) (s : Service) (a n i before : ℕ) (cs : List Call) → calls_refusal (shown_by v s) a n i before (map (with_stop v.shown) cs) ≡ calls_refusal s a n i before cs
unfolding calls_refusal call_refusal shown_by
refusal-shown v s a n i before [] = refl
refusal-shown v s a n i before (c ∷ cs) = rw (refusal-shown v s a n (i + 1) (needed_last n i c) cs)

pub ruleset calls = (tests, leg-fits, next_fits, leg-within, calls-start, calls-again, calls-out, calls-done)
