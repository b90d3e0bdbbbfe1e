-- The needs of the tests, for `search steps`: a test of several, one after the other. Assumes nothing.
use mathlib.Core.Path.{◌≡◌, refl, sym, ◌∙◌}
use mathlib.Core.Bool.{Bool, true, false, not, ◌&&◌}
use Prim.Native.Nat.{ℕ, ◌/◌, ◌%◌, ◌<◌}
use lib.Dec.{leb, eqb}
use borrow.Author.Tests.{not-true, not-false, lt-ltb, ne_eqb}
use Rattle.base.specs.Lists.{every}
use Rattle.base.proofs.Laws.{tests}
use Rattle.timetable.specs.Ranges.{has_arrival, has_departure}
use Rattle.timetable.specs.declared.Opening.{Opening}
use Rattle.timetable.specs.declared.Call.{Call}
use Rattle.line_text.specs.Text.{two_of}
use Rattle.line_text.specs.Laid.{not_lf}
use Rattle.plan_text.specs.PlanText.{no_alighting, no_boarding}
use Rattle.writable.specs.Writable.{filled_byte, half_writable, administration_writable, opening_writable, code_writable, time_writable, times_writable, call_writable}

-- x is what the first test answers
module _ (x t : Bool) (e : x ≡ t) where
  pub and-out : (u : Bool) → not x ≡ true → false ≡ (t && u)
  and-out u n = rw (sym e ∙ not-true x n)

  pub and-on : (y u : Bool) → not x ≡ false → y ≡ u → y ≡ (t && u)
  and-on y u n f = f ∙ rw (sym e ∙ not-false x n)

pub and_last : (y u : Bool) → y ≡ u → y ≡ (u && true)
and_last y u e = e ∙ go u
  where
    go : (u : Bool) → u ≡ (u && true)
    go true = refl
    go false = refl

-- ---- tests that come after several others; x, y are what tests answered

pub half-second : (n : ℕ) (x y : Bool) → n < 16777216 → x ≡ filled_byte (n / 65536 % 256) → not x ≡ false → y ≡ filled_byte (n / 256 % 256) → not y ≡ true → false ≡ half_writable n
unfolding half_writable every
half-second n x y h e a f b = rw (lt-ltb n 16777216 h, sym e ∙ not-false x a, sym f ∙ not-true y b)

pub time-clear : (s b : Bool) (m : ℕ) → s ≡ false → b ≡ false → eqb m 0 ≡ time_writable s b m
time-clear s b m e f = rw (e, f)

pub opening-last : (o : Opening) (x : Bool) → o.number < 100000 → x ≡ administration_writable o.high o.low → not x ≡ false → (o.repeats ≡ 0 → ⊥) → leb 1 o.offset ≡ opening_writable o
unfolding opening_writable
opening-last o x h e a d = rw (lt-ltb o.number 100000 h, sym e ∙ not-false x a, ne_eqb o.repeats 0 d)

pub code-held : (n : ℕ) (x : Bool) → n < 65536 → (n / 256 % 256 ≡ 32 → ⊥) → x ≡ every not_lf (two_of n) → not x ≡ true → false ≡ code_writable n
unfolding code_writable
code-held n x h d e a = rw (lt-ltb n 65536 h, ne_eqb (n / 256 % 256) 32 d, sym e ∙ not-true x a)

pub call-administration : (c : Call) (x : Bool) → c.stop < 10000000 → c.number < 100000 → x ≡ administration_writable c.high c.low → not x ≡ true → false ≡ call_writable c
unfolding call_writable
call-administration c x h i e a = rw (lt-ltb c.stop 10000000 h, lt-ltb c.number 100000 i, sym e ∙ not-true x a)

-- s and t say whether a call's times are stated
module _ (c : Call) (s x : Bool) (a : s ≡ has_arrival c) (e : x ≡ time_writable s (no_alighting c) c.arrival) where
  pub times-out : not x ≡ true → false ≡ times_writable c
  times-out n = rw (← a, sym e ∙ not-true x n)

  pub times-on : not x ≡ false → (t y : Bool) → t ≡ has_departure c → y ≡ time_writable t (no_boarding c) c.departure → y ≡ times_writable c
  times-on n t y d f = f ∙ rw (← a, sym e ∙ not-false x n, d)

pub ruleset steps = (tests, and-out, and-on, and_last)

pub ruleset times = (tests, times-out, times-on)

pub ruleset lines = (tests, half-second, time-clear, opening-last, code-held, call-administration)
