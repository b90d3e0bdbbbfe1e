-- The needs of the calendar's functions, a ruleset for each family: `lengths`, `sums`, `dates`, `periods`. Assumes nothing.
use mathlib.Core.Path.{◌≡◌, sym, ◌∙◌}
use mathlib.Core.Logic.{◌⊎◌, inl, inr}
use mathlib.Core.Bool.{Bool, true, false, not}
use Prim.Native.Nat.{ℕ, ◌+◌, ◌-◌, ◌^◌, ◌≤◌, ◌<◌}
use native.Mathlib.Omega.{arith}
use lib.ListN.{get_or}
use lib.Dec.{ltb}
use borrow.Author.Tests.{ne_eqb, lt-ltb, le-ltb, le-leb, lt-leb}
use Rattle.base.proofs.Laws.{tests}
use Rattle.calendar.specs.Calendar.{most_period_days, is_leap, month_days, years_before, months_before, exists, day_of, period_of}
use Rattle.std.specs.Prelude.{Some, None}
use Rattle.calendar.proofs.Bounds.{months-within, years-within}
use Rattle.calendar.proofs.Closed.{common_year, years-closed, months-closed, table-le}

-- ---- the lengths of months; t is whether the year is a leap year

module _ (y : ℕ) (t : Bool) (e : t ≡ is_leap y) where
  pub leap-february : (m : ℕ) → m ≡ 2 → t ≡ true → 29 ≡ month_days y m
  leap-february m h k = rw (h, sym e ∙ k)

  pub common-february : (m : ℕ) → m ≡ 2 → t ≡ false → 28 ≡ month_days y m
  common-february m h k = rw (h, sym e ∙ k)

pub short-month : (y m : ℕ) → (m ≡ 4) ⊎ ((m ≡ 6) ⊎ ((m ≡ 9) ⊎ (m ≡ 11))) → 30 ≡ month_days y m
short-month y m (inl e) = rw e
short-month y m (inr (inl e)) = rw e
short-month y m (inr (inr (inl e))) = rw e
short-month y m (inr (inr (inr e))) = rw e

pub long-month : (y m : ℕ) → (m ≡ 2 → ⊥) → ((m ≡ 4) ⊎ ((m ≡ 6) ⊎ ((m ≡ 9) ⊎ (m ≡ 11))) → ⊥) → 31 ≡ month_days y m
long-month y m a b =
    rw (ne_eqb m 2 a, ne_eqb m 4 (λ e. b (inl e)), ne_eqb m 6 (λ e. b (inr (inl e))), ne_eqb m 9 (λ e. b (inr (inr (inl e)))), ne_eqb m 11 (λ e. b (inr (inr (inr e)))))

pub ruleset lengths = (tests, leap-february, common-february, short-month, long-month)

-- ---- the days before a year and before a month m; t is whether the year is a leap year

module _ (y m : ℕ) (a : 1 ≤ m) (b : m ≤ 12) where
  pub before-leap-day : m ≤ 2 → get_or common_year (m - 1) 0 ≡ months_before y (m - 1)
  before-leap-day h = rw (months-closed y (m - 1) (omega arith), lt-ltb (m - 1) 2 (omega arith)) (omega arith)

  module _ (t : Bool) (e : t ≡ is_leap y) (h : 2 < m) where
    pub past-leap-day : t ≡ true → get_or common_year (m - 1) 0 + 1 ≡ months_before y (m - 1)
    past-leap-day k = rw (months-closed y (m - 1) (omega arith), le-ltb (m - 1) 2 (omega arith), sym e ∙ k)

    pub no-leap-day : t ≡ false → get_or common_year (m - 1) 0 ≡ months_before y (m - 1)
    no-leap-day k = rw (months-closed y (m - 1) (omega arith), le-ltb (m - 1) 2 (omega arith), sym e ∙ k) (omega arith)

pub leap-day-fits : (m : ℕ) → 1 ≤ m → m ≤ 12 → get_or common_year (m - 1) 0 + 1 < 2 ^ 32
leap-day-fits m a b = omega (arith, table-le (m - 1) (omega arith))

pub ruleset sums = (tests, years-closed, before-leap-day, past-leap-day, no-leap-day, leap-day-fits)

-- ---- a date whose year and month are in their ranges; l is the month's length, a and b the days before the year and the month

module _ (d m y l : ℕ) (e : l ≡ month_days y m) (y1 : 1900 ≤ y) (y2 : y ≤ 2199) (m1 : 1 ≤ m) (m2 : m ≤ 12) (d1 : 1 ≤ d) where
  -- what is left is the month's length
  by_length : exists d m y ≡ not (ltb l d)
  unfolding exists
  by_length = rw (le-ltb y 1900 y1, le-ltb 2199 y y2, le-ltb m 1 m1, le-ltb 12 m m2, le-ltb d 1 d1, ← e)

  pub day-past : l < d → None ≡ day_of d m y
  unfolding day_of
  day-past h = rw (by_length, lt-ltb l d h)

  module _ (a b : ℕ) (h : d ≤ l) (p : a ≡ years_before (y - 1900)) (q : b ≡ months_before y (m - 1)) where
    pub day-in : Some (a + b + (d - 1)) ≡ day_of d m y
    unfolding day_of
    day-in = rw (by_length, le-ltb l d h, p, q)

    pub day-fits : a + b + (d - 1) < 2 ^ 32
    day-fits = omega (arith, years-within y y1 y2, months-within y m m1 m2)

    pub before-fits : a + b < 2 ^ 32
    before-fits = omega (arith, day-fits)

pub ruleset dates = (tests, day-past, day-in, day-fits, before-fits)

-- ---- periods

pub none_before : (s e : ℕ) → e < s → None ≡ period_of s e
unfolding period_of
none_before s e h = rw (lt-ltb e s h)

pub days-in : (s e : ℕ) → s ≤ e → e - s < most_period_days → Some (e - s + 1) ≡ period_of s e
unfolding period_of
days-in s e a b =
    let q : e + 1 - s ≡ e - s + 1 = omega arith in
    rw (le-ltb e s a, q, le-leb (e - s + 1) most_period_days (omega arith))

pub days-over : (s e : ℕ) → s ≤ e → most_period_days ≤ e - s → None ≡ period_of s e
unfolding period_of
days-over s e a b = rw (le-ltb e s a, lt-leb (e + 1 - s) most_period_days (omega arith))

pub ruleset periods = (tests, none_before, days-in, days-over)
