-- How large the calendar's numbers get: a day number is at most 31.12.2199. Assumes nothing.
use mathlib.Core.Path.{◌≡◌, refl, ap}
use mathlib.Core.List.{List}
use mathlib.Core.Bool.{Bool, true, false, cond, not, ◌&&◌, false≢true}
use Prim.Native.Nat.{ℕ, zero, suc, ◌+◌, ◌-◌, ◌≤◌}
use native.Mathlib.Nat.{add-zero, add-suc}
use native.Mathlib.Omega.{arith}
use lib.Dec.{ltb, leb}
use borrow.Author.Tests.{ltb-false, leb-true}
use Rattle.base.proofs.Laws.{apart}
use Rattle.columns.specs.Columns.{columns, number}
use Rattle.calendar.specs.Calendar.{most_period_days, is_leap, year_days, month_days, years_before, months_before, exists, day_of, last_day, date_in, period_of}
use Rattle.std.specs.Prelude.{Option, Some, None}

-- a sum does not fall as it goes on
sum-grows : (F g : ℕ → ℕ) → ((n : ℕ) → F (suc n) ≡ F n + g n) → (a k : ℕ) → F a ≤ F (a + k)
sum-grows F g e a zero = rw add-zero (omega arith)
sum-grows F g e a (suc k) = rw (add-suc, e (a + k)) (omega (arith, sum-grows F g e a k))

years-grow : (a k : ℕ) → years_before a ≤ years_before (a + k)
unfolding years_before
years-grow = sum-grows years_before (λ (n : ℕ). year_days (1900 + n)) (λ n. refl)

months-grow : (y a k : ℕ) → months_before y a ≤ months_before y (a + k)
unfolding months_before
months-grow y = sum-grows (months_before y) (λ (n : ℕ). month_days y (suc n)) (λ n. refl)

-- the months of a year have its days
pub twelve-months : (y : ℕ) → months_before y 12 ≡ year_days y
unfolding months_before
twelve-months y = go (is_leap y)
  where
    go : (t : Bool) → 0 + 31 + cond t 29 28 + 31 + 30 + 31 + 30 + 31 + 31 + 30 + 31 + 30 + 31 ≡ cond t 366 365
    go true = refl
    go false = refl

-- the days before a month and the month's own are within the year
pub months-within : (y m : ℕ) → 1 ≤ m → m ≤ 12 → months_before y (m - 1) + month_days y m ≤ year_days y
unfolding months_before
months-within y zero a b = absurd (omega arith)
months-within y (suc m) a b =
    let e : suc m + (11 - m) ≡ 12 = omega arith in
    let s : suc m - 1 ≡ m = omega arith in
    let g : months_before y (suc m) ≤ year_days y = rw (e, twelve-months y) at (months-grow y (suc m) (11 - m)) in
    rw s g

-- the days before a year and the year's own are within the 300 years
pub years-within : (y : ℕ) → 1900 ≤ y → y ≤ 2199 → years_before (y - 1900) + year_days y ≤ last_day + 1
unfolding years_before
years-within y a b =
    let e : suc (y - 1900) + (2199 - y) ≡ 300 = omega arith in
    let s : 1900 + (y - 1900) ≡ y = omega arith in
    let g : years_before (suc (y - 1900)) ≤ last_day + 1 = rw e at (years-grow (suc (y - 1900)) (2199 - y)) in
    rw s at g

-- what there is to know of a date that exists
pub record Ranges (d m y : ℕ) : Type 0 where
  pub year-low : 1900 ≤ y
  pub year-high : y ≤ 2199
  pub month-low : 1 ≤ m
  pub month-high : m ≤ 12
  pub day-low : 1 ≤ d
  pub day-high : d ≤ month_days y m

pub ranges : (d m y : ℕ) → exists d m y ≡ true → Ranges d m y
unfolding exists
ranges d m y e =
    let p = go (ltb y 1900) (ltb 2199 y) (ltb m 1) (ltb 12 m) (ltb d 1) (ltb (month_days y m) d) e in
    record {
      year-low = ltb-false y 1900 p.0;
      year-high = ltb-false 2199 y p.1;
      month-low = ltb-false m 1 p.2;
      month-high = ltb-false 12 m p.3;
      day-low = ltb-false d 1 p.4;
      day-high = ltb-false (month_days y m) d p.5;
    }
  where
    go : (a b c d e f : Bool) → (not a && not b && not c && not d && not e && not f) ≡ true → (a ≡ false) × (b ≡ false) × (c ≡ false) × (d ≡ false) × (e ≡ false) × (f ≡ false)
    go false false false false false false h = (refl, refl, refl, refl, refl, refl)
    go true b c d e f h = absurd (false≢true h)
    go false true c d e f h = absurd (false≢true h)
    go false false true d e f h = absurd (false≢true h)
    go false false false true e f h = absurd (false≢true h)
    go false false false false true f h = absurd (false≢true h)
    go false false false false false true h = absurd (false≢true h)

-- the day number of a date, 0 for none
abbrev day_or0 : Option ℕ → ℕ
day_or0 (Some k) = k
day_or0 None = 0

-- no date is after 31.12.2199
pub day-le-last : (d m y k : ℕ) → day_of d m y ≡ Some k → k ≤ last_day
unfolding day_of
day-le-last d m y k e =
    let q : day_or0 (day_of d m y) ≡ k = ap day_or0 e in
    rw q at (go (exists d m y) refl)
  where
    n : ℕ
    n = years_before (y - 1900) + months_before y (m - 1) + (d - 1)

    go : (t : Bool) → exists d m y ≡ t → day_or0 (cond t (Some n) None) ≤ last_day
    go true h =
        let r = ranges d m y h in
        omega (arith, r, months-within y m r.month-low r.month-high, years-within y r.year-low r.year-high)
    go false h = omega arith

pub date-le-last : (line : List ℕ) (k : ℕ) → date_in line ≡ Some k → k ≤ last_day
unfolding date_in
date-le-last line k e = day-le-last (number (columns 1 2 line)) (number (columns 4 5 line)) (number (columns 7 10 line)) k e

-- "A period of n days has 1 to 380."
pub days-le : (a b n : ℕ) → period_of a b ≡ Some n → n ≤ most_period_days
unfolding period_of
days-le a b n e = go (ltb b a) (leb (b + 1 - a) most_period_days) refl e
  where
    go : (t u : Bool) → leb (b + 1 - a) most_period_days ≡ u → cond t None (cond u (Some (b + 1 - a)) None) ≡ Some n → n ≤ most_period_days
    go true u k v = apart (cc)
    go false true k v = let q : b + 1 - a ≡ n = cc in omega (arith, leb-true (b + 1 - a) most_period_days k)
    go false false k v = apart (cc)
