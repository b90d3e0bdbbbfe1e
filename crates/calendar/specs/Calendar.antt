-- "Gregorian dates 01.01.1900 to 31.12.2199, day 0 being the first; any other is "no such date". A period of n days has 1 to 380."
-- Assumes nothing.
use Rattle.std.specs.Prelude.{ℕ, zero, suc, ◌+◌, ◌-◌, ◌%◌, List, Bool, true, false, cond, not, ◌&&◌, ◌||◌, eqb, ltb, leb, Option, Some, None}
use Rattle.columns.specs.Columns.{number}
use Rattle.columns.specs.LineFields.{field_in, date_day, date_month, date_year}

-- every fourth year, but of the hundreds only every fourth
abbrev pub is_leap : ℕ → Bool
is_leap y = cond (eqb (y % 4) 0) (cond (eqb (y % 100) 0) (eqb (y % 400) 0) true) false

abbrev pub year_days : ℕ → ℕ
year_days y = cond (is_leap y) 366 365

abbrev pub month_days : ℕ → ℕ → ℕ
month_days y m = cond (eqb m 2) (cond (is_leap y) 29 28) (cond (eqb m 4 || eqb m 6 || eqb m 9 || eqb m 11) 30 31)

-- the days of n years from 1900 on
unfoldable pub years_before : ℕ → ℕ
years_before zero = 0
years_before (suc n) = years_before n + year_days (1900 + n)

-- the days of the first n months of a year
unfoldable pub months_before : ℕ → ℕ → ℕ
months_before y zero = 0
months_before y (suc n) = months_before y n + month_days y (suc n)

-- year, month and day are in their ranges
unfoldable pub exists : ℕ → ℕ → ℕ → Bool
exists d m y = not (ltb y 1900) && not (ltb 2199 y) && not (ltb m 1) && not (ltb 12 m) && not (ltb d 1) && not (ltb (month_days y m) d)

-- the day number of day d, month m, year y
unfoldable pub day_of : ℕ → ℕ → ℕ → Option ℕ
day_of d m y = cond (exists d m y) (Some (years_before (y - 1900) + months_before y (m - 1) + (d - 1))) None

-- 31.12.2199
abbrev pub last_day : ℕ
last_day = 109572

-- "1-10 DD.MM.YYYY"
unfoldable pub date_in : List ℕ → Option ℕ
date_in line = day_of (number (field_in date_day line)) (number (field_in date_month line)) (number (field_in date_year line))

-- "A period of n days has 1 to 380."
abbrev pub most_period_days : ℕ
most_period_days = 380

-- how many days the period from one day to another has: "end before start; over 380 days"
unfoldable pub period_of : ℕ → ℕ → Option ℕ
period_of start end = cond (ltb end start) None (cond (leb (end + 1 - start) most_period_days) (Some (end + 1 - start)) None)
