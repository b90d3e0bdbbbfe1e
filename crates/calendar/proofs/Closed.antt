-- The sums of specs/ without walking the years and months: by a formula, by a table. Assumes nothing.
use mathlib.Core.Path.{◌≡◌, refl}
use mathlib.Core.List.{List, [], ◌∷◌}
use mathlib.Core.Bool.{Bool, true, false, cond}
use Prim.Native.Nat.{ℕ, zero, suc, ◌+◌, ◌-◌, ◌*◌, ◌/◌, ◌%◌, ◌≤◌, ◌<◌}
use native.Mathlib.Omega.{arith}
use lib.ListN.{get_or}
use lib.Dec.{eqb, ltb}
use borrow.Author.Tests.{eqb-true, eqb-false}
use borrow.Enum.Match.{each_below}
use Rattle.base.proofs.Laws.{tests, by_eqb}
use Rattle.calendar.specs.Calendar.{is_leap, year_days, years_before, months_before}

-- ---- years

-- the leap years among n years from 1900 on: those that 4 divides, without those that 100 divides, with those that 400 divides
abbrev pub leap_years : ℕ → ℕ
leap_years n = (n + 3) / 4 - (n + 99) / 100 + (n + 299) / 400

-- each of the three counts one more where the next year is divided
fourths : (n : ℕ) → (suc n + 3) / 4 ≡ (n + 3) / 4 + cond (eqb ((1900 + n) % 4) 0) 1 0
fourths n = by_eqb (λ (t : Bool). (suc n + 3) / 4 ≡ (n + 3) / 4 + cond t 1 0) ((1900 + n) % 4) 0 (λ h. omega arith) (λ h. omega arith)

hundredths : (n : ℕ) → (suc n + 99) / 100 ≡ (n + 99) / 100 + cond (eqb ((1900 + n) % 100) 0) 1 0
hundredths n = by_eqb (λ (t : Bool). (suc n + 99) / 100 ≡ (n + 99) / 100 + cond t 1 0) ((1900 + n) % 100) 0 (λ h. omega arith) (λ h. omega arith)

four-hundredths : (n : ℕ) → (suc n + 299) / 400 ≡ (n + 299) / 400 + cond (eqb ((1900 + n) % 400) 0) 1 0
four-hundredths n = by_eqb (λ (t : Bool). (suc n + 299) / 400 ≡ (n + 299) / 400 + cond t 1 0) ((1900 + n) % 400) 0 (λ h. omega arith) (λ h. omega arith)

-- so that the formula's difference is one
hundredths-le : (n : ℕ) → (n + 99) / 100 ≤ (n + 3) / 4
hundredths-le n = omega arith

-- a year's days by the same three tests: what 400 divides 100 divides, and what 100 divides 4 divides
days-by-tests : (y : ℕ) → year_days y + cond (eqb (y % 100) 0) 1 0 ≡ 365 + cond (eqb (y % 4) 0) 1 0 + cond (eqb (y % 400) 0) 1 0
days-by-tests y = go (eqb (y % 4) 0) (eqb (y % 100) 0) (eqb (y % 400) 0) refl refl refl
  where
    go : (a b c : Bool) → eqb (y % 4) 0 ≡ a → eqb (y % 100) 0 ≡ b → eqb (y % 400) 0 ≡ c → cond (cond a (cond b c true) false) 366 365 + cond b 1 0 ≡ 365 + cond a 1 0 + cond c 1 0
    go false false false e f g = refl
    go true false false e f g = refl
    go true true false e f g = refl
    go true true true e f g = refl
    go false true c e f g = absurd (omega (arith, eqb-false (y % 4) 0 e, eqb-true (y % 100) 0 f))
    go a false true e f g = absurd (omega (arith, eqb-false (y % 100) 0 f, eqb-true (y % 400) 0 g))

-- a year of d days after n years of s days; q, h and f are the three counts before it, q', h' and f' with it
add-year : (n s d q h f q' h' f' a b c : ℕ) → 365 * n + (q - h + f) ≡ s → d + b ≡ 365 + a + c → q' ≡ q + a → h' ≡ h + b → f' ≡ f + c → h ≤ q → h' ≤ q' → 365 * suc n + (q' - h' + f') ≡ s + d
add-year n s d q h f q' h' f' a b c sum days eq eh ef le le' = omega arith

-- the days of any number of years from 1900 on
pub years-closed : (n : ℕ) → 365 * n + leap_years n ≡ years_before n
unfolding years_before
years-closed zero = refl
years-closed (suc n) =
    add-year n (years_before n) (year_days (1900 + n)) _ _ _ _ _ _ _ _ _ (years-closed n) (days-by-tests (1900 + n)) (fourths n) (hundredths n) (four-hundredths n) (hundredths-le n) (hundredths-le (suc n))

-- ---- months

-- the days of a common year before each of its months, as the code lists them
abbrev pub common_year : List ℕ
common_year = 0 ∷ 31 ∷ 59 ∷ 90 ∷ 120 ∷ 151 ∷ 181 ∷ 212 ∷ 243 ∷ 273 ∷ 304 ∷ 334 ∷ []

february : (t : Bool) → cond t 29 28 ≡ 28 + cond t 1 0
february true = refl
february false = refl

-- the days of the first k months: after the second a leap year has one more
pub months-closed : (y k : ℕ) → k < 12 → months_before y k ≡ get_or common_year k 0 + cond (ltb k 2) 0 (cond (is_leap y) 1 0)
unfolding months_before
months-closed y = each_below 12 (λ (k : ℕ). months_before y k ≡ get_or common_year k 0 + cond (ltb k 2) 0 (cond (is_leap y) 1 0)) (search (tests, february (is_leap y)))

pub table-le : (k : ℕ) → k < 12 → get_or common_year k 0 ≤ 334
table-le = each_below 12 (λ (k : ℕ). get_or common_year k 0 ≤ 334) (search tests)
