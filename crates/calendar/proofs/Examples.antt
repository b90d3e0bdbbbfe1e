-- The document's worked examples. Assumes nothing.
use mathlib.Core.Path.{◌≡◌, refl}
use mathlib.Core.List.{[], ◌∷◌}
use Rattle.columns.specs.Columns.{columns, pad_to, number_from}
use Rattle.std.specs.Prelude.{Some, None}
use Rattle.calendar.specs.Calendar.{day_of, date_in, exists, years_before, months_before, period_of, last_day}

-- "01.01.1900 to 31.12.2199, day 0 being the first"
pub first-day : day_of 1 1 1900 ≡ Some 0
unfolding day_of exists years_before months_before
first-day = refl

pub last-day : day_of 31 12 2199 ≡ Some last_day
unfolding day_of exists years_before months_before
last-day = refl

-- "30.09.1996 is day 35,336; to 01.06.1997 is 245 days"
pub start-1996 : date_in (51 ∷ 48 ∷ 46 ∷ 48 ∷ 57 ∷ 46 ∷ 49 ∷ 57 ∷ 57 ∷ 54 ∷ []) ≡ Some 35336
unfolding date_in columns pad_to number_from day_of exists years_before months_before
start-1996 = refl

pub end-1997 : day_of 1 6 1997 ≡ Some 35580
unfolding day_of exists years_before months_before
end-1997 = refl

pub days-1997 : period_of 35336 35580 ≡ Some 245
unfolding period_of
days-1997 = refl

-- "29.02.2000 exists, 29.02.1900 does not"
pub leap-2000 : day_of 29 2 2000 ≡ Some 36583
unfolding day_of exists years_before months_before
leap-2000 = refl

pub no-leap-1900 : day_of 29 2 1900 ≡ None
unfolding day_of exists
no-leap-1900 = refl

-- "A period of n days has 1 to 380"
pub one-day : period_of 35336 35336 ≡ Some 1
unfolding period_of
one-day = refl

pub days-380 : period_of 1 380 ≡ Some 380
unfolding period_of
days-380 = refl

pub no-days-381 : period_of 0 380 ≡ None
unfolding period_of
no-days-381 = refl
