-- What a caller of the arithmetic on operating days holds in hand: a number of 0 says that the result holds the field, the only other is 42, and then
-- the words are as they were lent; the promises leave no slack: Slack. Assumes nothing.
use Rattle.std.specs.Prelude.{Ok, Err}
use mathlib.Core.Path.{◌≡◌, refl}
use mathlib.Core.List.{List}
use mathlib.Core.Bool.{Bool, true, false, cond}
use Prim.Native.Nat.{ℕ}
use native.Mathlib.Omega.{arith}
use Rattle.timetable.specs.declared.refusal.Refusal.TheVariants.{NoProperField}
use Rattle.day_sets.specs.declared.Operation.{Operation}
use Rattle.day_sets.specs.DaySets.{set_answer, combined, complement, day_count, is_field, pair_taken, combine_asked, combine_written, one_taken, complement_asked, complement_written, count_asked}
use Rattle.estelunya.specs.declared.DaySetResult.{DaySetResult}
use Rattle.estelunya.specs.declared.DayCountResult.{DayCountResult}
use Rattle.estelunya.specs.DaySets.{day_set_result, day_count_result}

-- how a call may end, by whether the words lent were taken: its result, and all words of the result afterwards
pub data Ended (taken : Bool) (field lent : List ℕ) : DaySetResult → List ℕ → Type 0 where
  given : taken ≡ true → Ended taken field lent (record { number = 0 }) field
  refused : taken ≡ false → Ended taken field lent (record { number = 42 }) lent

ended : (taken : Bool) (field lent : List ℕ) → Ended taken field lent (day_set_result (set_answer taken)) (cond taken field lent)
ended true field lent = given refl
ended false field lent = refused refl

-- so a number of 0 says that they were, and that the result holds the field
pub number-0 : {taken : Bool} {field lent t : List ℕ} {a : DaySetResult} → Ended taken field lent a t → a.number ≡ 0 → (taken ≡ true) × (t ≡ field)
number-0 (given e) z = (e, refl)
number-0 (refused e) z = absurd (omega arith)

-- how a count may end
pub data Counted (taken : Bool) (days : ℕ) : DayCountResult → Type 0 where
  days-given : taken ≡ true → Counted taken days (record { number = 0; days = days })
  days-refused : taken ≡ false → Counted taken days (record { number = 42; days = 0 })

counted : (taken : Bool) (days : ℕ) → Counted taken days (day_count_result (cond taken (Ok days) (Err NoProperField)))
counted true days = days-given refl
counted false days = days-refused refl

-- ---- union, intersection and difference

module _ (op : Operation) (n : ℕ) (first second lent : List ℕ) where
  pub combine-ended : Ended (pair_taken n first second lent) (combined op n first second) lent (day_set_result (combine_asked n first second lent)) (combine_written op n first second lent)
  unfolding combine_asked combine_written
  combine-ended = ended (pair_taken n first second lent) (combined op n first second) lent

-- ---- complement

module _ (n : ℕ) (field lent : List ℕ) where
  pub complement-ended : Ended (one_taken n field lent) (complement n field) lent (day_set_result (complement_asked n field lent)) (complement_written n field lent)
  unfolding complement_asked complement_written
  complement-ended = ended (one_taken n field lent) (complement n field) lent

-- ---- count

module _ (n : ℕ) (field : List ℕ) where
  pub count-ended : Counted (is_field n field) (day_count n field) (day_count_result (count_asked n field))
  unfolding count_asked
  count-ended = counted (is_field n field) (day_count n field)
