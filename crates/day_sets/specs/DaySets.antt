-- Request No. 7: "Over two bit fields of the same n give union, intersection, first without second and complement inside the period, each with a
-- proper frame, and the number of days." Assumes nothing.
use Rattle.std.specs.Prelude.{ℕ, ◌+◌, ◌-◌, ◌*◌, List, [], ◌∷◌, map, Bool, true, false, cond, not, ◌&&◌, ◌||◌, length, eqb, ltb, leb, Result, Ok, Err}
use Rattle.base.specs.Lists.{count_if, upto, below}
use Rattle.bitfield.specs.BitField.{bit_words, bit, runs_on, framed}
use Rattle.timetable.specs.Layout.{most_period_days}
use Rattle.timetable.specs.declared.refusal.Refusal.{Refusal}
use Rattle.timetable.specs.declared.refusal.Refusal.TheVariants.{NoProperField}
use Rattle.day_sets.specs.declared.Operation.{Operation}
use Rattle.day_sets.specs.declared.Operation.TheVariants.{Union, Intersection, Difference}

-- ---- a field said by its days: the frame is the same for every field of n days

-- bit k, where `day` is what day k - 2 says: "bits 0 and 1 are 1, bit d+2 is day d, bits n+2 and n+3 are 1, the rest 0"
abbrev pub framed_bit : ℕ → ℕ → Bool → Bool
framed_bit n k day = cond (ltb k 2) true (cond (ltb k (n + 2)) day (cond (ltb k (n + 4)) true false))

-- the number whose binary digits follow x, the first highest
unfoldable pub bits_from : ℕ → List Bool → ℕ
bits_from x [] = x
bits_from x (b ∷ bs) = bits_from (x * 2 + cond b 1 0) bs

-- word i of some bits: 32 of them, "bit 0 the highest of the first word"
unfoldable pub word_of : (ℕ → Bool) → ℕ → ℕ
word_of bits i = bits_from 0 (map bits (upto 32 (i * 32)))

-- the field of n days that runs on the days that `days` says
unfoldable pub field_of : ℕ → (ℕ → Bool) → List ℕ
field_of n days = map (word_of (λ (k : ℕ). framed_bit n k (days (k - 2)))) (below bit_words)

-- bit k of the field that has the days of some bits (for the contracts of `framed_bit` and `framed_word` only)
unfoldable pub bit_in : ℕ → List ℕ → ℕ → Bool
bit_in n bits k = framed_bit n k (bit bits k)

-- ---- the arithmetic

-- whether a day is one of the result, by whether it is one of the first and of the second
abbrev pub on_day : Operation → Bool → Bool → Bool
on_day Union first second = first || second
on_day Intersection first second = first && second
on_day Difference first second = first && not second

unfoldable pub combined : Operation → ℕ → List ℕ → List ℕ → List ℕ
combined op n first second = field_of n (λ (d : ℕ). on_day op (runs_on first d) (runs_on second d))

-- "complement inside the period"
unfoldable pub complement : ℕ → List ℕ → List ℕ
complement n field = field_of n (λ (d : ℕ). not (runs_on field d))

-- "the number of days"
unfoldable pub day_count : ℕ → List ℕ → ℕ
day_count n field = count_if (runs_on field) (below n)

-- ---- "42 if n is not 1 to 380 or a lent field or the result is not twelve words, or a field has a wrong frame; the result words then stay"

unfoldable pub is_field : ℕ → List ℕ → Bool
is_field n words = leb 1 n && (leb n most_period_days && (eqb (length words) bit_words && framed n words))

abbrev pub set_answer : Bool → Result (Unit {0}) Refusal
set_answer taken = cond taken (Ok tt) (Err NoProperField)

-- two fields, and the words lent for the result
unfoldable pub pair_taken : ℕ → List ℕ → List ℕ → List ℕ → Bool
pair_taken n first second lent = is_field n first && (is_field n second && eqb (length lent) bit_words)

unfoldable pub combine_asked : ℕ → List ℕ → List ℕ → List ℕ → Result (Unit {0}) Refusal
combine_asked n first second lent = set_answer (pair_taken n first second lent)

unfoldable pub combine_written : Operation → ℕ → List ℕ → List ℕ → List ℕ → List ℕ
combine_written op n first second lent = cond (pair_taken n first second lent) (combined op n first second) lent

-- one field, and the words lent for the result
unfoldable pub one_taken : ℕ → List ℕ → List ℕ → Bool
one_taken n field lent = is_field n field && eqb (length lent) bit_words

unfoldable pub complement_asked : ℕ → List ℕ → List ℕ → Result (Unit {0}) Refusal
complement_asked n field lent = set_answer (one_taken n field lent)

unfoldable pub complement_written : ℕ → List ℕ → List ℕ → List ℕ
complement_written n field lent = cond (one_taken n field lent) (complement n field) lent

-- one field alone
unfoldable pub count_asked : ℕ → List ℕ → Result ℕ Refusal
count_asked n field = cond (is_field n field) (Ok (day_count n field)) (Err NoProperField)
