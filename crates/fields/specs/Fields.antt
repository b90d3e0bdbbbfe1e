-- The fields that are more than digits: "#" and digits, times, range ends and their details.
-- Assumes nothing.
use Rattle.std.specs.Prelude.{ℕ, ◌+◌, ◌*◌, ◌/◌, ◌%◌, List, [], ◌∷◌, Bool, true, false, cond, get_or, drop, eqb, leb, Option, Some, None}
use Rattle.columns.specs.Columns.{pad_to, is_blank, is_digit, blank, digits, digit_value, number}
use Rattle.fields.specs.declared.Time.{Time}
use Rattle.fields.specs.declared.Time.TheVariants.{Absent, Stated, NoTime}
use Rattle.fields.specs.declared.RangeEnd.{RangeEnd}
use Rattle.fields.specs.declared.RangeEnd.TheVariants.{Outer, Index, Stop, NoEnd}
use Rattle.fields.specs.declared.Detail.{Detail}
use Rattle.fields.specs.declared.Detail.TheVariants.{Plain, Nth, Timed, NoDetail}

-- ---- "#" and digits with blanks around ("#" always needs a digit)

-- behind the digits of n: blanks to the end
abbrev pub blank_end : ℕ → List ℕ → Option ℕ
blank_end n p = cond (blank p) (Some n) None

-- behind n: more digits, and blanks to the end
unfoldable pub hash_digits : ℕ → List ℕ → Option ℕ
hash_digits n [] = Some n
hash_digits n (b ∷ p) = cond (is_digit b) (hash_digits (n * 10 + digit_value b) p) (blank_end n (b ∷ p))

-- after "#": a digit
abbrev pub after_hash : List ℕ → Option ℕ
after_hash [] = None
after_hash (b ∷ p) = cond (is_digit b) (hash_digits 0 (b ∷ p)) None

-- blanks, "#" (byte 35), digits, blanks
unfoldable pub hash : List ℕ → Option ℕ
hash [] = None
hash (b ∷ p) = cond (is_blank b) (hash p) (cond (eqb b 35) (after_hash p) None)

-- ---- times: "blank, or a blank or "-" and five digits HHHMM with MM at most 59; "-" forbids alighting (arrival) or boarding (departure).
-- Its value is 60 times HHH plus MM." ("-" is byte 45)

-- HHHMM as minutes
abbrev pub clock : Bool → List ℕ → Time
clock barred p =
    cond (digits p)
    (cond (leb (number p % 100) 59) (Stated (number p / 100 * 60 + number p % 100) barred) NoTime)
    NoTime

-- six columns
unfoldable pub time_in : List ℕ → Time
time_in p =
    cond (blank p) Absent
    (cond (is_blank (get_or p 0 32)) (clock false (drop 1 p))
    (cond (eqb (get_or p 0 32) 45) (clock true (drop 1 p))
    NoTime))

-- of a part of a line: its first six columns
abbrev pub time : List ℕ → Time
time p = time_in (pad_to 6 p)

-- ---- range ends (5.3.1): "A from or to is blank (first, last call), "#" and digits with blanks around (route index from 0), or seven digits (stop)."

abbrev pub index_by : Option ℕ → RangeEnd
index_by (Some n) = Index (record { 0 = n })
index_by None = NoEnd

-- seven columns
unfoldable pub range_end_in : List ℕ → RangeEnd
range_end_in p = cond (blank p) Outer (cond (digits p) (Stop (record { 0 = number p })) (index_by (hash p)))

-- of a part of a line: its first seven columns
abbrev pub range_end : List ℕ → RangeEnd
range_end p = range_end_in (pad_to 7 p)

-- ---- "For a stop the detail says: blank, ..; "#" and digits with blanks around, that appearance ..; a time, ..
-- (minutes only, sign not compared). A detail has one of these forms."

abbrev pub timed_by : Time → Detail
timed_by Absent = Plain
timed_by (Stated minutes barred) = Timed minutes
timed_by NoTime = NoDetail

abbrev pub nth_by : Option ℕ → Detail → Detail
nth_by (Some n) d = Nth (record { 0 = n })
nth_by None d = d

-- six columns
unfoldable pub detail_in : List ℕ → Detail
detail_in p = nth_by (hash p) (timed_by (time_in p))

-- of a part of a line: its first six columns
abbrev pub detail : List ℕ → Detail
detail p = detail_in (pad_to 6 p)
