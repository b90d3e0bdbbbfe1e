-- "A column is one byte, columns past the end read as blank (a blank is byte 32)." Columns are counted from 1.
-- Assumes nothing.
use Rattle.std.specs.Prelude.{ℕ, zero, suc, ◌+◌, ◌-◌, ◌*◌, List, [], ◌∷◌, Bool, false, cond, not, ◌&&◌, ◌||◌, get_or, drop, eqb, leb}
use Rattle.base.specs.Lists.{every}
use Rattle.columns.specs.declared.ByteClass.{ByteClass}
use Rattle.columns.specs.declared.ByteClass.TheVariants.{Digit, Hex, Filled, Byte}

-- the first w columns of l, blank past its end
unfoldable pub pad_to : ℕ → List ℕ → List ℕ
pad_to zero l = []
pad_to (suc w) [] = 32 ∷ pad_to w []
pad_to (suc w) (b ∷ l) = b ∷ pad_to w l

-- columns a to b
unfoldable pub columns : ℕ → ℕ → List ℕ → List ℕ
columns a b line = pad_to (b - (a - 1)) (drop (a - 1) line)

-- column c
abbrev pub column : ℕ → List ℕ → ℕ
column c line = get_or line (c - 1) 32

-- ---- bytes

abbrev pub is_blank : ℕ → Bool
is_blank b = eqb b 32

abbrev pub is_digit : ℕ → Bool
is_digit b = leb 48 b && leb b 57

-- "hex digits 0-9 A-F"
abbrev pub is_hex : ℕ → Bool
is_hex b = is_digit b || (leb 65 b && leb b 70)

-- the value of a digit, 0 for another byte
abbrev pub digit_value : ℕ → ℕ
digit_value b = cond (is_digit b) (b - 48) 0

abbrev pub hex_value : ℕ → ℕ
hex_value b = cond (is_digit b) (b - 48) (cond (leb 65 b && leb b 70) (b - 55) 0)

-- what every byte of a field may have to be (for the contract of `every_in` only)
abbrev pub is_of : ByteClass → ℕ → Bool
is_of Digit b = is_digit b
is_of Hex b = is_hex b
is_of Filled b = not (is_blank b)
is_of (Byte m) b = eqb b m

-- ---- fields of digits

abbrev pub blank : List ℕ → Bool
blank p = every is_blank p

-- "Digits: digits only."
abbrev pub digits : List ℕ → Bool
digits p = every is_digit p

-- "Count: any blanks, then at least one digit, to the field's end."
unfoldable pub count : List ℕ → Bool
count [] = false
count (b ∷ p) = cond (is_blank b) (count p) (digits (b ∷ p))

-- the number whose digits follow n
unfoldable pub number_from : ℕ → List ℕ → ℕ
number_from n [] = n
number_from n (b ∷ p) = number_from (n * 10 + digit_value b) p

-- the number that a field of digits, or a count, says; of a blank field it is 0
abbrev pub number : List ℕ → ℕ
number p = number_from 0 p

-- "count to 60"
abbrev pub count_to : ℕ → List ℕ → Bool
count_to m p = count p && leb (number p) m
