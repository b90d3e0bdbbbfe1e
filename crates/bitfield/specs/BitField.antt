-- "Of the 384 bits, first hex digit's high bit first: bits 0 and 1 are 1, bit d+2 is day d, bits n+2 and n+3 are 1, the rest 0.
-- A bit field is twelve words held together as one value, bit 0 the highest of the first word."
-- Assumes nothing.
use Rattle.std.specs.Prelude.{ℕ, zero, suc, ◌+◌, ◌-◌, ◌*◌, ◌/◌, ◌%◌, ◌^◌, List, [], ◌∷◌, Bool, true, cond, not, get_or, take, drop, eqb, ltb}
use Rattle.base.specs.Lists.{every, some_of, below}
use Rattle.columns.specs.Columns.{hex_value}
use Rattle.columns.specs.LineFields.{field_in, bit_field_bits}

-- "A bit field is twelve words held together as one value"
abbrev pub bit_words : ℕ
bit_words = 12

-- "Of the 384 bits"
abbrev pub bit_count : ℕ
bit_count = 384

-- the most days that a frame can hold: all bits but the frame's own four, "bits 0 and 1 are 1, .., bits n+2 and n+3 are 1"
abbrev pub most_framed : ℕ
most_framed = bit_count - 4

-- the number whose hex digits follow n
unfoldable pub hex_from : ℕ → List ℕ → ℕ
hex_from n [] = n
hex_from n (b ∷ p) = hex_from (n * 16 + hex_value b) p

-- so many words of eight hex digits each
unfoldable pub hex_words : ℕ → List ℕ → List ℕ
hex_words zero p = []
hex_words (suc n) p = hex_from 0 (take 8 p) ∷ hex_words n (drop 8 p)

-- "8-103 hex digits 0-9 A-F": the twelve words of the 96 digits
unfoldable pub bits_in : List ℕ → List ℕ
bits_in line = hex_words bit_words (field_in bit_field_bits line)

-- bit k: bit 0 the highest of the first word
unfoldable pub bit : List ℕ → ℕ → Bool
bit ws k = eqb (get_or ws (k / 32) 0 / 2 ^ (31 - k % 32) % 2) 1

-- "bit d+2 is day d"
abbrev pub runs_on : List ℕ → ℕ → Bool
runs_on ws d = bit ws (d + 2)

-- whether bit k may be b in the frame of n days
abbrev pub frame_bit : ℕ → ℕ → Bool → Bool
frame_bit n k b = cond (ltb k 2) b (cond (ltb k (n + 2)) true (cond (ltb k (n + 4)) b (not b)))

-- "bits 0 and 1 are 1, .., bits n+2 and n+3 are 1, the rest 0"
unfoldable pub framed : ℕ → List ℕ → Bool
framed n ws = every (λ (k : ℕ). frame_bit n k (bit ws k)) (below bit_count)

-- some day of n days is in the set (for the contract of `some_day` only)
abbrev pub some_day : ℕ → List ℕ → Bool
some_day n ws = some_of (runs_on ws) (below n)
