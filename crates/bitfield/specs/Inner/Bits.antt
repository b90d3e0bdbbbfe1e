-- Tests of bits, for the contracts of inner functions: nobody has to believe this file. Assumes nothing.
use Rattle.std.specs.Prelude.{ℕ, ◌-◌, List, Bool, not, get_or, eqb}
use Rattle.base.specs.Lists.{every, upto, below}
use Rattle.bitfield.specs.BitField.{bit_words, bit_count, bit}

-- no bit from bit k on is set
unfoldable pub clear_from : ℕ → List ℕ → Bool
clear_from k ws = every (λ (j : ℕ). not (bit ws j)) (upto (bit_count - k) k)

-- word i is 0
abbrev pub zero_at : List ℕ → ℕ → Bool
zero_at ws i = eqb (get_or ws i 0) 0

-- no bit is set
abbrev pub no_bit : List ℕ → Bool
no_bit ws = every (zero_at ws) (below bit_words)
