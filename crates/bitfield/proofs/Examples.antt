-- The document's worked examples: lines of BITFELD with three hex digits and zeros. Assumes nothing.
use mathlib.Core.Path.{◌≡◌, refl}
use mathlib.Core.List.{List, [], ◌∷◌, ◌++◌, map}
use mathlib.Core.Bool.{true, false}
use Prim.Native.Nat.{ℕ}
use lib.ListN.{replicate}
use Rattle.base.specs.Lists.{every, some_of, upto, below}
use Rattle.columns.specs.Columns.{pad_to, columns}
use Rattle.bitfield.specs.BitField.{hex_from, hex_words, bits_in, bit, runs_on, framed, some_day}

-- 000001, and the digits from column 8 on
abbrev line : ℕ → ℕ → ℕ → List ℕ
line a b c = replicate 5 48 ++ (49 ∷ 32 ∷ a ∷ b ∷ c ∷ replicate 93 48)

-- FE6: with n = 7 it runs on days 0 to 4
pub fe6-frame : framed 7 (bits_in (line 70 69 54)) ≡ true
unfolding framed every upto bit bits_in hex_words hex_from columns pad_to
fe6-frame = refl

pub fe6-days : map (runs_on (bits_in (line 70 69 54))) (below 7) ≡ true ∷ true ∷ true ∷ true ∷ true ∷ false ∷ false ∷ []
unfolding upto bit bits_in hex_words hex_from columns pad_to
fe6-days = refl

-- FE4: with n = 7 its frame is wrong
pub fe4-frame : framed 7 (bits_in (line 70 69 52)) ≡ false
unfolding framed every upto bit bits_in hex_words hex_from columns pad_to
fe4-frame = refl

-- D8: with n = 1 its frame is right, and it never runs
pub d8-frame : framed 1 (bits_in (line 68 56 48)) ≡ true
unfolding framed every upto bit bits_in hex_words hex_from columns pad_to
d8-frame = refl

pub d8-days : some_day 1 (bits_in (line 68 56 48)) ≡ false
unfolding some_of upto bit bits_in hex_words hex_from columns pad_to
d8-days = refl
