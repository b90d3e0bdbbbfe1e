-- What the laws of request No. 7 speak of. Assumes nothing.
use Rattle.std.specs.Prelude.{ℕ, ◌^◌, ◌<◌, ◌≡◌, List, true, length, get_or}
use Rattle.bitfield.specs.BitField.{bit_words, framed}
use Rattle.day_sets.specs.declared.Operation.{Operation}
use Rattle.day_sets.specs.declared.Operation.TheVariants.{Union, Intersection}

-- a bit field of n days: twelve words of 32 bits with a proper frame
pub record Field (n : ℕ) (words : List ℕ) : Type 0 where
  pub twelve : length words ≡ bit_words
  pub fit : (i : ℕ) → i < bit_words → get_or words i 0 < 2 ^ 32
  pub frame : framed n words ≡ true

-- union and intersection, in either order
pub data Two : Operation → Operation → Type 0 where
  union_first : Two Union Intersection
  intersection_first : Two Intersection Union
