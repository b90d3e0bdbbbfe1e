-- Operations on twelve words at a time, as operations on single bits. Assumes nothing.
use mathlib.Core.Path.{◌≡◌, refl, ap, ◌∙◌}
use mathlib.Core.List.{List}
use mathlib.Core.Bool.{Bool, true, false, not, ◌&&◌, ◌||◌}
use Prim.Native.Nat.{ℕ, zero, suc, ◌-◌, ◌/◌, ◌%◌, ◌^◌, ◌<◌}
use native.Mathlib.Nat.{mod-lt}
use native.Mathlib.Omega.{arith}
use lib.ListN.{get_or, replicate}
use lib.Dec.{eqb}
use lib.Bits.{bit_or, bit_and, bit_xor, or_shr, or_mod, and_shr, and_mod, xor_shr, xor_mod}
use borrow.Author.Tests.{not-true}
use Rattle.base.specs.Lists.{every, upto}
use Rattle.base.proofs.Loops.{every-at}
use Rattle.bitfield.specs.BitField.{bit_words, bit_count, bit}

-- ---- one binary digit of an operation on words

-- a word's binary digit j
abbrev pub digit : ℕ → ℕ → ℕ
digit a j = a / 2 ^ j % 2

pub digit-two : (a j : ℕ) → digit a j < 2
digit-two a j = mod-lt (a / 2 ^ j) (omega arith)

-- f works on each digit by itself
abbrev Single : (ℕ → ℕ → ℕ) → Type 0
Single f = (a b j : ℕ) → digit (f a b) j ≡ f (digit a j) (digit b j)

-- f works as g on the truth of each digit
abbrev pub Digitwise : (ℕ → ℕ → ℕ) → (Bool → Bool → Bool) → Type 0
Digitwise f g = (a b j : ℕ) → eqb (digit (f a b) j) 1 ≡ g (eqb (digit a j) 1) (eqb (digit b j) 1)

-- by the four cases of two digits
digitwise : (f : ℕ → ℕ → ℕ) (g : Bool → Bool → Bool) → Single f → eqb (f 0 0) 1 ≡ g false false → eqb (f 0 1) 1 ≡ g false true → eqb (f 1 0) 1 ≡ g true false → eqb (f 1 1) 1 ≡ g true true → Digitwise f g
digitwise f g s p q r t a b j = ap (λ (x : ℕ). eqb x 1) (s a b j) ∙ go (digit a j) (digit b j) (digit-two a j) (digit-two b j)
  where
    go : (x y : ℕ) → x < 2 → y < 2 → eqb (f x y) 1 ≡ g (eqb x 1) (eqb y 1)
    go zero zero h k = p
    go zero (suc zero) h k = q
    go (suc zero) zero h k = r
    go (suc zero) (suc zero) h k = t
    go (suc (suc x)) y h k = absurd (omega arith)
    go zero (suc (suc y)) h k = absurd (omega arith)
    go (suc zero) (suc (suc y)) h k = absurd (omega arith)

or-single : Single bit_or
or-single a b j = ap (λ (x : ℕ). x % 2) (or_shr a b j) ∙ or_mod (a / 2 ^ j) (b / 2 ^ j) 1

and-single : Single bit_and
and-single a b j = ap (λ (x : ℕ). x % 2) (and_shr a b j) ∙ and_mod (a / 2 ^ j) (b / 2 ^ j) 1

xor-single : Single bit_xor
xor-single a b j = ap (λ (x : ℕ). x % 2) (xor_shr a b j) ∙ xor_mod (a / 2 ^ j) (b / 2 ^ j) 1

-- a ^ (a & b)
abbrev pub less : ℕ → ℕ → ℕ
less a b = bit_xor a (bit_and a b)

less-single : Single less
less-single a b j = xor-single a (bit_and a b) j ∙ ap (bit_xor (digit a j)) (and-single a b j)

-- ---- the 384 bits tried one by one

pub no-bit : (k : ℕ) → k < bit_count → bit (replicate bit_words 0) k ≡ false
unfolding bit every upto
no-bit k h = not-true (bit (replicate bit_words 0) k) (every-at (λ (k : ℕ). not (bit (replicate bit_words 0) k)) bit_count 0 k refl (omega arith) (omega arith))

pub each-bit : (k : ℕ) → k < bit_count → bit (replicate bit_words 4294967295) k ≡ true
unfolding bit every upto
each-bit k h = every-at (bit (replicate bit_words 4294967295)) bit_count 0 k refl (omega arith) (omega arith)

-- ---- operations on twelve words

-- each word of r is f of those of a and b
abbrev pub Wordwise : (ℕ → ℕ → ℕ) → List ℕ → List ℕ → List ℕ → Type 0
Wordwise f a b r = (k : ℕ) → k < bit_words → get_or r k 0 ≡ f (get_or a k 0) (get_or b k 0)

-- what holds of each word holds of each bit
word-bits : (f : ℕ → ℕ → ℕ) (g : Bool → Bool → Bool) → Digitwise f g → (a b r : List ℕ) → Wordwise f a b r → (k : ℕ) → k < bit_count → bit r k ≡ g (bit a k) (bit b k)
unfolding bit
word-bits f g d a b r v k h =
    ap (λ (x : ℕ). eqb (digit x (31 - k % 32)) 1) (v (k / 32) (omega arith))
    ∙ d (get_or a (k / 32) 0) (get_or b (k / 32) 0) (31 - k % 32)

module _ (a b r : List ℕ) where
  pub or-bits : Wordwise bit_or a b r → (k : ℕ) → k < bit_count → bit r k ≡ (bit a k || bit b k)
  or-bits = word-bits bit_or ◌||◌ (digitwise bit_or ◌||◌ or-single refl refl refl refl) a b r

  pub and-bits : Wordwise bit_and a b r → (k : ℕ) → k < bit_count → bit r k ≡ (bit a k && bit b k)
  and-bits = word-bits bit_and ◌&&◌ (digitwise bit_and ◌&&◌ and-single refl refl refl refl) a b r

  pub less-bits : Wordwise less a b r → (k : ℕ) → k < bit_count → bit r k ≡ (bit a k && not (bit b k))
  less-bits = word-bits less (λ (x y : Bool). x && not y) (digitwise less (λ (x y : Bool). x && not y) less-single refl refl refl refl) a b r
