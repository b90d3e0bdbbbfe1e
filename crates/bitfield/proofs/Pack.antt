-- The needs of reading hex digits by words of eight, for `search packing`. Assumes nothing.
use mathlib.Core.Path.{◌≡◌, refl, sym, ap, ◌∙◌}
use mathlib.Core.List.{List, [], ◌∷◌, map}
use mathlib.Core.Bool.{Bool, true}
use Prim.Native.Nat.{ℕ, zero, suc, ◌+◌, ◌*◌, ◌≤◌, ◌<◌}
use native.Mathlib.Omega.{arith}
use lib.ListN.{length, get_or, take, drop, length-drop}
use Rattle.base.specs.Lists.{every}
use Rattle.base.proofs.Laws.{tests}
use Rattle.base.proofs.Loops.{and-true}
use Rattle.columns.specs.Columns.{pad_to, columns, is_hex, hex_value, is_of}
use Rattle.columns.specs.declared.ByteClass.TheVariants.{Hex}
use Rattle.columns.proofs.Laws.{every-long}
use Rattle.byte_words.specs.Inner.Words.{bytes_of, digits_from, hexadecimal}
use Rattle.byte_words.proofs.Lines.{pad-is-take}
use Rattle.bitfield.specs.BitField.{bit_words, hex_from, bits_in}
use Rattle.bitfield.proofs.Hex.{digits_in, word-in, words-done}

-- ---- a word's digits are among those of the line

every_drop : (t : ℕ → Bool) (k : ℕ) (l : List ℕ) → every t l ≡ true → every t (drop k l) ≡ true
unfolding every
every_drop t zero l e = e
every_drop t (suc k) [] e = e
every_drop t (suc k) (b ∷ l) e = every_drop t k l (and-true (t b) (every t l) e).1

every_take : (t : ℕ → Bool) (n : ℕ) (l : List ℕ) → every t l ≡ true → every t (take n l) ≡ true
unfolding every
every_take t zero l e = refl
every_take t (suc n) [] e = refl
every_take t (suc n) (b ∷ l) e =
    let p = and-true (t b) (every t l) e in
    rw (p.0, every_take t n l p.1) refl

-- the number of hex digits, as the words of eight bytes say it
digits-hex : (n : ℕ) (bs : List ℕ) → digits_from 16 n (map hex_value bs) ≡ hex_from n bs
unfolding digits_from hex_from
digits-hex n [] = refl
digits-hex n (b ∷ bs) = digits-hex (n * 16 + hex_value b) bs

-- w are the eight bytes of word i
module _ (line : List ℕ) (i w : ℕ) (m : 103 ≤ length line) (h : i < bit_words) (e : bytes_of 8 w ≡ take 8 (drop (8 * i + 7) line)) where
  bytes-are : pad_to 8 (drop (8 * i + 7) line) ≡ bytes_of 8 w
  bytes-are = pad-is-take 8 (drop (8 * i + 7) line) (simp length-drop (omega arith)) ∙ sym e

  pub word-hex : every is_hex (columns 8 103 line) ≡ true → every is_hex (bytes_of 8 w) ≡ true
  word-hex d =
      let p : every is_hex (take 8 (drop (8 * i) (columns 8 103 line))) ≡ true = every_take is_hex 8 (drop (8 * i) (columns 8 103 line)) (every_drop is_hex (8 * i) (columns 8 103 line) d) in
      rw (digits_in line i h, bytes-are) at p

  pub word-is : (x : ℕ) → x ≡ hexadecimal (map hex_value (bytes_of 8 w)) → x ≡ get_or (bits_in line) i 0
  word-is x d = d ∙ digits-hex 0 (bytes_of 8 w) ∙ ap (hex_from 0) (sym bytes-are) ∙ sym (word-in line i h)

-- blanks behind a short line are no hex digits
pub hex-long : (line : List ℕ) → every is_hex (columns 8 103 line) ≡ true → 103 ≤ length line
hex-long line e = every-long is_hex refl 8 103 line (omega arith) (omega arith) e

pub all-hex : (l : List ℕ) (t : Bool) → t ≡ every (is_of Hex) l → t ≡ true → every is_hex l ≡ true
all-hex l t e y = sym e ∙ y

pub ruleset packing = (tests, hex-long, word-hex, word-is, all-hex, words-done)
