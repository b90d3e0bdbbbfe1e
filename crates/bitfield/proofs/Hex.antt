-- The needs of reading hex digits, for `search hexes` and `search words`. Assumes nothing.
use mathlib.Core.Path.{◌≡◌, refl, sym, ap, ◌∙◌}
use mathlib.Core.List.{List, [], ◌∷◌}
use mathlib.Core.Bool.{cond, ◌&&◌}
use Prim.Native.Nat.{ℕ, zero, suc, ◌+◌, ◌-◌, ◌*◌, ◌^◌, ◌≤◌, ◌<◌}
use native.Mathlib.Nat.{pow-le-pow_right, pow-suc}
use native.Mathlib.Numerals.{add-one}
use native.Mathlib.Omega.{arith}
use lib.ListN.{length, get_or, take, drop}
use lib.Seq.{drop-nil, drop-drop}
use lib.Dec.{leb, lit<}
use Rattle.base.proofs.Laws.{by-leb, tests}
use Rattle.columns.specs.Columns.{pad_to, columns, hex_value}
use Rattle.columns.proofs.Laws.{next-column, no-column, pad-take}
use Rattle.bitfield.specs.BitField.{bit_words, hex_from, hex_words, bits_in}
use Rattle.bitfield.proofs.Fill.{twelve-same}

-- a hex digit is four bits
pub hex-le : (b : ℕ) → hex_value b ≤ 15
hex-le b =
    by-leb (λ t. cond (t && leb b 57) (b - 48) (cond (leb 65 b && leb b 70) (b - 55) 0) ≤ 15) 48 b
    (λ h. by-leb (λ t. cond t (b - 48) (cond (leb 65 b && leb b 70) (b - 55) 0) ≤ 15) b 57 (λ k. omega arith) (λ k. upper))
    (λ h. upper)
  where
    upper : cond (leb 65 b && leb b 70) (b - 55) 0 ≤ 15
    upper =
        by-leb (λ t. cond (t && leb b 70) (b - 55) 0 ≤ 15) 65 b
        (λ h. by-leb (λ t. cond t (b - 55) 0 ≤ 15) b 70 (λ k. omega arith) (λ k. omega arith))
        (λ h. omega arith)

-- ---- the loop over eight digits, for `search hexes`: with i read the number n is below 16 ^ i; d is the value of the next, b

few-digits : (n i : ℕ) → n < 16 ^ i → i < 8 → n < 268435456
few-digits n i a b =
    let k : i ≤ 7 = omega arith in
    let m : 16 ^ i ≤ 16 ^ 7 = pow-le-pow_right (lit< tt) k in
    omega arith

pub sixteens-fit : (n i : ℕ) → n < 16 ^ i → i < 8 → n * 16 < 2 ^ 32
sixteens-fit n i v h = omega (arith, few-digits n i v h)

module _ (n i d b : ℕ) (k : d ≡ hex_value b) where
  pub hex-grows : n < 16 ^ i → n * 16 + d < 16 ^ (i + 1)
  hex-grows v = rw (add-one, pow-suc) (omega (arith, hex-le b))

  pub hex-fits : n < 16 ^ i → i < 8 → n * 16 + d < 2 ^ 32
  hex-fits v h = omega (arith, few-digits n i v h, hex-le b)

  pub hex-again : (p : List ℕ) (w r : ℕ) → i < w → b ≡ get_or p i 32 → hex_from n (drop i (pad_to w p)) ≡ r → hex_from (n * 16 + d) (drop (i + 1) (pad_to w p)) ≡ r
  unfolding hex_from
  hex-again p w r h e v = rw k (sym (rw (next-column p h e)) ∙ v)

pub hex-done : (p : List ℕ) (w i n r : ℕ) → w ≤ i → hex_from n (drop i (pad_to w p)) ≡ r → n ≡ r
unfolding hex_from
hex-done p w i n r h v = sym (rw (no-column p h)) ∙ v

pub ruleset hexes = (tests, sixteens-fit, hex-grows, hex-fits, hex-again, hex-done)

-- ---- the twelve words of a line, for `search words`

-- a part of padded columns is the columns of the part
pad-part : (w a n : ℕ) (l : List ℕ) → a + w ≤ n → take w (drop a (pad_to n l)) ≡ pad_to w (drop a l)
unfolding pad_to
pad-part zero zero n l h = refl
pad-part (suc w) zero zero l h = absurd (omega arith)
pad-part (suc w) zero (suc n) [] h = ap (λ (r : List ℕ). 32 ∷ r) (pad-part w zero n [] (omega arith))
pad-part (suc w) zero (suc n) (b ∷ l) h = ap (λ (r : List ℕ). b ∷ r) (pad-part w zero n l (omega arith))
pad-part w (suc a) zero l h = absurd (omega arith)
pad-part w (suc a) (suc n) [] h = pad-part w a n [] (omega arith) ∙ ap (pad_to w) (drop-nil a)
pad-part w (suc a) (suc n) (b ∷ l) h = pad-part w a n l (omega arith)

pub length-words : (n : ℕ) (p : List ℕ) → length (hex_words n p) ≡ n
unfolding hex_words
length-words zero p = refl
length-words (suc n) p = ap suc (length-words n (drop 8 p))

-- a bit field has twelve words
pub length-bits : (line : List ℕ) → length (bits_in line) ≡ bit_words
unfolding bits_in
length-bits line = length-words bit_words (columns 8 103 line)

-- word j is that of the eight digits from 8 j on
pub word_at : (n j : ℕ) (p : List ℕ) → j < n → get_or (hex_words n p) j 0 ≡ hex_from 0 (take 8 (drop (8 * j) p))
unfolding hex_words
word_at zero j p h = absurd (omega arith)
word_at (suc n) zero p h = refl
word_at (suc n) (suc j) p h =
    let e : 8 + 8 * j ≡ 8 * suc j = omega arith in
    word_at n j (drop 8 p) (omega arith) ∙ ap (λ (q : List ℕ). hex_from 0 (take 8 q)) (drop-drop (8 * j) 8 p ∙ ap (λ (k : ℕ). drop k p) e)

-- word j of a line
abbrev pub word_in : List ℕ → ℕ → ℕ
word_in line j = get_or (bits_in line) j 0

-- its eight digits
pub digits_in : (line : List ℕ) (j : ℕ) → j < bit_words → take 8 (drop (8 * j) (columns 8 103 line)) ≡ pad_to 8 (drop (8 * j + 7) line)
unfolding columns
digits_in line j h =
    let e : 7 + 8 * j ≡ 8 * j + 7 = omega arith in
    pad-part 8 (8 * j) 96 (drop 7 line) (omega arith) ∙ ap (pad_to 8) (drop-drop (8 * j) 7 line ∙ ap (λ (k : ℕ). drop k line) e)

pub word-in : (line : List ℕ) (j : ℕ) → j < bit_words → word_in line j ≡ hex_from 0 (pad_to 8 (drop (8 * j + 7) line))
unfolding bits_in
word-in line j h = word_at bit_words j (columns 8 103 line) h ∙ ap (hex_from 0) (digits_in line j h)

-- p is the part of the line that has word i, x its value
pub word-said : (line p : List ℕ) (i x : ℕ) → i < bit_words → p ≡ take (8 * i + 15 - (8 * i + 8 - 1)) (drop (8 * i + 8 - 1) line) → x ≡ hex_from 0 (pad_to 8 p) → x ≡ word_in line i
word-said line p i x h e k =
    let a : 8 * i + 8 - 1 ≡ 8 * i + 7 = omega arith in
    let b : 8 * i + 15 - (8 * i + 7) ≡ 8 = omega arith in
    let q : pad_to 8 p ≡ pad_to 8 (drop (8 * i + 7) line) = rw (e, a, b) (pad-take 8 (drop (8 * i + 7) line)) in
    k ∙ ap (hex_from 0) q ∙ sym (word-in line i h)

-- twelve words that are each the line's are its bit field
pub words-done : (line r : List ℕ) → length r ≡ bit_words → ((k : ℕ) → k < bit_words → get_or r k 0 ≡ word_in line k) → r ≡ bits_in line
words-done line r n e = twelve-same (bits_in line) r (length-bits line) n e

pub ruleset words = (tests, word-said, words-done)
