-- What the definitions say bit by bit: `bit-of-digit`, `bit-of-column` (which hex digit bit k comes from), `bits-determine` (the 384 bits are all there is to
-- twelve words), `frame-each` (what a right frame says of bit k), `frame-all` (and back). Assumes nothing.
use mathlib.Core.Path.{◌≡◌, refl, sym, ap, ◌∙◌}
use mathlib.Core.List.{List, [], ◌∷◌}
use mathlib.Core.Bool.{true}
use Prim.Native.Nat.{ℕ, zero, suc, ◌+◌, ◌-◌, ◌*◌, ◌/◌, ◌%◌, ◌^◌, ◌<◌}
use native.Mathlib.Nat.{pow-suc, pow-succ', div-one, div-div-eq-div-mul}
use native.Mathlib.Omega.{arith}
use lib.ListN.{length, get_or, take, drop, length-drop}
use lib.Pow.{pow-add}
use lib.Seq.{get_or-take, get_or-drop, ext_get_or, length-take-le}
use lib.Dec.{eqb}
use borrow.Author.Tests.{eqb-true}
use Rattle.base.proofs.Loops.{every-at, every_one}
use Rattle.columns.specs.Columns.{pad_to, columns, column, hex_value}
use Rattle.columns.proofs.Laws.{length-pad, get_d-pad}
use Rattle.bitfield.specs.BitField.{bit_words, bit_count, hex_from, hex_words, bits_in, bit, frame_bit, framed}
use Rattle.bitfield.proofs.Sets.{digit, digit-two}
use Rattle.bitfield.proofs.Hex.{hex-le, word_at}

-- "bit 0 the highest of the first word"
pub bit-of-word : (ws : List ℕ) (k : ℕ) → bit ws k ≡ eqb (digit (get_or ws (k / 32) 0) (31 - k % 32)) 1
unfolding bit
bit-of-word ws k = refl

-- ---- "first hex digit's high bit first"

-- without the digits that follow, the number is what stood before them
hex-div : (n : ℕ) (q : List ℕ) → hex_from n q / 16 ^ length q ≡ n
unfolding hex_from
hex-div n [] = div-one n
hex-div n (b ∷ q) =
    rw (pow-suc 16 (length q), ← (div-div-eq-div-mul (hex_from (n * 16 + hex_value b) q) (16 ^ length q) 16), hex-div (n * 16 + hex_value b) q)
    (omega (arith, hex-le b))

-- hex digit i of a number is the value of byte i
hex-digit : (n : ℕ) (q : List ℕ) (i : ℕ) → i < length q → hex_from n q / 16 ^ (length q - 1 - i) % 16 ≡ hex_value (get_or q i 0)
unfolding hex_from
hex-digit n [] i h = absurd (omega arith)
hex-digit n (b ∷ q) zero h =
    let e : suc (length q) - 1 - 0 ≡ length q = omega arith in
    rw (e, hex-div (n * 16 + hex_value b) q) (omega (arith, hex-le b))
hex-digit n (b ∷ q) (suc i) h =
    let e : suc (length q) - 1 - suc i ≡ length q - 1 - i = omega arith in
    rw e (hex-digit (n * 16 + hex_value b) q i (omega arith))

sixteens : (m : ℕ) → 2 ^ (4 * m) ≡ 16 ^ m
sixteens zero = refl
sixteens (suc m) =
    let e : 4 * suc m ≡ 4 * m + 4 = omega arith in
    rw (e, pow-add 2 (4 * m) 4, sixteens m, pow-suc 16 m)

-- a binary digit lies in one hex digit
digit-in : (x m t : ℕ) → t < 4 → digit x (4 * m + t) ≡ digit (x / 16 ^ m % 16) t
digit-in x m t h = rw (pow-add 2 (4 * m) t, sixteens m, ← (div-div-eq-div-mul x (16 ^ m) (2 ^ t))) (go (x / 16 ^ m) t h)
  where
    go : (y t : ℕ) → t < 4 → y / 2 ^ t % 2 ≡ y % 16 / 2 ^ t % 2
    go y zero h = omega arith
    go y (suc zero) h = omega arith
    go y (suc (suc zero)) h = omega arith
    go y (suc (suc (suc zero))) h = omega arith
    go y (suc (suc (suc (suc t)))) h = absurd (omega arith)

-- bit k is bit 3 - k % 4 of the value of hex digit k / 4
pub bit-of-digit : (p : List ℕ) (k : ℕ) → length p ≡ 96 → k < bit_count → bit (hex_words bit_words p) k ≡ eqb (hex_value (get_or p (k / 4) 0) / 2 ^ (3 - k % 4) % 2) 1
unfolding bit
bit-of-digit p k e h =
    let j : ℕ = k / 32 in
    let i : ℕ = k % 32 / 4 in
    let q : List ℕ = take 8 (drop (8 * j) p) in
    let n : length q ≡ 8 = length-take-le 8 (drop (8 * j) p) (simp length-drop (omega arith)) in
    let s : 31 - k % 32 ≡ 4 * (8 - 1 - i) + (3 - k % 4) = omega arith in
    let g : get_or q i 0 ≡ get_or p (k / 4) 0 = get_or-take 8 (drop (8 * j) p) i 0 (omega arith) ∙ get_or-drop (8 * j) p i 0 ∙ ap (λ (x : ℕ). get_or p x 0) (omega arith) in
    let d : hex_from 0 q / 16 ^ (8 - 1 - i) % 16 ≡ hex_value (get_or q i 0) = rw n at (hex-digit 0 q i (omega arith)) in
    ap (λ (x : ℕ). eqb x 1)
    (ap (λ (x : ℕ). digit x (31 - k % 32)) (word_at bit_words j p (omega arith)) ∙ ap (digit (hex_from 0 q)) s ∙ digit-in (hex_from 0 q) (8 - 1 - i) (3 - k % 4) (omega arith)
    ∙ ap (λ (x : ℕ). digit x (3 - k % 4)) (d ∙ ap hex_value g))

-- and so, of a line, of the hex digit in column 8 + k / 4
pub bit-of-column : (line : List ℕ) (k : ℕ) → k < bit_count → bit (bits_in line) k ≡ eqb (hex_value (column (8 + k / 4) line) / 2 ^ (3 - k % 4) % 2) 1
unfolding bits_in columns
bit-of-column line k h =
    let e : 7 + k / 4 ≡ 8 + k / 4 - 1 = omega arith in
    let g : get_or (pad_to 96 (drop 7 line)) (k / 4) 0 ≡ column (8 + k / 4) line = get_d-pad 96 (drop 7 line) (k / 4) 0 (omega arith) ∙ get_or-drop 7 line (k / 4) 32 ∙ ap (λ (i : ℕ). get_or line i 32) e in
    bit-of-digit (pad_to 96 (drop 7 line)) k (length-pad 96 (drop 7 line)) h ∙ ap (λ (b : ℕ). eqb (digit (hex_value b) (3 - k % 4)) 1) g

-- ---- the bits are all there is

digits-determine : (n x y : ℕ) → x < 2 ^ n → y < 2 ^ n → ((j : ℕ) → j < n → digit x j ≡ digit y j) → x ≡ y
digits-determine zero x y a b e = omega arith
digits-determine (suc n) x y a b e =
    let t : x / 2 ≡ y / 2 = digits-determine n (x / 2) (y / 2) (half x a) (half y b) (λ j h. sym (next x j) ∙ e (suc j) (omega arith) ∙ next y j) in
    omega (arith, e 0 (omega arith))
  where
    half : (z : ℕ) → z < 2 ^ suc n → z / 2 < 2 ^ n
    half z h = let q : 2 ^ suc n ≡ 2 ^ n * 2 = pow-suc 2 n in omega arith

    next : (z j : ℕ) → digit z (suc j) ≡ digit (z / 2) j
    next z j = rw (pow-succ' 2 j, ← (div-div-eq-div-mul z 2 (2 ^ j)))

-- two fields of twelve words with the same bits are the same
pub bits-determine : (a b : List ℕ) → length a ≡ bit_words → length b ≡ bit_words → ((i : ℕ) → i < bit_words → get_or a i 0 < 2 ^ 32) → ((i : ℕ) → i < bit_words → get_or b i 0 < 2 ^ 32) → ((k : ℕ) → k < bit_count → bit a k ≡ bit b k) → a ≡ b
unfolding bit
bits-determine a b la lb wa wb e =
    ext_get_or 0 a b (la ∙ sym lb) (λ i h.
    let k : i < bit_words = omega arith in
    digits-determine 32 (get_or a i 0) (get_or b i 0) (wa i k) (wb i k) (λ j g. same i j k g))
  where
    truth : (x y : ℕ) → x < 2 → y < 2 → eqb x 1 ≡ eqb y 1 → x ≡ y
    truth zero zero a b e = refl
    truth zero (suc zero) a b e = eqb-true 0 1 e
    truth zero (suc (suc y)) a b e = absurd (omega arith)
    truth (suc zero) y a b e = sym (eqb-true y 1 (sym e))
    truth (suc (suc x)) y a b e = absurd (omega arith)

    same : (i j : ℕ) → i < bit_words → j < 32 → digit (get_or a i 0) j ≡ digit (get_or b i 0) j
    same i j h g =
        let k : ℕ = 32 * i + (31 - j) in
        let p : k / 32 ≡ i = omega arith in
        let q : 31 - k % 32 ≡ j = omega arith in
        truth (digit (get_or a i 0) j) (digit (get_or b i 0) j) (digit-two (get_or a i 0) j) (digit-two (get_or b i 0) j) (rw (p, q) at (e k (omega arith)))

-- ---- "bits 0 and 1 are 1, bit d+2 is day d, bits n+2 and n+3 are 1, the rest 0"

pub frame-each : (n : ℕ) (ws : List ℕ) (k : ℕ) → framed n ws ≡ true → k < bit_count → frame_bit n k (bit ws k) ≡ true
unfolding framed
frame-each n ws k e h = every-at (λ (k : ℕ). frame_bit n k (bit ws k)) bit_count 0 k e (omega arith) (omega arith)

pub frame-all : (n : ℕ) (ws : List ℕ) → ((k : ℕ) → k < bit_count → frame_bit n k (bit ws k) ≡ true) → framed n ws ≡ true
unfolding framed
frame-all n ws e = every_one (λ (k : ℕ). frame_bit n k (bit ws k)) bit_count 0 (λ k a h. e k (omega arith))
