-- Laws of columns. For callers: `pad-take`, `pad-pad`, `part-columns` (a part reads as its columns), `next-column`, `no-column` (a turn and the end
-- of a loop over columns), `every-long` (a line whose columns pass a test reaches so far), `number_lt`, `columns-lt`. Assumes nothing.
use mathlib.Core.Path.{◌≡◌, refl, ap, ◌∙◌, sym}
use mathlib.Core.List.{List, [], ◌∷◌}
use mathlib.Core.Bool.{Bool, true, false, cond, ◌&&◌}
use Prim.Native.Nat.{ℕ, zero, suc, ◌+◌, ◌-◌, ◌*◌, ◌≤◌, ◌<◌, ◌^◌}
use native.Mathlib.Omega.{arith}
use native.Mathlib.Nat.{add-sub_cancel_left, mul_assoc, mul_comm, mul-le-mul_right, pow-le-pow_right, pow-suc, one-le-pow}
use native.Mathlib.Numerals.{add-one}
use lib.ListN.{length, get_or, take, drop, drop_of_length-le, length-drop, length-take}
use lib.Seq.{take-nil, take_all}
use lib.Dec.{leb, lit<}
use borrow.Author.Tests.{eq-eqb, ne_eqb, lt-leb}
use Rattle.base.specs.Lists.{every}
use Rattle.base.proofs.Laws.{drop-next, by-leb, clash, tests}
use Rattle.base.proofs.Loops.{and-true}
use Rattle.columns.specs.Columns.{pad_to, columns, blank, digit_value, is_of, count, number_from, number, count_to}
use Rattle.columns.specs.declared.ByteClass.{ByteClass}
use Rattle.columns.specs.declared.ByteClass.TheVariants.{Digit}

-- ---- columns past the end

pub length-pad : (w : ℕ) (l : List ℕ) → length (pad_to w l) ≡ w
unfolding pad_to
length-pad zero l = refl
length-pad (suc w) [] = ap suc (length-pad w [])
length-pad (suc w) (b ∷ l) = ap suc (length-pad w l)

pub get_d-pad : (w : ℕ) (l : List ℕ) (i d : ℕ) → i < w → get_or (pad_to w l) i d ≡ get_or l i 32
unfolding pad_to
get_d-pad zero l i d h = absurd (omega arith)
get_d-pad (suc w) [] zero d h = refl
get_d-pad (suc w) (b ∷ l) zero d h = refl
get_d-pad (suc w) [] (suc i) d h = get_d-pad w [] i d (omega arith)
get_d-pad (suc w) (b ∷ l) (suc i) d h = get_d-pad w l i d (omega arith)

-- what the part hands on reads as the columns themselves
pub pad-take : (w : ℕ) (l : List ℕ) → pad_to w (take w l) ≡ pad_to w l
unfolding pad_to
pad-take zero l = refl
pad-take (suc w) [] = refl
pad-take (suc w) (b ∷ l) = ap (λ (r : List ℕ). b ∷ r) (pad-take w l)

-- the same read again with another width
pub pad-pad : (v w : ℕ) (l : List ℕ) → pad_to v (take w l) ≡ pad_to v (pad_to w l)
unfolding pad_to
pad-pad zero w l = refl
pad-pad (suc v) zero l = refl
pad-pad (suc v) (suc w) [] = ap (λ (r : List ℕ). 32 ∷ r) (rest v w)
  where
    rest : (v w : ℕ) → pad_to v [] ≡ pad_to v (pad_to w [])
    rest zero w = refl
    rest (suc v) zero = refl
    rest (suc v) (suc w) = ap (λ (r : List ℕ). 32 ∷ r) (rest v w)
pad-pad (suc v) (suc w) (b ∷ l) = ap (λ (r : List ℕ). b ∷ r) (pad-pad v w l)

-- a whole line has no column more
pub pad-length : (l : List ℕ) → pad_to (length l) l ≡ l
unfolding pad_to
pad-length [] = refl
pad-length (b ∷ l) = ap (λ (r : List ℕ). b ∷ r) (pad-length l)

-- they are blank
pub blank-past : (w : ℕ) → blank (pad_to w []) ≡ true
unfolding pad_to every
blank-past zero = refl
blank-past (suc w) = blank-past w

-- and a test that a blank fails holds of none of them
pub every-reaches : (t : ℕ → Bool) → t 32 ≡ false → (w : ℕ) (l : List ℕ) → every t (pad_to w l) ≡ true → w ≤ length l
unfolding pad_to every
every-reaches t off zero l e = omega arith
every-reaches t off (suc w) [] e = clash (sym (rw off) ∙ e)
every-reaches t off (suc w) (b ∷ l) e = omega (arith, every-reaches t off w l (and-true (t b) (every t (pad_to w l)) e).1)

-- so the line reaches so far
pub every-long : (t : ℕ → Bool) → t 32 ≡ false → (a b : ℕ) (line : List ℕ) → 1 ≤ a → a ≤ b → every t (columns a b line) ≡ true → b ≤ length line
unfolding columns
every-long t off a b line h k e = omega (arith, every-reaches t off (b - (a - 1)) (drop (a - 1) line) e, length-drop (a - 1) line, h, k)

-- columns a to b are as many, however short the line is
pub length-columns : (a b : ℕ) (line : List ℕ) → length (columns a b line) ≡ b - (a - 1)
unfolding columns
length-columns a b line = length-pad (b - (a - 1)) (drop (a - 1) line)

pub part-columns : (a b w : ℕ) (line p : List ℕ) → w ≡ b - (a - 1) → p ≡ take (b - (a - 1)) (drop (a - 1) line) → pad_to w p ≡ columns a b line
unfolding columns
part-columns a b w line p e q = rw (e, q) (pad-take (b - (a - 1)) (drop (a - 1) line))

-- the part of columns a to b: f is the place of column a, w how many they are
module _ (l : List ℕ) (a b f w : ℕ) (p : f ≡ a - 1) (q : w ≡ b - (a - 1)) where
  -- where the line ends before them
  pub part_none : length l ≤ f → [] ≡ take (b - (a - 1)) (drop (a - 1) l)
  part_none h = rw (← q, ← p, drop_of_length-le l h, take-nil)

  pub part-whole : take (f + w - f) (drop f l) ≡ take (b - (a - 1)) (drop (a - 1) l)
  part-whole = rw (← q, ← p, add-sub_cancel_left)

  -- where it ends in them
  pub part-short : length l - f < w → take (length l - f) (drop f l) ≡ take (b - (a - 1)) (drop (a - 1) l)
  part-short h = rw (← q, ← p, take_all (length l - f) (drop f l) (simp length-drop (omega arith)), take_all w (drop f l) (simp length-drop (omega arith)))

-- a turn: the columns from place i on are b, which was read there, and those from i + 1 on
pub next-column : (p : List ℕ) {w i b : ℕ} → i < w → b ≡ get_or p i 32 → drop i (pad_to w p) ≡ b ∷ drop (i + 1) (pad_to w p)
next-column p {w} {i} {b} h e = drop-next (pad_to w p) i b (rw length-pad h) (e ∙ sym (get_d-pad w p i 0 h))

-- past the last column nothing is left
pub no-column : (p : List ℕ) {w i : ℕ} → w ≤ i → drop i (pad_to w p) ≡ []
no-column p {w} {i} h = drop_of_length-le (pad_to w p) {i = i} (rw length-pad h)

-- ---- numbers

pub digit-le : (b : ℕ) → digit_value b ≤ 9
digit-le b =
    by-leb (λ t. cond (t && leb b 57) (b - 48) 0 ≤ 9) 48 b
    (λ h. by-leb (λ t. cond t (b - 48) 0 ≤ 9) b 57 (λ k. omega arith) (λ k. omega arith))
    (λ h. omega arith)

-- with i digits read a number is below 10 ^ i
pub few-digits : (n i w : ℕ) → n < 10 ^ i → i < w → w ≤ 9 → n < 100000000
few-digits n i w a b c =
    let k : i ≤ 8 = omega arith in
    let m : 10 ^ i ≤ 10 ^ 8 = pow-le-pow_right (lit< tt) k in
    omega arith

pub more-digits : (n i d : ℕ) → n < 10 ^ i → d ≤ 9 → n * 10 + d < 10 ^ (i + 1)
more-digits n i d a b = rw (add-one, pow-suc) (omega arith)

-- a number never falls as digits follow
pub number-grows : (n : ℕ) (l : List ℕ) → n ≤ number_from n l
unfolding number_from
number-grows n [] = omega arith
number-grows n (b ∷ l) = omega (arith, number-grows (n * 10 + digit_value b) l)

-- so many digits make a number below that power of ten
pub number_lt : (n : ℕ) (l : List ℕ) → number_from n l < (n + 1) * 10 ^ length l
unfolding number_from
number_lt n [] = omega arith
number_lt n (b ∷ l) =
    let e : 10 ^ suc (length l) ≡ 10 * 10 ^ length l = pow-suc 10 (length l) ∙ mul_comm (10 ^ length l) 10 in
    let k : (n * 10 + digit_value b + 1) * 10 ^ length l ≤ (n + 1) * (10 * 10 ^ length l) = le-mul (n * 10 + digit_value b + 1) (n + 1) (10 ^ length l) (omega (arith, digit-le b)) in
    rw e (omega (arith, number_lt (n * 10 + digit_value b) l))
  where
    le-mul : (x y z : ℕ) → x ≤ y * 10 → x * z ≤ y * (10 * z)
    le-mul x y z h = rw (← (mul_assoc y 10 z)) (mul-le-mul_right z h)

-- a number of so many columns
pub columns-lt : (a b : ℕ) (line : List ℕ) → number (columns a b line) < 10 ^ (b - (a - 1))
columns-lt a b line =
    let n : number (columns a b line) < (0 + 1) * 10 ^ (b - (a - 1)) = rw (length-columns a b line) at (number_lt 0 (columns a b line)) in
    omega (arith, n)

-- ---- the needs of the loops over the w columns of p, for `search turns`: b was read at place i

module _ (p : List ℕ) (w i b : ℕ) (h : i < w) (e : b ≡ get_or p i 32) where
  pub every-again : (k : ByteClass) (t r : Bool) → t ≡ is_of k b → t ≡ true → every (is_of k) (drop i (pad_to w p)) ≡ r → every (is_of k) (drop (i + 1) (pad_to w p)) ≡ r
  unfolding every
  every-again k t r d y v = sym (rw (next-column p h e, sym d ∙ y)) ∙ v

  pub every-out : (k : ByteClass) (t r : Bool) → t ≡ is_of k b → t ≡ false → every (is_of k) (drop i (pad_to w p)) ≡ r → false ≡ r
  unfolding every
  every-out k t r d y v = sym (rw (next-column p h e, sym d ∙ y)) ∙ v

  pub count-again : (r : Bool) → b ≡ 32 → count (drop i (pad_to w p)) ≡ r → count (drop (i + 1) (pad_to w p)) ≡ r
  unfolding count
  count-again r t v = sym (rw (next-column p h e, eq-eqb b 32 t)) ∙ v

  pub count-out : (q r : Bool) → (b ≡ 32 → ⊥) → q ≡ every (is_of Digit) (drop i (pad_to w p)) → count (drop i (pad_to w p)) ≡ r → q ≡ r
  unfolding count every
  count-out q r t d v = d ∙ sym (rw (next-column p h e, ne_eqb b 32 t)) ∙ v

  pub number-again : (n d r : ℕ) → d ≡ digit_value b → number_from n (drop i (pad_to w p)) ≡ r → number_from (n * 10 + d) (drop (i + 1) (pad_to w p)) ≡ r
  unfolding number_from
  number-again n d r k v = rw k (sym (rw (next-column p h e)) ∙ v)

pub every-done : (p : List ℕ) (w i : ℕ) (k : ByteClass) (r : Bool) → w ≤ i → every (is_of k) (drop i (pad_to w p)) ≡ r → true ≡ r
unfolding every
every-done p w i k r h v = sym (rw (no-column p h)) ∙ v

pub count-done : (p : List ℕ) (w i : ℕ) (r : Bool) → w ≤ i → count (drop i (pad_to w p)) ≡ r → false ≡ r
unfolding count
count-done p w i r h v = sym (rw (no-column p h)) ∙ v

pub number-done : (p : List ℕ) (w i n r : ℕ) → w ≤ i → number_from n (drop i (pad_to w p)) ≡ r → n ≡ r
unfolding number_from
number-done p w i n r h v = sym (rw (no-column p h)) ∙ v

module _ (n i w b d : ℕ) (k : d ≡ digit_value b) where
  pub number-next : n < 10 ^ i → n * 10 + d < 10 ^ (i + 1)
  number-next v = more-digits n i d v (rw k (digit-le b))

  pub number_fits : n < 10 ^ i → i < w → w ≤ 9 → n * 10 + d < 2 ^ 32
  number_fits v h l = omega (arith, few-digits n i w v h l, digit-le b)

  pub sum_fits : (m : ℕ) → n ≤ m → m < 2 ^ 32 → n * 10 + d < 2 ^ 64
  sum_fits m v l = omega (arith, digit-le b)

pub tens-fit : (n i w : ℕ) → n < 10 ^ i → i < w → w ≤ 9 → n * 10 < 2 ^ 32
tens-fit n i w v h k = omega (arith, few-digits n i w v h k)

pub power : (k : ℕ) → 0 < 10 ^ k
power k = one-le-pow k 10 (lit< tt)

-- a number that is over m stays over it
pub over-out : (l : List ℕ) (m q n r : ℕ) → q ≡ m → q < n → number_from n l ≡ r → false ≡ leb r m
over-out l m q n r g h v = sym (lt-leb r m (omega (arith, number-grows n l)))

pub at-most-done : (p : List ℕ) (w i m q n r : ℕ) → w ≤ i → q ≡ m → number_from n (drop i (pad_to w p)) ≡ r → leb n q ≡ leb r m
at-most-done p w i m q n r h g v = rw (g, number-done p w i n r h v)

-- for `at_most`, beside the laws of the loops
pub ruleset sums = (tests, number-again, over-out, sum_fits, at-most-done)

-- ---- the columns a to b of a line by the part p of it, and their number w, for `search parts`

module _ (a b w : ℕ) (line p : List ℕ) (e : w ≡ b - (a - 1)) (q : p ≡ take (b - (a - 1)) (drop (a - 1) line)) where
  pub every-columns : (k : ByteClass) (r : Bool) → r ≡ every (is_of k) (pad_to w p) → r ≡ every (is_of k) (columns a b line)
  every-columns k r d = d ∙ ap (every (is_of k)) (part-columns a b w line p e q)

  pub number-columns : (r : ℕ) → r ≡ number (pad_to w p) → r ≡ number (columns a b line)
  number-columns r d = d ∙ ap number (part-columns a b w line p e q)

  pub no-count : (t : Bool) → t ≡ count (pad_to w p) → t ≡ false → (m : ℕ) → false ≡ count_to m (columns a b line)
  no-count t d y m = rw (← (part-columns a b w line p e q), sym d ∙ y)

  pub count-columns : (t : Bool) → t ≡ count (pad_to w p) → t ≡ true → (m : ℕ) (r : Bool) → r ≡ leb (number (pad_to w p)) m → r ≡ count_to m (columns a b line)
  count-columns t d y m r z = rw (← (part-columns a b w line p e q), sym d ∙ y) z

  -- where the line reaches over them, the part is the columns
  pub all-columns : (k : ByteClass) (r : Bool) → w ≤ length p → r ≡ every (is_of k) p → r ≡ every (is_of k) (columns a b line)
  all-columns k r h d =
      let n : length p ≡ w = rw (q, length-take) (omega (arith, rw (q, length-take) at h)) in
      d ∙ ap (every (is_of k)) (sym (rw n at (pad-length p)) ∙ part-columns a b w line p e q)

pub ruleset parts = (tests, part_none, part-whole, part-short, every-columns, all-columns, number-columns, no-count, count-columns)

-- ---- the needs of `all_of`, for `search alls`: b was read at place i, and u is whether all passed, with it

pub all_start : (k : ByteClass) (p : List ℕ) → (true && every (is_of k) (drop 0 p)) ≡ every (is_of k) p
all_start k p = refl

pub all-again : (p : List ℕ) (i b : ℕ) (k : ByteClass) (all t u r : Bool) → i < length p → b ≡ get_or p i 0 → t ≡ is_of k b → u ≡ (all && t)
    → (all && every (is_of k) (drop i p)) ≡ r → (u && every (is_of k) (drop (i + 1) p)) ≡ r
unfolding every
all-again p i b k all t u r h e d y v = rw (y, d) (go all (rw (drop-next p i b h e) at v))
  where
    go : (x : Bool) → (x && (is_of k b && every (is_of k) (drop (i + 1) p))) ≡ r → ((x && is_of k b) && every (is_of k) (drop (i + 1) p)) ≡ r
    go true w = w
    go false w = w

pub all_done : (p : List ℕ) (i : ℕ) (k : ByteClass) (all r : Bool) → length p ≤ i → (all && every (is_of k) (drop i p)) ≡ r → all ≡ r
unfolding every
all_done p i k all r h v = go all (rw (drop_of_length-le p h) at v)
  where
    go : (x : Bool) → (x && true) ≡ r → x ≡ r
    go true w = w
    go false w = w

pub ruleset alls = (tests, all_start, all-again, all_done)

pub ruleset turns = (tests, every-again, every-out, every-done, count-again, count-out, count-done, number-again, number-done, number-next, number_fits, tens-fit, power)
