-- Rows of words, all of one size, as a table holds them: laws for every loop over rows, and for rows that were written and are read.
-- Assumes nothing.
use mathlib.Core.Path.{◌≡◌, refl, sym, ap, ◌∙◌}
use mathlib.Core.List.{List, [], ◌∷◌, ◌++◌, append_assoc}
use mathlib.Core.Bool.{Bool, true, false, not, ◌&&◌}
use Prim.Native.Nat.{ℕ, zero, suc, ◌+◌, ◌-◌, ◌*◌, ◌^◌, ◌≤◌, ◌<◌}
use native.Mathlib.Nat.{add-zero, zero-add, suc-add, suc-mul, zero-mul, add_comm, sub-zero, zero-sub, suc-sub-suc, mul-zero, mul-suc}
use native.Mathlib.Omega.{arith}
use lib.ListN.{length, get_or, take, drop, length-append}
use lib.Seq.{drop-drop, drop_at, take-nil, get_or-drop}
use borrow.Author.Tests.{not-true, not-false}
use Rattle.base.specs.Lists.{All, nil, cons, every, gathered}
use Rattle.base.proofs.Loops.{and-true}
use Rattle.base.proofs.Laws.{tests}
use Rattle.timetable.specs.Table.{rows_in, call_at, legs_at, category_at, day_at, extra_at}
use Rattle.timetable.specs.Inner.Words.{legs_read, category_read, day_read, extra_read}

-- ---- room for rows, where their size is no literal

-- what k rows take: one row, and the others
pub stride-turn : (s k : ℕ) → 0 < k → s * k ≡ s + s * (k - 1)
stride-turn s zero h = absurd (omega arith)
stride-turn s (suc k) h =
    let e : suc k - 1 ≡ k = omega arith in
    rw (mul-suc, e) (omega arith)

one_more : (left size : ℕ) → 0 < left → left * size ≡ (left - 1) * size + size
one_more zero size h = absurd (omega arith)
one_more (suc m) size h =
    let e : suc m - 1 ≡ m = omega arith in
    rw e (suc-mul m size)

-- `left` rows stand at place `at` and after it, in l words
module _ (at left size l : ℕ) (h : 0 < left) (r : at + left * size ≤ l) where
  pub room-now : at + size ≤ l
  room-now = omega (arith, one_more left size h)

  pub room_fits : l < 2 ^ 64 → at + size < 2 ^ 64
  room_fits k = omega (arith, one_more left size h)

  pub room_next : at + size + (left - 1) * size ≤ l
  room_next = omega (arith, one_more left size h)

pub room-start : (n size l : ℕ) → n * size ≤ l → 0 + n * size ≤ l
room-start n size l h = rw (zero-add (n * size)) h

module _ {X : Type 0} (f : List ℕ → X) (size : ℕ) where
  -- ---- a loop over rows: what is left

  pub one-row : (k : ℕ) (w : List ℕ) → 0 < k → rows_in f size k w ≡ f w ∷ rows_in f size (k - 1) (drop size w)
  unfolding rows_in
  one-row zero w h = absurd (omega arith)
  one-row (suc k) w h =
      let e : suc k - 1 ≡ k = omega arith in
      rw e

  -- counted down: `left` rows are left from place `at` on
  pub rows_left : (left at : ℕ) (w : List ℕ) → 0 < left → rows_in f size left (drop at w) ≡ f (drop at w) ∷ rows_in f size (left - 1) (drop (at + size) w)
  rows_left left at w h = one-row left (drop at w) h ∙ rw (drop-drop size at w) refl

  -- counted up: row i of n
  pub rows-turn : (n i at : ℕ) (w : List ℕ) → i < n → rows_in f size (n - i) (drop at w) ≡ f (drop at w) ∷ rows_in f size (n - (i + 1)) (drop (at + size) w)
  rows-turn n i at w h =
      let e : n - i - 1 ≡ n - (i + 1) = omega arith in
      rows_left (n - i) at w (omega arith) ∙ rw e refl

  pub rows_none : (n i : ℕ) (w : List ℕ) → n ≤ i → rows_in f size (n - i) w ≡ []
  unfolding rows_in
  rows_none n i w h =
      let e : n - i ≡ 0 = omega arith in
      rw e refl

  -- ---- the rows of some words

  pub length-rows : (n : ℕ) (w : List ℕ) → length (rows_in f size n w) ≡ n
  unfolding rows_in
  length-rows zero w = refl
  length-rows (suc n) w = ap suc (length-rows n (drop size w))

  -- the last row
  pub rows_last : (n : ℕ) (w : List ℕ) → rows_in f size (n + 1) w ≡ rows_in f size n w ++ (f (drop (n * size) w) ∷ [])
  unfolding rows_in
  rows_last zero w = rw (zero-mul size) refl
  rows_last (suc n) w =
      let p : drop (n * size) (drop size w) ≡ drop (suc n * size) w = drop-drop (n * size) size w ∙ ap (λ (i : ℕ). drop i w) (add_comm size (n * size) ∙ sym (suc-mul n size)) in
      rw (suc-add n 1, ← p) (ap (λ (r : List X). f w ∷ r) (rows_last n (drop size w)))

  -- the first k rows
  pub rows_take : (k n : ℕ) (w : List ℕ) → k ≤ n → take k (rows_in f size n w) ≡ rows_in f size k w
  unfolding rows_in
  rows_take zero n w h = refl
  rows_take (suc k) zero w h = absurd (omega arith)
  rows_take (suc k) (suc n) w h = ap (λ (r : List X). f w ∷ r) (rows_take k n (drop size w) (omega arith))

  past_one : (i : ℕ) (w : List ℕ) → drop (size * i) (drop size w) ≡ drop (size * suc i) w
  past_one i w = drop-drop (size * i) size w ∙ ap (λ (k : ℕ). drop k w) (let e : size + size * i ≡ size * suc i = omega (arith, mul-suc size i) in e)

  -- without the first i rows
  pub rows_drop : (n i : ℕ) (w : List ℕ) → drop i (rows_in f size n w) ≡ rows_in f size (n - i) (drop (size * i) w)
  unfolding rows_in
  rows_drop n zero w = rw (sub-zero, mul-zero)
  rows_drop zero (suc i) w = rw zero-sub
  rows_drop (suc n) (suc i) w = rw (suc-sub-suc, ← past_one i w) (rows_drop n i (drop size w))

  -- words behind the rows play no part, where a row is read from its own words
  module _ (own : (w : List ℕ) (k : ℕ) → size ≤ k → f (take k w) ≡ f w) where
    pub rows-within : (n m : ℕ) (w : List ℕ) → n * size ≤ m → rows_in f size n (take m w) ≡ rows_in f size n w
    unfolding rows_in
    rows-within zero m w h = refl
    rows-within (suc n) m w h =
        let r : size + n * size ≤ m = omega (arith, suc-mul n size) in
        rw (own w m (omega arith), drop-take size m w) (ap (λ (t : List X). f w ∷ t) (rows-within n (m - size) (drop size w) (omega arith)))
      where
        drop-take : (k m : ℕ) (w : List ℕ) → drop k (take m w) ≡ take (m - k) (drop k w)
        drop-take zero m w = rw (sub-zero m) refl
        drop-take (suc k) zero w = rw zero-sub refl
        drop-take (suc k) (suc m) [] = sym (take-nil (suc m - suc k))
        drop-take (suc k) (suc m) (x ∷ w) = rw suc-sub-suc (drop-take k m w)

-- ---- a test of every row

-- what holds of every row holds of the i-th
pub every-row : {X : Type 0} (t : X → Bool) (f : List ℕ → X) (s n i : ℕ) (w : List ℕ) → every t (rows_in f s n w) ≡ true → i < n → t (f (drop (s * i) w)) ≡ true
unfolding rows_in every
every-row t f s zero i w e h = absurd (omega arith)
every-row t f s (suc n) zero w e h = rw mul-zero (and-true (t (f w)) (every t (rows_in f s n (drop s w))) e).0
every-row t f s (suc n) (suc i) w e h = rw (← past_one f s i w) (every-row t f s n i (drop s w) (and-true (t (f w)) (every t (rows_in f s n (drop s w))) e).1 (omega arith))

-- a test that sees only a part g of each row
pub rows_as : {X Y : Type 0} (t : Y → Bool) (g : X → Y) (f : List ℕ → X) (s n : ℕ) (w : List ℕ) → every (λ (x : X). t (g x)) (rows_in f s n w) ≡ every t (rows_in (λ (u : List ℕ). g (f u)) s n w)
unfolding rows_in every
rows_as t g f s zero w = refl
rows_as t g f s (suc n) w = ap (λ (b : Bool). t (g (f w)) && b) (rows_as t g f s n (drop s w))

-- a loop over k rows from p on that tests each; x is what the row at p answers, r what all rows answer
module _ {X : Type 0} (t : X → Bool) (f : List ℕ → X) (s : ℕ) (w : List ℕ) (p k : ℕ) (r x : Bool) (h : 0 < k) (e : x ≡ t (f (drop p w))) (v : every t (rows_in f s k (drop p w)) ≡ r) where
  pub rows-again : not x ≡ false → every t (rows_in f s (k - 1) (drop (p + s) w)) ≡ r
  unfolding every
  rows-again n = rw (rows_left f s k p w h, sym e ∙ not-false x n) at v

  pub rows_out : not x ≡ true → false ≡ r
  unfolding every
  rows_out n = rw (rows_left f s k p w h, sym e ∙ not-true x n) at v

pub rows-done : {X : Type 0} (t : X → Bool) (f : List ℕ → X) (s : ℕ) (w : List ℕ) (k : ℕ) (r : Bool) → k ≤ 0 → every t (rows_in f s k w) ≡ r → true ≡ r
unfolding every rows_in
rows-done t f s w zero r h v = v
rows-done t f s w (suc k) r h v = absurd (omega arith)

-- ---- rows that were written (`gathered g`), each as long as `size` where it is `ok`, are read back

-- where nothing is asked of a row
abbrev pub any : {X : Type 0} → X → Type 0
any x = Unit {0}

pub all_any : {X : Type 0} (xs : List X) → All any xs
all_any [] = nil
all_any (x ∷ xs) = cons tt (all_any xs)

module _ {X : Type 0} (g : X → List ℕ) (size : ℕ) (ok : X → Type 0) (long : (x : X) → ok x → length (g x) ≡ size) where
  pub length-gathered : {xs : List X} → All ok xs → length (gathered g xs) ≡ size * length xs
  unfolding gathered
  length-gathered nil = sym (mul-zero size)
  length-gathered (cons {x} {xs} h t) = length-append (g x) (gathered g xs) ∙ omega (arith, long x h, length-gathered t, mul-suc size (length xs))

  pub rows_back : (f : List ℕ → X) → ((x : X) (r : List ℕ) → ok x → f (g x ++ r) ≡ x) → {xs : List X} (r : List ℕ) → All ok xs → rows_in f size (length xs) (gathered g xs ++ r) ≡ xs
  unfolding rows_in gathered
  rows_back f back r nil = refl
  rows_back f back r (cons {x} {xs} h t) =
      rw (append_assoc (g x) (gathered g xs) r, back x (gathered g xs ++ r) h, drop_at (g x) (gathered g xs ++ r) size (long x h), rows_back f back r t) refl

-- ---- a call read word by word, for `search calls`

pub call-is : (w : List ℕ) (p : ℕ)
    → record { stop = get_or w p 0; arrival = get_or w (p + 1) 0; departure = get_or w (p + 2) 0; flags = get_or w (p + 3) 0; number = get_or w (p + 4) 0; high = get_or w (p + 5) 0; low = get_or w (p + 6) 0 } ≡ call_at (drop p w)
call-is w p =
    rw (
      get_or-drop p w 0 0,
      add-zero p,
      get_or-drop p w 1 0,
      get_or-drop p w 2 0,
      get_or-drop p w 3 0,
      get_or-drop p w 4 0,
      get_or-drop p w 5 0,
      get_or-drop p w 6 0,
    )

pub ruleset calls = (tests, call-is)

-- ---- and a range, for `search range-words`

module _ (w : List ℕ) (p : ℕ) where
  first_word : get_or (drop p w) 0 0 ≡ get_or w p 0
  first_word = get_or-drop p w 0 0 ∙ ap (λ (i : ℕ). get_or w i 0) (add-zero p)

  pub legs-is : (k : ℕ) → record { from = get_or w (p + k) 0; to = get_or w (p + k + 1) 0 } ≡ legs_read (legs_at k (drop p w))
  legs-is k =
      let b : get_or (drop p w) (k + 1) 0 ≡ get_or w (p + k + 1) 0 = get_or-drop p w (k + 1) 0 ∙ ap (λ (i : ℕ). get_or w i 0) (omega arith) in
      rw (get_or-drop p w k 0, b)

  pub category-is : record { name = get_or w p 0; from = get_or w (p + 1) 0; to = get_or w (p + 2) 0 } ≡ category_read (category_at (drop p w))
  category-is = rw (first_word, get_or-drop p w 1 0, get_or-drop p w 2 0)

  pub day-is : record { field = get_or w p 0; from = get_or w (p + 1) 0; to = get_or w (p + 2) 0 } ≡ day_read (day_at (drop p w))
  day-is = rw (first_word, get_or-drop p w 1 0, get_or-drop p w 2 0)

  pub extra-is : record { code = get_or w p 0; field = get_or w (p + 1) 0; from = get_or w (p + 2) 0; to = get_or w (p + 3) 0 } ≡ extra_read (extra_at (drop p w))
  extra-is = rw (first_word, get_or-drop p w 1 0, get_or-drop p w 2 0, get_or-drop p w 3 0)

pub ruleset range-words = (tests, legs-is, category-is, day-is, extra-is)
