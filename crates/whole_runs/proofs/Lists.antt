-- Laws of tests, of `All` and of the lists of `Rattle.base.specs.Lists`, which the theorems share. Assumes nothing.
use mathlib.Core.Path.{◌≡◌, refl, sym, ◌∙◌, subst}
use mathlib.Core.List.{List, [], ◌∷◌, ◌++◌}
use mathlib.Core.Bool.{Bool, true, false, cond, ◌&&◌, ◌||◌}
use mathlib.Core.Option.{some}
use Prim.Native.Nat.{ℕ, zero, suc, ◌+◌, ◌<◌}
use native.Mathlib.Omega.{arith}
use lib.ListN.{length, get_or, drop, get_elem?, length-append}
use Rattle.base.specs.Lists.{All, nil, cons, every, some_of, count_if, find, gathered, upto, below}
use Rattle.base.proofs.Laws.{clash, apart}
use Rattle.base.proofs.Loops.{every-at}

-- ---- tests

-- what holds of both choices holds of the chosen
pub cond-all : {X : Type 0} (P : X → Type 0) (t : Bool) (a b : X) → P a → P b → P (cond t a b)
cond-all P true a b p q = p
cond-all P false a b p q = q

pub neither : (a b : Bool) → a || b ≡ false → (a ≡ false) × (b ≡ false)
neither false b e = (refl, e)
neither true b e = clash (sym e)

pub or-second : (a b : Bool) → b ≡ true → a || b ≡ true
or-second true b e = refl
or-second false b e = e

pub or-other : (a b : Bool) → a ≡ false → a || b ≡ true → b ≡ true
or-other false b p e = e
or-other true b p e = clash (sym p)

pub or-first : (a b : Bool) → b ≡ false → a || b ≡ a
or-first true b e = refl
or-first false b e = e

-- ---- lists of which every element is as it should be

module _ {X : Type 0} (ok : X → Type 0) where
  pub all_append : {a b : List X} → All ok a → All ok b → All ok (a ++ b)
  all_append nil q = q
  all_append (cons h t) q = cons h (all_append t q)

  pub all_head : {x : X} {xs : List X} → All ok (x ∷ xs) → ok x
  all_head (cons p q) = p

  pub all_tail : {x : X} {xs : List X} → All ok (x ∷ xs) → All ok xs
  all_tail (cons p q) = q

  pub all_drop : (k : ℕ) (xs : List X) → All ok xs → All ok (drop k xs)
  all_drop zero xs h = h
  all_drop (suc k) [] h = nil
  all_drop (suc k) (x ∷ xs) h = all_drop k xs (all_tail h)

  pub all-at : (k : ℕ) (z : X) (xs : List X) → All ok xs → k < length xs → ok (get_or xs k z)
  all-at k z [] h l = absurd (omega arith)
  all-at zero z (x ∷ xs) h l = all_head h
  all-at (suc k) z (x ∷ xs) h l = all-at k z xs (all_tail h) (omega arith)

  pub all-elem : (xs : List X) (i : ℕ) (x : X) → All ok xs → get_elem? xs i ≡ some x → ok x
  all-elem [] i x h e = apart (cc)
  all-elem (y ∷ xs) zero x (cons p q) e = let z : y ≡ x = cc in subst ok z p
  all-elem (y ∷ xs) (suc i) x (cons p q) e = all-elem xs i x q e

  pub all-gathered : {Y : Type 0} {of : Y → Type 0} (g : Y → List X) → ((y : Y) → of y → All ok (g y)) → {ys : List Y} → All of ys → All ok (gathered g ys)
  unfolding gathered
  all-gathered g h nil = nil
  all-gathered g h (cons {x = y} p q) = all_append (h y p) (all-gathered g h q)

pub all-to : {X : Type 0} (P Q : X → Type 0) → ((x : X) → P x → Q x) → (xs : List X) → All P xs → All Q xs
all-to P Q f [] h = nil
all-to P Q f (x ∷ xs) h = cons (f x (all_head P h)) (all-to P Q f xs (all_tail P h))

-- ---- what lists give

-- as many as there are, where each gives one
pub each-gives-one : {X Y : Type 0} (f : X → List Y) (xs : List X) → All (λ x. length (f x) ≡ 1) xs → length (gathered f xs) ≡ length xs
unfolding gathered
each-gives-one f [] h = refl
each-gives-one f (x ∷ xs) h =
    length-append (f x) (gathered f xs) ∙ omega (arith, all_head (λ x. length (f x) ≡ 1) h, each-gives-one f xs (all_tail (λ x. length (f x) ≡ 1) h))

-- ---- tests over lists

pub every-all : {X : Type 0} (t : X → Bool) {xs : List X} → All (λ x. t x ≡ true) xs → every t xs ≡ true
unfolding every
every-all t nil = refl
every-all t (cons {x} {xs} h r) = rw (h, every-all t r)

pub none_of : {X : Type 0} (t : X → Bool) (xs : List X) → some_of t xs ≡ false → All (λ x. t x ≡ false) xs
unfolding some_of
none_of t [] e = nil
none_of t (x ∷ xs) e = let a = neither (t x) (some_of t xs) e in cons a.0 (none_of t xs a.1)

-- a test of the numbers below n, at one of them
module _ (t : ℕ → Bool) where
  pub every-below : (n j : ℕ) → every t (below n) ≡ true → j < n → t j ≡ true
  every-below n j e h = every-at t n 0 j e (omega arith) (omega arith)

  none-upto : (n k j : ℕ) → some_of t (upto n k) ≡ false → j < n → t (k + j) ≡ false
  unfolding some_of upto
  none-upto zero k j e h = absurd (omega arith)
  none-upto (suc n) k zero e h = let a = neither (t k) (some_of t (upto n (k + 1))) e in let z : k + zero ≡ k = omega arith in rw z a.0
  none-upto (suc n) k (suc j) e h = let a = neither (t k) (some_of t (upto n (k + 1))) e in let z : k + suc j ≡ k + 1 + j = omega arith in rw z (none-upto n (k + 1) j a.1 (omega arith))

  pub none_below : (n j : ℕ) → some_of t (below n) ≡ false → j < n → t j ≡ false
  none_below n j e h = let z : 0 + j ≡ j = omega arith in rw z at (none-upto n 0 j e h)

-- ---- exactly one passes a test

module _ {X : Type 0} (p : X → Bool) where
  none_pass : (xs : List X) → count_if p xs ≡ 0 → All (λ x. p x ≡ false) xs
  unfolding count_if
  none_pass [] e = nil
  none_pass (x ∷ xs) e = go (p x) refl e (none_pass xs)
    where
      go : (t : Bool) → p x ≡ t → cond t 1 0 + count_if p xs ≡ 0 → (count_if p xs ≡ 0 → All (λ x. p x ≡ false) xs) → All (λ x. p x ≡ false) (x ∷ xs)
      go true q e more = absurd (omega (arith, e))
      go false q e more = cons q (more (omega (arith, e)))

  -- it is the one that is found
  pub only-found : (xs : List X) → count_if p xs ≡ 1 → All (λ y. p y ≡ true → find p xs ≡ some y) xs
  unfolding count_if find
  only-found [] e = nil
  only-found (x ∷ xs) e = go (p x) refl e (only-found xs)
    where
      go : (t : Bool) → p x ≡ t → cond t 1 0 + count_if p xs ≡ 1 → (count_if p xs ≡ 1 → All (λ y. p y ≡ true → find p xs ≡ some y) xs) → All (λ y. p y ≡ true → cond t (some x) (find p xs) ≡ some y) (x ∷ xs)
      go true q e more = cons (λ m. refl) (all-to (λ y. p y ≡ false) (λ y. p y ≡ true → some x ≡ some y) (λ y n m. clash (sym n ∙ m)) xs (none_pass xs (omega (arith, e))))
      go false q e more = cons (λ m. clash (sym q ∙ m)) (more (omega (arith, e)))

  none_both : (q : X → Bool) (xs : List X) → All (λ x. p x ≡ false) xs → some_of (λ x. p x && q x) xs ≡ false
  unfolding some_of
  none_both q [] h = refl
  none_both q (x ∷ xs) h = rw (all_head (λ x. p x ≡ false) h, none_both q xs (all_tail (λ x. p x ≡ false) h))

  -- and what some that passes says, it says
  pub only-says : (q : X → Bool) (xs : List X) → count_if p xs ≡ 1 → All (λ y. p y ≡ true → some_of (λ x. p x && q x) xs ≡ q y) xs
  unfolding count_if some_of
  only-says q [] e = nil
  only-says q (x ∷ xs) e = go (p x) refl e (only-says q xs)
    where
      go : (t : Bool) → p x ≡ t → cond t 1 0 + count_if p xs ≡ 1 → (count_if p xs ≡ 1 → All (λ y. p y ≡ true → some_of (λ x. p x && q x) xs ≡ q y) xs) → All (λ y. p y ≡ true → t && q x || some_of (λ x. p x && q x) xs ≡ q y) (x ∷ xs)
      go true z e more =
          let n = none_pass xs (omega (arith, e)) in
          cons (λ m. or-first (q x) (some_of (λ x. p x && q x) xs) (none_both q xs n))
          (all-to (λ y. p y ≡ false) (λ y. p y ≡ true → q x || some_of (λ x. p x && q x) xs ≡ q y) (λ y n m. clash (sym n ∙ m)) xs n)
      go false z e more = cons (λ m. clash (sym z ∙ m)) (more (omega (arith, e)))
