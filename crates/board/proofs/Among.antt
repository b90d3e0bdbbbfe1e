-- Members of lists, and lists without a repeat. Assumes nothing.
use mathlib.Core.Path.{◌≡◌, refl}
use mathlib.Core.List.{List, [], ◌∷◌, ◌++◌}
use mathlib.Core.Logic.{◌⊎◌, inl, inr, ⊎_elim}
use Prim.Native.Nat.{ℕ, zero, suc, ◌+◌, ◌≤◌, ◌<◌}
use native.Mathlib.Nat.{eq-or-lt_of_le}
use native.Mathlib.Omega.{arith}
use Rattle.base.specs.Lists.{All, nil, cons, gathered, upto}
use Rattle.board.specs.Board.{Among}

module _ {X : Type 0} where
  pub among-left : (x : X) (a b : List X) → Among x a → Among x (a ++ b)
  unfolding Among
  among-left x [] b h = absurd h
  among-left x (y ∷ a) b (inl e) = inl e
  among-left x (y ∷ a) b (inr h) = inr (among-left x a b h)

  pub among-right : (x : X) (a b : List X) → Among x b → Among x (a ++ b)
  unfolding Among
  among-right x [] b h = h
  among-right x (y ∷ a) b h = inr (among-right x a b h)

  pub among-either : (x : X) (a b : List X) → Among x (a ++ b) → Among x a ⊎ Among x b
  unfolding Among
  among-either x [] b h = inr h
  among-either x (y ∷ a) b (inl e) = inl (inl e)
  among-either x (y ∷ a) b (inr h) = ⊎_elim (λ l. inl (inr l)) (λ r. inr r) (among-either x a b h)

  pub all_among : (P : X → Type 0) (l : List X) → ((x : X) → Among x l → P x) → All P l
  unfolding Among
  all_among P [] h = nil
  all_among P (y ∷ l) h = cons (h y (inl refl)) (all_among P l (λ x m. h x (inr m)))

  pub among-all : (P : X → Type 0) (l : List X) → All P l → (x : X) → Among x l → P x
  unfolding Among
  among-all P [] h x m = absurd m
  among-all P (y ∷ l) (cons p h) x (inl e) = rw e p
  among-all P (y ∷ l) (cons p h) x (inr m) = among-all P l h x m

  -- no element twice
  unfoldable pub Distinct : List X → Type 0
  Distinct [] = Unit {0}
  Distinct (x ∷ l) = (Among x l → ⊥) × Distinct l

  pub distinct_append : (a b : List X) → Distinct a → Distinct b → ((x : X) → Among x a → Among x b → ⊥) → Distinct (a ++ b)
  unfolding Distinct Among
  distinct_append [] b p q h = q
  distinct_append (x ∷ a) b p q h =
      ((λ m. ⊎_elim (λ l. p.0 l) (λ r. h x (inl refl) r) (among-either x a b m)), distinct_append a b p.1 q (λ y l r. h y (inr l) r))

-- ---- what the numbers from k on give

pub record Given {X : Type 0} (f : ℕ → List X) (n k : ℕ) (x : X) : Type 0 where
  pub number : ℕ
  pub low : k ≤ number
  pub high : number < k + n
  pub one : Among x (f number)

module _ {X : Type 0} (f : ℕ → List X) where
  pub gathered-among : (n k : ℕ) (x : X) → Among x (gathered f (upto n k)) → Given f n k x
  unfolding gathered upto Among
  gathered-among zero k x h = absurd h
  gathered-among (suc n) k x h =
      ⊎_elim (λ m. record { number = k; low = omega arith; high = omega arith; one = m })
      (λ m.
      let g = gathered-among n (k + 1) x m in
      record { number = g.number; low = omega (arith, g.low); high = omega (arith, g.high); one = g.one })
      (among-either x (f k) (gathered f (upto n (k + 1))) h)

  pub among-gathered : (n k i : ℕ) (x : X) → k ≤ i → i < k + n → Among x (f i) → Among x (gathered f (upto n k))
  unfolding gathered upto
  among-gathered zero k i x a b h = absurd (omega arith)
  among-gathered (suc n) k i x a b h =
      ⊎_elim (λ (e : k ≡ i). among-left x (f k) (gathered f (upto n (k + 1))) (rw e h))
      (λ (l : k < i). among-right x (f k) (gathered f (upto n (k + 1))) (among-gathered n (k + 1) i x (omega arith) (omega arith) h)) (eq-or-lt_of_le a)

  -- where what a number gives tells the number
  pub distinct-gathered : (key : X → ℕ) → ((i : ℕ) → Distinct (f i)) → ((i : ℕ) (x : X) → Among x (f i) → key x ≡ i) → (n k : ℕ) → Distinct (gathered f (upto n k))
  unfolding gathered upto Distinct
  distinct-gathered key p q zero k = Prim.tt
  distinct-gathered key p q (suc n) k =
      distinct_append (f k) (gathered f (upto n (k + 1))) (p k) (distinct-gathered key p q n (k + 1))
      (λ x a b.
      let g = gathered-among n (k + 1) x b in
      let e = q k x a in
      let d = q g.number x g.one in
      absurd (omega (arith, e, d, g.low)))
