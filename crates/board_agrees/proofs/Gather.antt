-- Chains that are right, and what lists give in another order. Assumes nothing.
use mathlib.Core.Path.{◌≡◌, refl, ap, ◌∙◌, sym}
use mathlib.Core.List.{List, [], ◌∷◌, ◌++◌, map, append_assoc, append-nil, Permᴰ}
use mathlib.Core.Bool.{Bool, true, false, cond, ◌&&◌}
use Prim.Native.Nat.{ℕ, zero, suc, ◌+◌, ◌-◌, ◌≤◌, ◌<◌}
use native.Mathlib.Omega.{arith}
use lib.ListN.{length, get_or}
use lib.Dec.{eqb, leb}
use borrow.Author.Tests.{eq-eqb, ne_eqb, le-leb, lt-leb}
use Rattle.base.specs.Lists.{All, nil, cons, gathered, upto}
use Rattle.base.proofs.Laws.{by-leb, by_eqb}
use Rattle.base.proofs.Lists.{gathered-append}
use Rattle.chains.specs.Chains.{greatest}
use Rattle.chains.proofs.Agrees.{greatest-le}
use Rattle.stop_calls.specs.StopCalls.{chained}

-- ---- the numbers k, .., 1 that pass a test, and a chain of them

unfoldable pub passing : (ℕ → Bool) → ℕ → List ℕ
passing t zero = []
passing t (suc k) = cond (t (suc k)) (suc k ∷ passing t k) (passing t k)

pub chained-right : (t : ℕ → Bool) (link : ℕ → ℕ) (n k : ℕ) → ((e : ℕ) → 0 < e → e ≤ n → t e ≡ true → link e ≡ greatest t (e - 1)) → k ≤ n → chained link k (greatest t k) ≡ passing t k
unfolding chained greatest passing
chained-right t link n zero h l = refl
chained-right t link n (suc k) h l = go (t (suc k)) refl (chained-right t link n k h (omega arith))
  where
    go : (b : Bool) → t (suc k) ≡ b → chained link k (greatest t k) ≡ passing t k → chained link (suc k) (cond b (suc k) (greatest t k)) ≡ cond b (suc k ∷ passing t k) (passing t k)
    go true e i =
        let q : suc k - 1 ≡ k = omega arith in
        let r : link (suc k) ≡ greatest t k = rw q at (h (suc k) (omega arith) l e) in
        rw (eq-eqb (suc k) (suc k) refl, r, i)
    go false e i = rw (ne_eqb (greatest t k) (suc k) (λ z. absurd (omega (arith, greatest-le t k)))) i

pub passing-each : (t : ℕ → Bool) (k n : ℕ) → k ≤ n → All (λ (e : ℕ). (0 < e) × (e ≤ n) × (t e ≡ true)) (passing t k)
unfolding passing
passing-each t zero n l = nil
passing-each t (suc k) n l = go (t (suc k)) refl (passing-each t k n (omega arith))
  where
    go : (b : Bool) → t (suc k) ≡ b → All (λ (e : ℕ). (0 < e) × (e ≤ n) × (t e ≡ true)) (passing t k) → All (λ (e : ℕ). (0 < e) × (e ≤ n) × (t e ≡ true)) (cond b (suc k ∷ passing t k) (passing t k))
    go true e i = cons {x = suc k} (omega arith, l, e) i
    go false e i = i

-- ---- what lists give

pub gathered-map : {X Y Z : Type 0} (g : Y → List Z) (f : X → Y) (l : List X) → gathered g (map f l) ≡ gathered (λ (x : X). g (f x)) l
unfolding gathered
gathered-map g f [] = refl
gathered-map g f (x ∷ l) = ap (λ (r : List _). g (f x) ++ r) (gathered-map g f l)

pub gathered-twice : {X Y Z : Type 0} (g : Y → List Z) (f : X → List Y) (l : List X) → gathered g (gathered f l) ≡ gathered (λ (x : X). gathered g (f x)) l
unfolding gathered
gathered-twice g f [] = refl
gathered-twice g f (x ∷ l) = gathered-append g (f x) (gathered f l) ∙ ap (λ (r : List _). gathered g (f x) ++ r) (gathered-twice g f l)

pub gathered-same : {X Y : Type 0} (P : X → Type 0) (f g : X → List Y) → ((x : X) → P x → f x ≡ g x) → {l : List X} → All P l → gathered f l ≡ gathered g l
unfolding gathered
gathered-same P f g h nil = refl
gathered-same P f g h (cons {x} {xs} p a) = λ j. h x p j ++ gathered-same P f g h a j

pub all-upto : (n k : ℕ) → All (λ (i : ℕ). i < k + n) (upto n k)
unfolding upto
all-upto zero k = nil
all-upto (suc n) k = cons {x = k} (omega arith) (all_more (all-upto n (k + 1)))
  where
    all_more : {l : List ℕ} → All (λ (i : ℕ). i < k + 1 + n) l → All (λ (i : ℕ). i < k + suc n) l
    all_more nil = nil
    all_more (cons {x} h a) = cons {x = x} (omega arith) (all_more a)

pub all-at : {X : Type 0} (P : X → Type 0) (d : X) (l : List X) → ((j : ℕ) → j < length l → P (get_or l j d)) → All P l
all-at P d [] h = nil
all-at P d (x ∷ l) h = cons (h 0 (omega arith)) (all-at P d l (λ j q. h (suc j) (omega arith)))

-- ---- in another order

pub gathered-perm : {X Y : Type 0} (f g : X → List Y) → ((x : X) → Permᴰ (f x) (g x)) → (l : List X) → Permᴰ (gathered f l) (gathered g l)
unfolding gathered
gathered-perm f g h [] = mathlib.Core.List.Permᴰ.nil
gathered-perm f g h (x ∷ l) = mathlib.Core.List.Permᴰ.trans (mathlib.Core.List.Permᴰ.append_right (gathered f l) (h x)) (mathlib.Core.List.Permᴰ.append_left (g x) (gathered-perm f g h l))

gathered-both : {X Y : Type 0} (f g : X → List Y) (l : List X) → Permᴰ (gathered f l ++ gathered g l) (gathered (λ (x : X). f x ++ g x) l)
unfolding gathered
gathered-both f g [] = mathlib.Core.List.Permᴰ.nil
gathered-both {Y = Y} f g (x ∷ l) =
    let a : List Y = gathered f l in
    let b : List Y = gathered g l in
    let p : (f x ++ gathered f l) ++ (g x ++ gathered g l) ≡ f x ++ ((gathered f l ++ g x) ++ gathered g l) = append_assoc (f x) (gathered f l) (g x ++ gathered g l) ∙ ap (λ (r : List Y). f x ++ r) (sym (append_assoc (gathered f l) (g x) (gathered g l))) in
    let q : f x ++ ((g x ++ gathered f l) ++ gathered g l) ≡ (f x ++ g x) ++ (gathered f l ++ gathered g l) = ap (λ (r : List Y). f x ++ r) (append_assoc (g x) (gathered f l) (gathered g l)) ∙ sym (append_assoc (f x) (g x) (gathered f l ++ gathered g l)) in
    let m : Permᴰ (f x ++ ((gathered f l ++ g x) ++ gathered g l)) (f x ++ ((g x ++ gathered f l) ++ gathered g l)) = mathlib.Core.List.Permᴰ.append_left (f x) (mathlib.Core.List.Permᴰ.append_right (gathered g l) (mathlib.Core.List.Permᴰ.append_comm (gathered f l) (g x))) in
    rw p (mathlib.Core.List.Permᴰ.trans (rw q at m) (mathlib.Core.List.Permᴰ.append_left (f x ++ g x) (gathered-both f g l)))

abbrev pub none_of : (Y : Type 0) → List Y
none_of Y = []

gathered_none : (X Y : Type 0) (l : List X) → gathered (λ (x : X). none_of Y) l ≡ none_of Y
unfolding gathered
gathered_none X Y [] = refl
gathered_none X Y (x ∷ l) = gathered_none X Y l

-- sums in the other order
pub gathered-swap : {X Z Y : Type 0} (f : Z → X → List Y) (l : List X) (s : List Z) → Permᴰ (gathered (λ (z : Z). gathered (f z) l) s) (gathered (λ (x : X). gathered (λ (z : Z). f z x) s) l)
unfolding gathered
gathered-swap {X = X} {Y = Y} f l [] = rw (gathered_none X Y l) mathlib.Core.List.Permᴰ.nil
gathered-swap f l (z ∷ s) = mathlib.Core.List.Permᴰ.trans (mathlib.Core.List.Permᴰ.append_left (gathered (f z) l) (gathered-swap f l s)) (gathered-both (f z) (λ x. gathered (λ z. f z x) s) l)

pub perm-length : {Y : Type 0} {a b : List Y} → Permᴰ a b → length a ≡ length b
perm-length mathlib.Core.List.Permᴰ.nil = refl
perm-length (mathlib.Core.List.Permᴰ.cons e p) = ap suc (perm-length p)
perm-length (mathlib.Core.List.Permᴰ.swap e f) = refl
perm-length (mathlib.Core.List.Permᴰ.trans p q) = perm-length p ∙ perm-length q

-- one number among those that pass
pub pick : {Y : Type 0} (t : ℕ → Bool) (m : ℕ) (r : List Y) (k : ℕ) → 0 < m → gathered (λ (s : ℕ). cond (eqb m s) r []) (passing t k) ≡ cond (leb m k && t m) r []
unfolding gathered passing
pick t m r zero z = rw (lt-leb m 0 z)
pick {Y = Y} t m r (suc k) z = go (t (suc k)) refl (pick t m r k z)
  where
    step : (m ≡ suc k → ⊥) → leb m k ≡ leb m (suc k)
    step q = by-leb (λ u. u ≡ leb m (suc k)) m k (λ a. sym (le-leb m (suc k) (omega arith))) (λ a. sym (lt-leb m (suc k) (omega arith)))

    go : (b : Bool) → t (suc k) ≡ b → gathered (λ (s : ℕ). cond (eqb m s) r []) (passing t k) ≡ cond (leb m k && t m) r []
        → gathered (λ (s : ℕ). cond (eqb m s) r []) (cond b (suc k ∷ passing t k) (passing t k)) ≡ cond (leb m (suc k) && t m) r []
    go true e i =
        ap (λ (l : List Y). cond (eqb m (suc k)) r [] ++ l) i
        ∙ by_eqb (λ u. cond u r [] ++ cond (leb m k && t m) r [] ≡ cond (leb m (suc k) && t m) r []) m (suc k)
        (λ q. rw (lt-leb m k (omega arith), le-leb m (suc k) (omega arith), ap t q ∙ e) (append-nil r))
        (λ q. ap (λ (u : Bool). cond (u && t m) r []) (step q))
    go false e i =
        i
        ∙ by_eqb (λ u. cond (leb m k && t m) r [] ≡ cond (leb m (suc k) && t m) r []) m (suc k)
        (λ q. rw (lt-leb m k (omega arith), le-leb m (suc k) (omega arith), ap t q ∙ e))
        (λ q. ap (λ (u : Bool). cond (u && t m) r []) (step q))
