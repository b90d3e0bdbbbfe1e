-- Two lines that are the same but for some columns: what is read from the other columns is the same. Assumes nothing.
use mathlib.Core.Path.{◌≡◌, refl, sym, ap, ◌∙◌}
use mathlib.Core.List.{List, [], ◌∷◌, ◌++◌, append_assoc}
use mathlib.Core.Bool.{cond}
use Prim.Native.Nat.{ℕ, zero, suc, ◌+◌, ◌-◌, ◌≤◌, ◌<◌}
use native.Mathlib.Omega.{arith}
use lib.ListN.{length, get_or, take, drop, length-append}
use lib.Seq.{drop_at}
use Rattle.columns.specs.Columns.{pad_to, columns, column, is_blank}
use Rattle.columns.proofs.Laws.{pad-take}
use Rattle.forms.specs.Form.{stray_from, unnamed, Form, Broken}

-- ---- lists with the same front, or the same end

take-front : {X : Type 0} (w k : ℕ) (a x y : List X) → k + w ≤ length a → take w (drop k (a ++ x)) ≡ take w (drop k (a ++ y))
take-front zero k a x y h = refl
take-front (suc w) zero [] x y h = absurd (omega arith)
take-front (suc w) zero (b ∷ a) x y h = ap (λ (r : List _). b ∷ r) (take-front w zero a x y (omega arith))
take-front (suc w) (suc k) [] x y h = absurd (omega arith)
take-front (suc w) (suc k) (b ∷ a) x y h = take-front (suc w) k a x y (omega arith)

drop-end : {X : Type 0} (k : ℕ) (a b x : List X) → length a ≡ length b → length a ≤ k → drop k (a ++ x) ≡ drop k (b ++ x)
drop-end k [] [] x e h = refl
drop-end k [] (c ∷ b) x e h = absurd (omega (arith, e))
drop-end k (c ∷ a) [] x e h = absurd (omega (arith, e))
drop-end zero (c ∷ a) (g ∷ b) x e h = absurd (omega (arith, h))
drop-end (suc k) (c ∷ a) (g ∷ b) x e h = drop-end k a b x (omega (arith, e)) (omega (arith, h))

get_d_front : (k : ℕ) (a x y : List ℕ) (d : ℕ) → k < length a → get_or (a ++ x) k d ≡ get_or (a ++ y) k d
get_d_front k [] x y d h = absurd (omega (arith, h))
get_d_front zero (b ∷ a) x y d h = refl
get_d_front (suc k) (b ∷ a) x y d h = get_d_front k a x y d (omega (arith, h))

stray-take : (c w : ℕ) (l : List ℕ) → stray_from c w (take w l) ≡ stray_from c w l
unfolding stray_from
stray-take c zero l = refl
stray-take c (suc w) [] = refl
stray-take c (suc w) (b ∷ l) = ap (λ (f : Form). cond (is_blank b) f (Broken c)) (stray-take (c + 1) w l)

pad-front : (p q : List ℕ) → pad_to (length p) (p ++ q) ≡ p
unfolding pad_to
pad-front [] q = refl
pad-front (b ∷ p) q = ap (λ (r : List ℕ). b ∷ r) (pad-front p q)

-- ---- two lines: the columns a + 1 to a + w differ

pub record SameBut (a w : ℕ) (t s : List ℕ) : Type 0 where
  pub front : List ℕ
  pub here : List ℕ
  pub there : List ℕ
  pub behind : List ℕ
  pub front_length : length front ≡ a
  pub here-length : length here ≡ w
  pub there-length : length there ≡ w
  pub first : t ≡ front ++ (here ++ behind)
  pub second : s ≡ front ++ (there ++ behind)

three-lengths : (a b c : List ℕ) → length (a ++ (b ++ c)) ≡ length a + (length b + length c)
three-lengths a b c = length-append a (b ++ c) ∙ ap (λ (n : ℕ). length a + n) (length-append b c)

module _ (a w : ℕ) (t s : List ℕ) (h : SameBut a w t s) where
  -- what is the same of the two when put together is the same of the lines
  through : {X : Type 0} (f : List ℕ → X) → f (h.front ++ (h.here ++ h.behind)) ≡ f (h.front ++ (h.there ++ h.behind)) → f t ≡ f s
  through f e = ap f h.first ∙ (e ∙ sym (ap f h.second))

  pub same_length : length t ≡ length s
  same_length =
      let e = h.here-length in let f = h.there-length in
      through length (three-lengths h.front h.here h.behind ∙ (ap (λ (n : ℕ). length h.front + (n + length h.behind)) (e ∙ sym f) ∙ sym (three-lengths h.front h.there h.behind)))

  take-before : (k n : ℕ) → k + n ≤ a → take n (drop k t) ≡ take n (drop k s)
  take-before k n l = let e = h.front_length in through (λ (r : List ℕ). take n (drop k r)) (take-front n k h.front (h.here ++ h.behind) (h.there ++ h.behind) (omega (arith, e, l)))

  pub drop-behind : (k : ℕ) → a + w ≤ k → drop k t ≡ drop k s
  drop-behind k l =
      let e = h.front_length in let f = h.here-length in let g = h.there-length in
      let m : length (h.front ++ h.here) ≡ length (h.front ++ h.there) = length-append h.front h.here ∙ (ap (λ (n : ℕ). length h.front + n) (f ∙ sym g) ∙ sym (length-append h.front h.there)) in
      let z = length-append h.front h.here in
      through (drop k)
      (ap (drop k) (sym (append_assoc h.front h.here h.behind))
      ∙ (drop-end k (h.front ++ h.here) (h.front ++ h.there) h.behind m (omega (arith, e, f, l, z))
      ∙ ap (drop k) (append_assoc h.front h.there h.behind)))

  pub column-before : (c : ℕ) → 1 ≤ c → c ≤ a → column c t ≡ column c s
  column-before c l m = let e = h.front_length in through (column c) (get_d_front (c - 1) h.front (h.here ++ h.behind) (h.there ++ h.behind) 32 (omega (arith, e, l, m)))

  pub columns-before : (c e : ℕ) → 1 ≤ c → c ≤ e → e ≤ a → columns c e t ≡ columns c e s
  unfolding columns
  columns-before c e l m n = sym (pad-take (e - (c - 1)) (drop (c - 1) t)) ∙ (ap (pad_to (e - (c - 1))) (take-before (c - 1) (e - (c - 1)) (omega (arith, l, m, n))) ∙ pad-take (e - (c - 1)) (drop (c - 1) s))

  pub columns-behind : (c e : ℕ) → a + w < c → columns c e t ≡ columns c e s
  unfolding columns
  columns-behind c e l = ap (pad_to (e - (c - 1))) (drop-behind (c - 1) (omega (arith, l)))

  pub unnamed-before : (c e : ℕ) → c ≤ e → e ≤ a → unnamed c e t ≡ unnamed c e s
  unfolding unnamed
  unnamed-before c e l m = sym (stray-take (c + 1) (e - c) (drop c t)) ∙ (ap (stray_from (c + 1) (e - c)) (take-before c (e - c) (omega (arith, l, m))) ∙ stray-take (c + 1) (e - c) (drop c s))

  pub unnamed-behind : (c e : ℕ) → a + w ≤ c → unnamed c e t ≡ unnamed c e s
  unfolding unnamed
  unnamed-behind c e l = ap (stray_from (c + 1) (e - c)) (drop-behind c l)

  pub columns-there : (c e : ℕ) → c ≡ a + 1 → e ≡ a + w → columns c e s ≡ h.there
  unfolding columns
  columns-there c e p q =
      let u : c - 1 ≡ a = omega (arith, p) in
      let v : e - (c - 1) ≡ length h.there = let z = h.there-length in omega (arith, p, q, z) in
      rw (v, u, h.second, drop_at h.front (h.there ++ h.behind) a h.front_length) (pad-front h.there h.behind)
