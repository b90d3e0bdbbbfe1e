-- The length of a name without trailing blanks, read from the end: the needs of `name_length`, for `search names`. Assumes nothing.
use mathlib.Core.Path.{◌≡◌, refl, ap, sym, ◌∙◌}
use mathlib.Core.List.{List, [], ◌∷◌, ◌++◌}
use mathlib.Core.Bool.{Bool, true, false, cond, ◌&&◌}
use Prim.Native.Nat.{ℕ, zero, suc, ◌-◌, ◌≤◌, ◌<◌}
use native.Mathlib.Omega.{arith}
use lib.ListN.{length, get_or, take, drop, length-take}
use lib.Seq.{take-suc, length-take-le}
use borrow.Author.Tests.{eq-eqb, ne_eqb}
use Rattle.base.specs.Lists.{every}
use Rattle.base.proofs.Laws.{tests, get_d_any}
use Rattle.columns.specs.Columns.{pad_to, columns, is_blank, blank}
use Rattle.columns.proofs.Laws.{length-columns, get_d-pad, part-columns}
use Rattle.names.specs.NameField.{name_length}

-- ---- one byte more

module _ (b : ℕ) where
  blank-more : (q : List ℕ) → b ≡ 32 → blank (q ++ (b ∷ [])) ≡ blank q
  unfolding every
  blank-more [] e = rw (eq-eqb b 32 e) refl
  blank-more (c ∷ q) e = ap (λ (t : Bool). is_blank c && t) (blank-more q e)

  filled_more : (q : List ℕ) → (b ≡ 32 → ⊥) → blank (q ++ (b ∷ [])) ≡ false
  unfolding every
  filled_more [] e = rw (ne_eqb b 32 e) refl
  filled_more (c ∷ q) e = go (is_blank c) (filled_more q e)
    where
      go : (t : Bool) → blank (q ++ (b ∷ [])) ≡ false → (t && blank (q ++ (b ∷ []))) ≡ false
      go true h = h
      go false h = refl

  -- a blank at the end does not count
  name-blank : (q : List ℕ) → b ≡ 32 → name_length (q ++ (b ∷ [])) ≡ name_length q
  unfolding name_length every
  name-blank [] e = rw (eq-eqb b 32 e) refl
  name-blank (c ∷ q) e = rw (blank-more q e, name-blank q e) refl

  -- another byte at the end makes all count
  name-filled : (q : List ℕ) → (b ≡ 32 → ⊥) → name_length (q ++ (b ∷ [])) ≡ suc (length q)
  unfolding name_length every
  name-filled [] e = rw (ne_eqb b 32 e) refl
  name-filled (c ∷ q) e = go (is_blank c) (filled_more q e) (name-filled q e)
    where
      go : (t : Bool) → blank (q ++ (b ∷ [])) ≡ false → name_length (q ++ (b ∷ [])) ≡ suc (length q)
          → cond (t && blank (q ++ (b ∷ []))) 0 (suc (name_length (q ++ (b ∷ [])))) ≡ suc (suc (length q))
      go true h v = rw (h, v) refl
      go false h v = rw v refl

-- ---- the needs of `name_length`: the byte before place k of the name p, which stands in columns 13 to 62, is read

-- blanks past a line's end do not count
blanks : (w : ℕ) → blank (pad_to w []) ≡ true
unfolding pad_to every
blanks zero = refl
blanks (suc w) = blanks w

blank-kept : (w : ℕ) (p : List ℕ) → length p ≤ w → blank (take (length p) (pad_to w p)) ≡ blank (pad_to w p)
unfolding pad_to every
blank-kept w [] h = sym (blanks w)
blank-kept zero (b ∷ p) h = absurd (omega arith)
blank-kept (suc w) (b ∷ p) h = ap (λ (t : Bool). is_blank b && t) (blank-kept w p (omega arith))

name-none : (w : ℕ) → name_length (pad_to w []) ≡ 0
unfolding name_length pad_to every
name-none zero = refl
name-none (suc w) = rw (blanks w) refl

name-kept : (w : ℕ) (p : List ℕ) → length p ≤ w → name_length (take (length p) (pad_to w p)) ≡ name_length (pad_to w p)
unfolding name_length pad_to every
name-kept w [] h = sym (name-none w)
name-kept zero (b ∷ p) h = absurd (omega arith)
name-kept (suc w) (b ∷ p) h = rw (blank-kept w p (omega arith), name-kept w p (omega arith)) refl

name-all : (text : List ℕ) → length (columns 13 62 text) ≡ 50
name-all text = length-columns 13 62 text

module _ (text p : List ℕ) (e : p ≡ take (62 - (13 - 1)) (drop (13 - 1) text)) where
  pub name-short : length p ≤ 50
  name-short = rw e (omega (arith, length-take 50 (drop 12 text)))

  pub name-start : name_length (take (length p) (columns 13 62 text)) ≡ name_length (columns 13 62 text)
  name-start = rw (part-columns 13 62 50 text p refl e) at (name-kept 50 p name-short)

module _ (text p : List ℕ) (k q : ℕ) (h : 0 < k) (l : k ≤ length p) (e : p ≡ take (62 - (13 - 1)) (drop (13 - 1) text)) (v : name_length (take k (columns 13 62 text)) ≡ q) where
  abbrev name : List ℕ
  name = columns 13 62 text

  abbrev b : ℕ
  b = get_or p (k - 1) 0

  byte-is : get_or name (k - 1) 0 ≡ b
  byte-is = ap (λ (n : List ℕ). get_or n (k - 1) 0) (sym (part-columns 13 62 50 text p refl e)) ∙ get_d-pad 50 p (k - 1) 0 (omega (arith, name-short text p e)) ∙ get_d_any p (k - 1) 32 0 (omega arith)

  last : take k name ≡ take (k - 1) name ++ (b ∷ [])
  last =
      let z : k ≡ suc (k - 1) = omega arith in
      ap (λ (n : ℕ). take n name) z ∙ take-suc name (k - 1) 0 (omega (arith, name-all text, name-short text p e)) ∙ rw byte-is refl

  pub name-again : get_or p (k - 1) 0 ≡ 32 → name_length (take (k - 1) (columns 13 62 text)) ≡ q
  name-again y = sym (ap name_length last ∙ name-blank b (take (k - 1) name) y) ∙ v

  pub name_out : (get_or p (k - 1) 0 ≡ 32 → ⊥) → k ≡ q
  name_out y =
      let z : suc (length (take (k - 1) name)) ≡ k = omega (arith, length-take-le (k - 1) name (omega (arith, name-all text, name-short text p e))) in
      sym (ap name_length last ∙ name-filled b (take (k - 1) name) y ∙ z) ∙ v

pub name_done : (text : List ℕ) (k q : ℕ) → k ≤ 0 → name_length (take k (columns 13 62 text)) ≡ q → 0 ≡ q
unfolding name_length
name_done text k q h v =
    let z : k ≡ 0 = omega arith in
    rw z at v

pub ruleset names = (tests, name-short, name-start, name-again, name_out, name_done)
