-- The ends of a range by words of eight bytes: the same as column by column. Assumes nothing.
use mathlib.Core.Path.{◌≡◌, refl, ap, sym, ◌∙◌}
use mathlib.Core.List.{List}
use mathlib.Core.Bool.{Bool, true, false, ◌||◌}
use Prim.Native.Nat.{ℕ, ◌+◌, ◌-◌, ◌/◌, ◌%◌, ◌≤◌}
use native.Mathlib.Nat.{div-one}
use native.Mathlib.Omega.{arith}
use lib.ListN.{length, take, drop, replicate}
use lib.Dec.{leb, lit≤}
use borrow.Author.Tests.{leb-true, ne_eqb}
use Rattle.base.proofs.Laws.{tests}
use Rattle.base.proofs.Loops.{and-true}
use Rattle.base.specs.Lists.{every}
use Rattle.columns.specs.Columns.{columns, pad_to, is_digit, blank, digits, number}
use Rattle.fields.specs.Fields.{hash, hash_digits, time_in, range_end, range_end_in, detail, detail_in}
use Rattle.fields.specs.declared.RangeEnd.TheVariants.{Outer, Stop}
use Rattle.fields.specs.declared.Detail.TheVariants.{Plain}
use Rattle.byte_words.specs.Inner.Words.{bytes_of, is_figure}
use Rattle.byte_words.proofs.Lines.{columns-word, blank-in}
use Rattle.byte_words.proofs.Numbers.{are-digits}
use Rattle.told.specs.Inner.Marked.{mark_column}
use Rattle.told.proofs.Form.{figures}

-- digits are not blank
not-blank : (w : ℕ) → digits (bytes_of 7 w) ≡ true → blank (bytes_of 7 w) ≡ false
unfolding every bytes_of
not-blank w e =
    let d = (and-true (is_digit (w % 256)) (every is_digit (bytes_of 6 (w / 256))) e).0 in
    let z = leb-true 48 (w % 256) (and-true (leb 48 (w % 256)) (leb (w % 256) 57) d).0 in
    rw (ne_eqb (w % 256) 32 (λ y. omega (arith, y, z))) refl

seven-padded : (w : ℕ) → pad_to 7 (bytes_of 7 w) ≡ bytes_of 7 w
unfolding pad_to bytes_of
seven-padded w = refl

-- w is the word from column a on, for `search ending`
module _ (l : List ℕ) (a b w : ℕ) (h : 1 ≤ a) (i : a + 7 ≤ mark_column) (m : mark_column ≤ length l) (e : bytes_of 8 w ≡ take 8 (drop (a - 1) l)) where
  part : (k : ℕ) → k ≤ 8 → columns a (a - 1 + k) l ≡ bytes_of k w
  part k g = columns-word l (a - 1) w e (omega (arith, h, i, m)) 0 k a (a - 1 + k) (omega (arith, h)) (omega (arith, h)) (omega (arith, g)) ∙ ap (bytes_of k) (div-one w)

  module _ (g : b ≡ a + 6) where
    same : a - 1 + 7 ≡ b
    same = omega (arith, h, g)

    pub place-blank : (s : Bool) → s ≡ blank (bytes_of 8 w) → s ≡ true → Outer ≡ range_end (columns a b l)
    unfolding range_end_in pad_to every
    place-blank s es y =
        let z : columns a b l ≡ replicate (b - (a - 1)) 32 = blank-in l a (a - 1 + 8) a b (ap blank (part 8 (lit≤ tt)) ∙ sym es ∙ y) h (omega arith) (omega (arith, h, g)) (omega (arith, h, g)) in
        let n : b - (a - 1) ≡ 7 = omega (arith, h, g) in
        rw (z, n) refl

    pub place-stop : (t : Bool) (n : ℕ) → t ≡ digits (bytes_of 7 w) → t ≡ true → n ≡ number (bytes_of 7 w) → Stop (record { 0 = n }) ≡ range_end (columns a b l)
    unfolding range_end_in
    place-stop t n et y en =
        let z : columns a b l ≡ bytes_of 7 w = ap (λ (b : ℕ). columns a b l) (sym same) ∙ part 7 (lit≤ tt) in
        let d : digits (bytes_of 7 w) ≡ true = sym et ∙ y in
        rw (z, seven-padded w, not-blank w d, d, en) refl

  pub detail-blank : (s : Bool) → b ≡ a + 5 → s ≡ blank (bytes_of 6 w) → s ≡ true → Plain ≡ detail (columns a b l)
  unfolding detail_in hash hash_digits time_in pad_to every
  detail-blank s g es y =
      let q : a - 1 + 6 ≡ b = omega (arith, h, g) in
      let x : columns a b l ≡ bytes_of 6 w = ap (λ (b : ℕ). columns a b l) (sym q) ∙ part 6 (lit≤ tt) in
      let z : columns a b l ≡ replicate (b - (a - 1)) 32 = blank-in l a b a b (ap blank x ∙ sym es ∙ y) h (omega arith) (omega arith) (omega (arith, g)) in
      let n : b - (a - 1) ≡ 6 = omega (arith, h, g) in
      rw (z, n) refl

pub ruleset ending = (tests, place-blank, place-stop, are-digits, detail-blank)

-- ---- numbers by a word: t says whether its first bytes are digits, r is their number, for `search numbered`

module _ (l : List ℕ) (w : ℕ) (t : Bool) (h : mark_column ≤ length l) (y : t ≡ true) where
  pub field-said : (r : ℕ) → bytes_of 8 w ≡ take 8 (drop 22 l) → t ≡ digits (bytes_of 6 w) → r ≡ number (bytes_of 6 w) → r ≡ number (columns 23 28 l)
  field-said r e d v = v ∙ ap number (sym (columns-word l 22 w e (omega (arith, h)) 0 6 23 28 refl refl (lit≤ tt) ∙ ap (bytes_of 6) (div-one w)))

  pub number-said : (r : ℕ) → bytes_of 8 w ≡ take 8 (drop 3 l) → t ≡ digits (bytes_of 5 w) → r ≡ number (bytes_of 5 w) → r ≡ number (columns 4 8 l)
  number-said r e d v = v ∙ ap number (sym (columns-word l 3 w e (omega (arith, h)) 0 5 4 8 refl refl (lit≤ tt) ∙ ap (bytes_of 5) (div-one w)))

pub figures-known : (w : ℕ) (t : Bool) → t ≡ digits (bytes_of 5 w) → t ≡ true → every is_figure (bytes_of 5 w) ≡ true
figures-known w t e y = figures (bytes_of 5 w) (rw (← e, y) (go (blank (bytes_of 5 w))))
  where
    go : (b : Bool) → (b || true) ≡ true
    go true = refl
    go false = refl

pub ruleset numbered = (tests, are-digits, figures-known, field-said, number-said)
