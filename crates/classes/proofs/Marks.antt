-- Marks: one bit of a word, and one mark more. Assumes nothing.
use mathlib.Core.Path.{◌≡◌, refl, ap, sym, ◌∙◌}
use mathlib.Core.List.{List, [], ◌∷◌, ◌++◌}
use mathlib.Core.Bool.{Bool, true, false, cond, ◌||◌}
use Prim.Native.Nat.{ℕ, zero, suc, ◌+◌, ◌*◌, ◌/◌, ◌%◌, ◌^◌, ◌<◌, max}
use native.Mathlib.Nat.{mod-lt, pow-suc, zero-div}
use native.Mathlib.Omega.{arith}
use lib.ListN.{length, get_or, set, replicate, length-set, length-replicate, get_or-replicate}
use lib.Seq.{get_or-set_same, get_or-set_other}
use lib.Dec.{eqb}
use lib.Bits.{bit_or, or_step, or_shr}
use lib.Pow.{shr-shr, shl_exact}
use borrow.Author.Tests.{eq-eqb, ne_eqb}
use Rattle.base.specs.Lists.{some_of}
use Rattle.base.proofs.Laws.{tests, by_eqb, or-false}
use Rattle.sections.specs.Inner.Sections.{has_number}
use Rattle.classes.specs.Inner.Passes.{mark_words, bit_of, marked, with_mark, Marks, repeats_on, marks_with}
use Rattle.classes.proofs.Lines.{some-append}

-- ---- one bit

bit-low : (w k : ℕ) → bit_of w k < 2
unfolding bit_of
bit-low w k = mod-lt (w / 2 ^ k) (omega arith)

or-low : (x a b : ℕ) → a < 2 → b < 2 → (x * 2 + max a b) % 2 ≡ max a b
or-low x zero zero h k = omega arith
or-low x zero (suc zero) h k = omega arith
or-low x (suc zero) zero h k = omega arith
or-low x (suc zero) (suc zero) h k = omega arith
or-low x (suc (suc a)) b h k = absurd (omega arith)
or-low x zero (suc (suc b)) h k = absurd (omega arith)
or-low x (suc zero) (suc (suc b)) h k = absurd (omega arith)

bit-or : (w v k : ℕ) → bit_of (bit_or w v) k ≡ max (bit_of w k) (bit_of v k)
unfolding bit_of
bit-or w v k =
    ap (λ (x : ℕ). x % 2) (or_shr w v k ∙ or_step (w / 2 ^ k) (v / 2 ^ k))
    ∙ or-low (bit_or (w / 2 ^ k / 2) (v / 2 ^ k / 2)) (w / 2 ^ k % 2) (v / 2 ^ k % 2) (mod-lt (w / 2 ^ k) (omega arith)) (mod-lt (v / 2 ^ k) (omega arith))

half : (k : ℕ) → 2 ^ suc k / 2 ≡ 2 ^ k
half k = omega (arith, pow-suc 2 k)

shr-suc : (n j : ℕ) → n / 2 ^ suc j ≡ n / 2 / 2 ^ j
shr-suc n j = let e : 1 + j ≡ suc j = omega arith in sym (shr-shr n 1 j ∙ ap (λ (k : ℕ). n / 2 ^ k) e)

eqb-suc : (k j : ℕ) → eqb k j ≡ eqb (suc k) (suc j)
eqb-suc k j = by_eqb (λ t. t ≡ eqb (suc k) (suc j)) k j (λ e. sym (eq-eqb (suc k) (suc j) (ap suc e))) (λ e. sym (ne_eqb (suc k) (suc j) (λ d. e (omega (arith, d)))))

bit-pow : (k j : ℕ) → bit_of (2 ^ k) j ≡ cond (eqb k j) 1 0
unfolding bit_of
bit-pow zero zero = refl
bit-pow (suc k) zero =
    let e : 2 ^ suc k / 1 % 2 ≡ 0 = omega (arith, pow-suc 2 k) in
    e ∙ sym (ap (λ (t : Bool). cond t 1 0) (ne_eqb (suc k) 0 (λ d. omega (arith, d))))
bit-pow zero (suc j) = ap (λ (x : ℕ). x % 2) (shr-suc 1 j ∙ zero-div (2 ^ j)) ∙ sym (ap (λ (t : Bool). cond t 1 0) (ne_eqb 0 (suc j) (λ e. omega (arith, e))))
bit-pow (suc k) (suc j) = ap (λ (x : ℕ). x % 2) (shr-suc (2 ^ suc k) j ∙ ap (λ (x : ℕ). x / 2 ^ j) (half k)) ∙ bit-pow k j ∙ ap (λ (t : Bool). cond t 1 0) (eqb-suc k j)

max-one : (x y : ℕ) → x < 2 → y < 2 → eqb (max x y) 1 ≡ (eqb x 1 || eqb y 1)
max-one zero zero h k = refl
max-one zero (suc zero) h k = refl
max-one (suc zero) zero h k = refl
max-one (suc zero) (suc zero) h k = refl
max-one (suc (suc x)) y h k = absurd (omega arith)
max-one zero (suc (suc y)) h k = absurd (omega arith)
max-one (suc zero) (suc (suc y)) h k = absurd (omega arith)

one_bit : (t : Bool) → eqb (cond t 1 0) 1 ≡ t
one_bit true = refl
one_bit false = refl

-- ---- `mark` meets its contract: w is the word, for `search marking`

module _ (m : List ℕ) (low : ℕ) where
  pub mark-place : length m ≡ mark_words → low < 65536 → low / 32 < length m
  mark-place s h = omega (arith, s)

  pub mark-told : eqb (get_or m (low / 32) 0 / 2 ^ (low % 32) % 2) 1 ≡ marked m low
  unfolding marked bit_of
  mark-told = refl

  pub mark-stored : set m (low / 32) (bit_or (get_or m (low / 32) 0) (1 * 2 ^ (low % 32) % 2 ^ 32)) ≡ with_mark m low
  unfolding with_mark
  mark-stored =
      let h : low % 32 < 32 = mod-lt low (omega arith) in
      let o : 1 * 2 ^ (low % 32) ≡ 2 ^ (low % 32) = omega arith in
      ap (λ (x : ℕ). set m (low / 32) (bit_or (get_or m (low / 32) 0) x)) (shl_exact {a = 1} 1 (low % 32) 32 (omega arith) (omega arith) ∙ o)

-- ---- a mark more

module _ (m : List ℕ) (low : ℕ) (s : length m ≡ mark_words) (h : low < 65536) where
  abbrev w : ℕ
  w = get_or m (low / 32) 0

  mark_set : (x : ℕ) → marked (with_mark m low) x ≡ (marked m x || eqb low x)
  unfolding marked with_mark
  mark_set x = by_eqb (λ _. eqb (bit_of (get_or (set m (low / 32) (bit_or w (2 ^ (low % 32)))) (x / 32) 0) (x % 32)) 1 ≡ (eqb (bit_of (get_or m (x / 32) 0) (x % 32)) 1 || eqb low x)) (x / 32) (low / 32) same other
    where
      same : x / 32 ≡ low / 32 → eqb (bit_of (get_or (set m (low / 32) (bit_or w (2 ^ (low % 32)))) (x / 32) 0) (x % 32)) 1 ≡ (eqb (bit_of (get_or m (x / 32) 0) (x % 32)) 1 || eqb low x)
      same e =
          rw (e, get_or-set_same m (low / 32) (bit_or w (2 ^ (low % 32))) 0 (mark-place m low s h), bit-or)
          (max-one (bit_of w (x % 32)) (bit_of (2 ^ (low % 32)) (x % 32)) (bit-low w (x % 32)) (bit-low (2 ^ (low % 32)) (x % 32))
          ∙ ap (λ (t : Bool). eqb (bit_of w (x % 32)) 1 || t) (ap (λ (k : ℕ). eqb k 1) (bit-pow (low % 32) (x % 32)) ∙ one_bit (eqb (low % 32) (x % 32)) ∙ parts))
        where
          parts : eqb (low % 32) (x % 32) ≡ eqb low x
          parts = by_eqb (λ t. eqb (low % 32) (x % 32) ≡ t) low x (λ q. eq-eqb (low % 32) (x % 32) (ap (λ (k : ℕ). k % 32) q)) (λ q. ne_eqb (low % 32) (x % 32) (λ z. q (omega (arith, e, z))))

      other : (x / 32 ≡ low / 32 → ⊥) → eqb (bit_of (get_or (set m (low / 32) (bit_or w (2 ^ (low % 32)))) (x / 32) 0) (x % 32)) 1 ≡ (eqb (bit_of (get_or m (x / 32) 0) (x % 32)) 1 || eqb low x)
      other e = rw (get_or-set_other m (low / 32) (x / 32) (bit_or w (2 ^ (low % 32))) 0 e, ne_eqb low x (λ q. e (ap (λ (k : ℕ). k / 32) (sym q)))) (or-false (eqb (bit_of (get_or m (x / 32) 0) (x % 32)) 1))

-- the codes ns, and one more
module _ (b : ℕ) (ns m : List ℕ) (c : ℕ) (k : Marks b ns m) where
  has_more : (x : ℕ) → has_number x (ns ++ (c ∷ [])) ≡ (has_number x ns || eqb c x)
  unfolding some_of
  has_more x = some-append (λ (y : ℕ). eqb y x) ns (c ∷ []) ∙ ap (λ (t : Bool). has_number x ns || t) (sym (or-false (eqb c x)))

  size-kept : length (with_mark m (c % 65536)) ≡ mark_words
  unfolding with_mark
  size-kept = length-set m (c % 65536 / 32) (bit_or (get_or m (c % 65536 / 32) 0) (2 ^ (c % 65536 % 32))) ∙ k.size

  pub marks-mine : c / 65536 ≡ b → Marks b (ns ++ (c ∷ [])) (with_mark m (c % 65536))
  marks-mine e =
      let l : c % 65536 < 65536 = mod-lt c (omega arith) in
      record {
        size = size-kept;
        bits = λ x h. mark_set m (c % 65536) k.size l x ∙ rw (k.bits x h, has_more (b * 65536 + x)) (ap (λ (t : Bool). has_number (b * 65536 + x) ns || t) (same x h));
      }
    where
      same : (x : ℕ) → x < 65536 → eqb (c % 65536) x ≡ eqb c (b * 65536 + x)
      same x h = by_eqb (λ t. t ≡ eqb c (b * 65536 + x)) (c % 65536) x (λ q. sym (eq-eqb c (b * 65536 + x) (omega (arith, e, q)))) (λ q. sym (ne_eqb c (b * 65536 + x) (λ z. q (omega (arith, e, z, h)))))

  pub marks-another : (c / 65536 ≡ b → ⊥) → Marks b (ns ++ (c ∷ [])) m
  marks-another e = record {
    size = k.size;
    bits = λ x h. k.bits x h ∙ sym (has_more (b * 65536 + x) ∙ rw (ne_eqb c (b * 65536 + x) (λ z. e (omega (arith, z, h)))) (sym (or-false (has_number (b * 65536 + x) ns))));
  }

  -- a code that is not marked does not stand before
  pub marks-tell : c / 65536 ≡ b → marked m (c % 65536) ≡ has_number c ns
  marks-tell e =
      let d : b * 65536 + c % 65536 ≡ c = omega (arith, e) in
      k.bits (c % 65536) (mod-lt c (omega arith)) ∙ ap (λ (x : ℕ). has_number x ns) d

none-marked : (x : ℕ) → x < 65536 → marked (replicate mark_words 0) x ≡ false
unfolding marked bit_of
none-marked x h = rw (get_or-replicate {A = ℕ} mark_words (x / 32) 0 0 (omega arith), zero-div (2 ^ (x % 32))) refl

pub marks-none : (b : ℕ) (m : List ℕ) → m ≡ replicate mark_words 0 → Marks b [] m
unfolding some_of
marks-none b m e = rw e (record { size = length-replicate {A = ℕ} mark_words 0; bits = none-marked })

-- a code, and whether it begins with b: x is what `mark` answers, m' the marks after it
module _ (b c : ℕ) (m : List ℕ) where
  module _ (z : c / 65536 ≡ b) where
    pub repeats-held : (x : Bool) → x ≡ marked m (c % 65536) → x ≡ repeats_on b c m
    unfolding repeats_on
    repeats-held x q = rw (eq-eqb (c / 65536) b z) q

    pub marks-held : (m' : List ℕ) → m' ≡ with_mark m (c % 65536) → m' ≡ marks_with b c m
    unfolding marks_with
    marks-held m' q = rw (eq-eqb (c / 65536) b z) q

  module _ (z : c / 65536 ≡ b → ⊥) where
    pub repeats-other : false ≡ repeats_on b c m
    unfolding repeats_on
    repeats-other = rw (ne_eqb (c / 65536) b z) refl

    pub marks-other : m ≡ marks_with b c m
    unfolding marks_with
    marks-other = rw (ne_eqb (c / 65536) b z) refl

pub low_small : (c : ℕ) → c % 65536 < 65536
low_small c = mod-lt c (omega arith)

pub ruleset marking = (tests, mark-place, mark-told, mark-stored, low_small, repeats-held, marks-held, repeats-other, marks-other)
