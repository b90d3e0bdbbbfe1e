-- Runs of bytes from the front of a text, and a pattern there. Assumes nothing.
use mathlib.Core.Path.{◌≡◌, refl, sym, ◌∙◌}
use mathlib.Core.List.{List, [], ◌∷◌, ◌++◌, append_assoc, append-nil}
use mathlib.Core.Bool.{Bool, true, false, cond, ◌&&◌, ◌||◌}
use Prim.Native.Nat.{ℕ, zero, suc, ◌+◌, ◌≤◌, ◌<◌}
use native.Mathlib.Nat.{add-zero, zero-add}
use native.Mathlib.Omega.{arith}
use lib.ListN.{length, get_or, take, drop, length-append, length-take, length-drop, take-append-drop}
use lib.Seq.{take-append_seam, drop-append_seam, get_or-append-add, get_or-append_seam, get_or-drop, take-add, take-suc}
use lib.Dec.{eqb, leb, ltb}
use borrow.Author.Tests.{ne_eqb, lt-ltb, eqb-true, ltb-true, leb-true}
use Rattle.base.specs.Lists.{every}
use Rattle.base.proofs.Laws.{clash}
use Rattle.names.specs.Grammar.{opens, closes, among, languages, is_language, is_type, Pattern, IsPattern}
use Rattle.names.specs.Names.{span, closed, body_of, body_size, has_pattern, pattern_of, pattern_size}

-- ---- spans

pub span-le : (t : ℕ → Bool) (text : List ℕ) → span t text ≤ length text
unfolding span
span-le t [] = omega arith
span-le t (b ∷ text) = go (span-le t text) (t b)
  where
    go : span t text ≤ length text → (x : Bool) → cond x (suc (span t text)) 0 ≤ suc (length text)
    go ih true = omega arith
    go ih false = omega arith

pub span-every : (t : ℕ → Bool) (text : List ℕ) → every t (take (span t text) text) ≡ true
unfolding span every
span-every t [] = refl
span-every t (b ∷ text) = go (span-every t text) (t b) refl
  where
    go : every t (take (span t text) text) ≡ true → (x : Bool) → t b ≡ x → every t (take (cond x (suc (span t text)) 0) (b ∷ text)) ≡ true
    go ih true e = rw e ih
    go ih false e = refl

-- a span goes on behind bytes that pass
pub span-append : (t : ℕ → Bool) (n rest : List ℕ) → every t n ≡ true → span t (n ++ rest) ≡ length n + span t rest
unfolding span every
span-append t [] rest h = sym (zero-add (span t rest))
span-append t (b ∷ n) rest h = go (span-append t n rest) (t b) h
  where
    go : (every t n ≡ true → span t (n ++ rest) ≡ length n + span t rest) → (x : Bool) → (x && every t n) ≡ true → cond x (suc (span t (n ++ rest))) 0 ≡ suc (length n) + span t rest
    go ih true k = rw (ih k) (omega arith)
    go ih false k = clash k

pub span-all : (t : ℕ → Bool) (n : List ℕ) → every t n ≡ true → span t n ≡ length n
unfolding span
span-all t n h = rw append-nil at (span-append t n [] h) ∙ add-zero (length n)

-- and ends at one that does not
pub span-ends : (t : ℕ → Bool) (n : List ℕ) (b : ℕ) (rest : List ℕ) → every t n ≡ true → t b ≡ false → span t (n ++ (b ∷ rest)) ≡ length n
unfolding span
span-ends t n b rest h e = rw e at (span-append t n (b ∷ rest) h) ∙ add-zero (length n)

-- ---- letters end before digits and ">"

-- letters of languages begin at 100
none-among : (m b : ℕ) (ls : List ℕ) → b < m → every (leb m) ls ≡ true → among b ls ≡ false
unfolding among every
none-among m b [] h k = refl
none-among m b (x ∷ ls) h k = go (none-among m b ls h) (leb m x) refl k
  where
    go : (every (leb m) ls ≡ true → among b ls ≡ false) → (t : Bool) → leb m x ≡ t → (t && every (leb m) ls) ≡ true → (eqb x b || among b ls) ≡ false
    go ih true e k = rw (ne_eqb x b (λ f. omega (arith, leb-true m x e)), ih k)
    go ih false e k = clash k

pub no-language : (b : ℕ) → b < 100 → is_language b ≡ false
unfolding every
no-language b h = none-among 100 b languages h refl

pub type-low : (b : ℕ) → is_type b ≡ true → b < 58
type-low b h = go (leb 49 b) (leb b 57) refl h
  where
    go : (s t : Bool) → leb b 57 ≡ t → (s && t) ≡ true → b < 58
    go true true e k = omega (arith, leb-true b 57 e)
    go true false e k = clash k
    go false t e k = clash k

letters-end : (ds rest : List ℕ) → every is_type ds ≡ true → span is_language (ds ++ (closes ∷ rest)) ≡ 0
unfolding span every
letters-end [] rest h = rw (no-language closes (omega arith))
letters-end (d ∷ ds) rest h = go (is_type d) refl h
  where
    go : (t : Bool) → is_type d ≡ t → (t && every is_type ds) ≡ true → cond (is_language d) (suc (span is_language (ds ++ (closes ∷ rest)))) 0 ≡ 0
    go true e k = rw (no-language d (omega (arith, type-low d e)))
    go false e k = clash k

-- ---- a pattern that stands at the front is found there

module _ (ls ds rest : List ℕ) (hl : every is_language ls ≡ true) (hd : every is_type ds ≡ true) where
  letters-is : span is_language (ls ++ (ds ++ (closes ∷ rest))) ≡ length ls
  letters-is = span-append is_language ls (ds ++ (closes ∷ rest)) hl ∙ rw (letters-end ds rest hd) (add-zero (length ls))

  digits-is : span is_type (drop (length ls) (ls ++ (ds ++ (closes ∷ rest)))) ≡ length ds
  digits-is = rw drop-append_seam (span-ends is_type ds closes rest hd refl)

  closes-is : get_or (ls ++ (ds ++ (closes ∷ rest))) (length ls + length ds) 0 ≡ closes
  closes-is = get_or-append-add ls (ds ++ (closes ∷ rest)) (length ds) 0 ∙ get_or-append_seam ds closes rest 0

  pub has-is : 0 < length ls + length ds → has_pattern (opens ∷ (ls ++ (ds ++ (closes ∷ rest)))) ≡ true
  unfolding has_pattern closed
  has-is h = rw (letters-is, digits-is, lt-ltb 0 (length ls + length ds) h, closes-is)

  pub of_is : pattern_of (opens ∷ (ls ++ (ds ++ (closes ∷ rest)))) ≡ record { letters = ls; digits = ds }
  unfolding pattern_of body_of
  of_is = rw (letters-is, digits-is, take-append_seam, drop-append_seam, take-append_seam)

  pub size_is : pattern_size (opens ∷ (ls ++ (ds ++ (closes ∷ rest)))) ≡ length ls + length ds + 2
  unfolding pattern_size body_size
  size_is = rw (letters-is, digits-is) (omega arith)

-- what a grammatical pattern with something behind it is for the reader
module _ (t rest : List ℕ) (p : Pattern) (h : IsPattern t p) where
  spelt : t ++ rest ≡ opens ∷ (p.letters ++ (p.digits ++ (closes ∷ rest)))
  spelt = rw (h.written, append_assoc, append_assoc)

  pub pattern-long : length t ≡ length p.letters + length p.digits + 2
  pattern-long = rw (h.written, length-append, length-append) (omega arith)

  pub pattern-there : has_pattern (t ++ rest) ≡ true
  pattern-there = rw spelt (has-is p.letters p.digits rest h.letters h.digits h.filled)

  pub pattern-read : pattern_of (t ++ rest) ≡ p
  pattern-read = rw spelt (of_is p.letters p.digits rest h.letters h.digits)

  pub pattern-size : pattern_size (t ++ rest) ≡ length t
  pattern-size = rw spelt (size_is p.letters p.digits rest h.letters h.digits ∙ sym pattern-long)

  pub pattern-opens : get_or (t ++ rest) 0 0 ≡ opens
  pattern-opens = rw spelt

-- ---- and what the reader finds is a grammatical pattern

-- a byte that is not 0 stands inside the text
pub inside : (l : List ℕ) (i b : ℕ) → get_or l i 0 ≡ suc b → i < length l
inside [] i b e = absurd (omega arith)
inside (x ∷ l) zero b e = omega arith
inside (x ∷ l) (suc i) b e = omega (arith, inside l i b e)

-- "<" and `body`, in which l letters, d digits and ">" stand
module _ (b : ℕ) (body : List ℕ) (l d : ℕ) (o : b ≡ opens) (h : 0 < l + d) (e : get_or body (l + d) 0 ≡ closes) where
  written_is : take (suc (l + d + 1)) (b ∷ body) ≡ opens ∷ (take l body ++ (take d (drop l body) ++ (closes ∷ [])))
  written_is =
      let k : l + d + 1 ≡ l + suc d = omega arith in
      let i : d < length (drop l body) = rw length-drop (omega (arith, inside body (l + d) 61 e)) in
      rw (k, o, take-add, take-suc (drop l body) d 0 i, get_or-drop, e)

  filled_is : 0 < length (take l body) + length (take d (drop l body))
  filled_is = simp (length-take, length-drop) (omega (arith, inside body (l + d) 61 e))

  found-is : every is_language (take l body) ≡ true → every is_type (take d (drop l body)) ≡ true → IsPattern (take (suc (l + d + 1)) (b ∷ body)) (record { letters = take l body; digits = take d (drop l body) })
  found-is f g = record { written = written_is; letters = f; digits = g; filled = filled_is }

pub pattern-found : (text : List ℕ) → has_pattern text ≡ true → IsPattern (take (pattern_size text) text) (pattern_of text)
unfolding has_pattern pattern_of pattern_size closed body_of body_size
pattern-found [] h = clash h
pattern-found (b ∷ body) h = go (eqb b opens) (ltb 0 (l + d)) (eqb (get_or body (l + d) 0) closes) refl refl refl h
  where
    l : ℕ
    l = span is_language body

    d : ℕ
    d = span is_type (drop l body)

    go : (x y z : Bool) → eqb b opens ≡ x → ltb 0 (l + d) ≡ y → eqb (get_or body (l + d) 0) closes ≡ z → (x && (y && z)) ≡ true → IsPattern (take (suc (l + d + 1)) (b ∷ body)) (record { letters = take l body; digits = take d (drop l body) })
    go true true true e f g k = found-is b body l d (eqb-true b opens e) (ltb-true 0 (l + d) f) (eqb-true (get_or body (l + d) 0) closes g) (span-every is_language body) (span-every is_type (drop l body))
    go true true false e f g k = clash k
    go true false z e f g k = clash k
    go false y z e f g k = clash k

-- it lies inside the text
pub pattern-inside : (text : List ℕ) → has_pattern text ≡ true → length (take (pattern_size text) text) ≡ pattern_size text
pattern-inside text h = sym (rw take-append-drop at (pattern-size (take (pattern_size text) text) (drop (pattern_size text) text) (pattern_of text) (pattern-found text h)))
