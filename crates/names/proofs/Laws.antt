-- The needs of the code, a ruleset for each family: `loops`, `patterns`, `names`, `asking`. Assumes nothing.
use mathlib.Core.Path.{◌≡◌, refl, sym, ap, ◌∙◌}
use mathlib.Core.List.{List, [], ◌∷◌}
use mathlib.Core.Bool.{Bool, true, false, cond, not, ◌&&◌, ◌||◌}
use Prim.Native.Nat.{ℕ, suc, ◌+◌, ◌≤◌, ◌<◌}
use native.Mathlib.Nat.{zero-add}
use native.Mathlib.Omega.{arith}
use lib.ListN.{length, get_or, drop, drop_of_length-le}
use lib.Dec.{eqb, leb}
use borrow.Author.Tests.{eq-eqb, ne_eqb, le-leb, lt-leb, leb-true, not-true, not-false}
use Rattle.base.specs.Lists.{every}
use Rattle.base.proofs.Laws.{tests, clash, drop-next}
use Rattle.names.specs.Grammar.{is_plain, among, languages, is_language, is_type}
use Rattle.names.specs.Names.{span, language_known, type_digit, wanted_by, allows, fits}
use Rattle.names.specs.Inner.Answers.{is_of, asked_by, first_of}
use Rattle.names.specs.declared.Name.{Name}
use Rattle.names.specs.declared.Wanted.{Wanted}
use Rattle.std.specs.Prelude.{Option, Some, None}
use Rattle.std.specs.List.{list_any}
use Rattle.names.specs.declared.NameByte.{NameByte}
use Rattle.names.specs.declared.NameByte.TheVariants.{Plain, Letter, Digit}

-- ---- the classes of bytes

module _ (k : NameByte) (b : ℕ) (r : Bool) where
  pub of_plain : k ≡ Plain → r ≡ is_plain b → r ≡ is_of k b
  of_plain e h = rw e h

  pub of-letter : k ≡ Letter → r ≡ is_language b → r ≡ is_of k b
  of-letter e h = rw e h

  pub of-digit : k ≡ Digit → r ≡ is_type b → r ≡ is_of k b
  of-digit e h = rw e h

-- ---- loops over bytes, at place i; the right side is what all answer

module _ (p : List ℕ) (i : ℕ) (h : i < length p) where
  module _ (k : NameByte) (t : Bool) (d : t ≡ is_of k (get_or p i 0)) (r : ℕ) where
    pub span-again : t ≡ true → i + span (is_of k) (drop i p) ≡ r → i + 1 + span (is_of k) (drop (i + 1) p) ≡ r
    unfolding span
    span-again y v =
        let s : span (is_of k) (drop i p) ≡ suc (span (is_of k) (drop (i + 1) p)) = rw (drop-next p i (get_or p i 0) h refl, sym d ∙ y) in
        omega arith

    pub span-out : t ≡ false → i + span (is_of k) (drop i p) ≡ r → i ≡ r
    unfolding span
    span-out y v =
        let s : span (is_of k) (drop i p) ≡ 0 = rw (drop-next p i (get_or p i 0) h refl, sym d ∙ y) in
        omega arith

-- what the library's `contains` answers
pub has-is : (p : List ℕ) (b : ℕ) (r : Bool) → r ≡ list_any (λ (y : ℕ). eqb y b) p → r ≡ among b p
unfolding among
has-is p b r e = e ∙ go p
  where
    go : (q : List ℕ) → list_any (λ (y : ℕ). eqb y b) q ≡ among b q
    go [] = refl
    go (x ∷ q) = ap (λ (t : Bool). eqb x b || t) (go q)

pub span-done : (p : List ℕ) (i : ℕ) (k : NameByte) (r : ℕ) → length p ≤ i → i + span (is_of k) (drop i p) ≡ r → i ≡ r
unfolding span
span-done p i k r h v =
    let s : span (is_of k) (drop i p) ≡ 0 = rw (drop_of_length-le p h) in
    omega arith

-- the first name begins at place 0
pub name-first : (f : List ℕ) (end : ℕ) → end ≡ 0 + span (is_of Plain) (drop 0 f) → ◌≡◌ {A = Name} (record { place = 0; size = end }) (record { place = 0; size = span is_plain f })
name-first f end e = rw (e, zero-add)

pub ruleset loops = (tests, of_plain, of-letter, of-digit, name-first, span-again, span-out, span-done)

-- ---- a name before what reading on tells

first-none : (t : Bool) (name : Name) → None ≡ first_of t name None
first-none true name = refl
first-none false name = refl

module _ (t : Bool) (name : Name) (onward : Option (Option Name)) where
  pub first-broken : onward ≡ None → None ≡ first_of t name onward
  first-broken e = rw e (first-none t name)

  module _ (later : Option Name) (e : onward ≡ Some later) where
    pub first_fits : t ≡ true → Some (Some name) ≡ first_of t name onward
    first_fits y = rw (y, e)

    pub first-unfit : t ≡ false → Some later ≡ first_of t name onward
    first-unfit n = rw (n, e)

pub ruleset firsts = (tests, first-broken, first_fits, first-unfit)

-- ---- what a part of a pattern allows, and what a pattern fits

module _ (b : ℕ) (p : List ℕ) where
  pub allows-none : length p ≡ 0 → true ≡ allows b p
  unfolding allows
  allows-none h = go p h
    where
      go : (p : List ℕ) → length p ≡ 0 → true ≡ allows b p
      go [] h = refl
      go (x ∷ p) h = absurd (omega arith)

  module _ (n : length p ≡ 0 → ⊥) where
    some_bytes : allows b p ≡ (eqb b 0 || among b p)
    unfolding allows
    some_bytes = go p n
      where
        go : (p : List ℕ) → (length p ≡ 0 → ⊥) → allows b p ≡ (eqb b 0 || among b p)
        go [] n = absurd (n refl)
        go (x ∷ p) n = refl

    pub allows-any : b ≡ 0 → true ≡ allows b p
    allows-any e = sym (some_bytes ∙ rw (eq-eqb b 0 e))

    pub allows-has : (b ≡ 0 → ⊥) → (r : Bool) → r ≡ among b p → r ≡ allows b p
    allows-has m r e = e ∙ sym (some_bytes ∙ rw (ne_eqb b 0 m))

module _ (w : Wanted) (ls ds : List ℕ) (t : Bool) (e : t ≡ allows w.letter ls) where
  pub fits_both : t ≡ true → (r : Bool) → r ≡ allows w.digit ds → r ≡ fits w (record { letters = ls; digits = ds })
  unfolding fits
  fits_both y r d = d ∙ rw (sym e ∙ y)

  pub fits-no-language : t ≡ false → false ≡ fits w (record { letters = ls; digits = ds })
  unfolding fits
  fits-no-language y = rw (sym e ∙ y)

pub ruleset fitting-parts = (tests, allows-none, allows-any, allows-has, fits_both, fits-no-language)

-- ---- what is asked for

high-among : (m b : ℕ) (ls : List ℕ) → m < b → every (λ x. leb x m) ls ≡ true → among b ls ≡ false
unfolding among every
high-among m b [] h k = refl
high-among m b (x ∷ ls) h k = go (high-among m b ls h) (leb x m) refl k
  where
    go : (every (λ x. leb x m) ls ≡ true → among b ls ≡ false) → (t : Bool) → leb x m ≡ t → (t && every (λ x. leb x m) ls) ≡ true → (eqb x b || among b ls) ≡ false
    go ih true e k = rw (ne_eqb x b (λ f. omega (arith, leb-true x m e)), ih k)
    go ih false e k = clash k

module _ (language type : ℕ) where
  pub asked-type : 9 < type → None ≡ asked_by language type
  asked-type h = go (language_known language)
    where
      go : (t : Bool) → None ≡ cond (t && leb type 9) (Some (wanted_by language type)) None
      go true = rw (lt-leb type 9 h)
      go false = refl

  pub asked-high : 255 < language → None ≡ asked_by language type
  unfolding every
  asked-high h = rw (ne_eqb language 0 (λ e. omega arith), high-among 255 language languages h refl)

  module _ (t : Bool) (e : t ≡ language_known language) where
    pub asked-language : not t ≡ true → None ≡ asked_by language type
    asked-language n = rw (sym e ∙ not-true t n)

    pub asked-both : not t ≡ false → type ≤ 9 → (d : ℕ) → d ≡ type_digit type → Some (record { letter = language; digit = d }) ≡ asked_by language type
    asked-both n h d g = rw (sym e ∙ not-false t n, le-leb type 9 h, g)

pub known-any : (language : ℕ) → language ≡ 0 → true ≡ language_known language
known-any language e = rw (eq-eqb language 0 e)

pub known-listed : (language : ℕ) → (language ≡ 0 → ⊥) → (r : Bool) → r ≡ is_language language → r ≡ language_known language
known-listed language n r e = e ∙ rw (ne_eqb language 0 n)

pub ruleset asking = (tests, asked-type, asked-high, asked-language, asked-both, known-any, known-listed)
