-- The needs of `name_list` and `patterns`, which call each other: `search turning-names`, `search turning-patterns`. Assumes nothing.
use mathlib.Core.Path.{◌≡◌, refl, sym, ap, ◌∙◌}
use mathlib.Core.List.{List, [], ◌∷◌}
use mathlib.Core.Bool.{Bool, true, false, cond, ◌||◌}
use mathlib.Core.Option.{Option, none, some}
use Prim.Native.Nat.{ℕ, ◌+◌, ◌-◌, ◌≤◌, ◌<◌, ◌^◌}
use native.Mathlib.Omega.{arith}
use lib.ListN.{length, get_or, drop, length-drop, length-take}
use lib.Seq.{drop-drop, get_or-drop}
use lib.Dec.{eqb}
use borrow.Author.Tests.{eq-eqb, ne_eqb}
use Rattle.base.specs.Lists.{some_of, find}
use Rattle.base.proofs.Laws.{tests, apart, by_eqb, get_d_any}
use Rattle.names.specs.Grammar.{dollar, opens, is_plain, Pattern, Named, named}
use Rattle.names.specs.Names.{span, has_pattern, pattern_of, pattern_size, Tail, mapped, names_from, patterns_from, names_of, patterns_of, fits, fitting}
use Rattle.names.specs.Inner.Answers.{is_of, fit_by, found_in, found_behind, first_of, pattern_answer, next_name}
use Rattle.names.specs.declared.Name.{Name}
use Rattle.names.specs.declared.Wanted.{Wanted}
use Rattle.std.specs.Prelude.{Option as StdOption, Some, None}
use Rattle.names.specs.declared.PatternRead.{PatternRead}
use Rattle.names.specs.declared.NameByte.TheVariants.{Plain}
use Rattle.names.proofs.Spans.{span-le, pattern-inside}
use Rattle.names.proofs.PatternAt.{read-inside, same_byte}
use Rattle.names.proofs.Reading.{names-enough, patterns-enough}

-- ---- the reader, one step on

-- a name of `size` bytes, and what stands behind it
abbrev name_then : ℕ → ℕ → List ℕ → Option (List Named)
name_then size at text =
    cond (eqb size 0) none
    (cond (eqb size (length text)) (some (named at size [] ∷ []))
    (cond (eqb (get_or text size 0) dollar)
    (cond (eqb (get_or text (size + 1) 0) opens)
    (mapped (λ (t : Tail). named at size t.patterns ∷ t.names) (patterns_of (at + (size + 1)) (drop (size + 1) text)))
    (mapped (λ (ns : List Named). named at size [] ∷ ns) (names_of (at + (size + 1)) (drop (size + 1) text))))
    none))

names-step : (at : ℕ) (text : List ℕ) → names_of at text ≡ name_then (span is_plain text) at text
unfolding names_from patterns_from span
names-step at [] = refl
names-step at (b ∷ text) =
    let h : length (drop (span is_plain (b ∷ text) + 1) (b ∷ text)) ≤ length text = rw length-drop (omega arith) in
    rw (
      names-enough (at + (span is_plain (b ∷ text) + 1)) (drop (span is_plain (b ∷ text) + 1) (b ∷ text)) (length text) h,
      patterns-enough (at + (span is_plain (b ∷ text) + 1)) (drop (span is_plain (b ∷ text) + 1) (b ∷ text)) (length text) h,
    )

-- a pattern of `size` bytes, and what stands behind it
abbrev pattern_then : ℕ → ℕ → List ℕ → Option Tail
pattern_then size at text =
    cond (has_pattern text)
    (cond (eqb size (length text)) (some (record { patterns = pattern_of text ∷ []; names = [] }))
    (cond (eqb (get_or text size 0) opens)
    (mapped (λ (t : Tail). record { patterns = pattern_of text ∷ t.patterns; names = t.names }) (patterns_of (at + size) (drop size text)))
    (mapped (λ (ns : List Named). record { patterns = pattern_of text ∷ []; names = ns })
    (cond (eqb (get_or text size 0) dollar) (names_of (at + (size + 1)) (drop (size + 1) text)) (names_of (at + size) (drop size text))))))
    none

size-filled : (text : List ℕ) → 0 < pattern_size text
unfolding pattern_size
size-filled text = omega arith

patterns-step : (at : ℕ) (text : List ℕ) → patterns_of at text ≡ pattern_then (pattern_size text) at text
unfolding names_from patterns_from has_pattern
patterns-step at [] = refl
patterns-step at (b ∷ text) =
    let h : length (drop (pattern_size (b ∷ text) + 1) (b ∷ text)) ≤ length text = rw length-drop (omega arith) in
    let g : length (drop (pattern_size (b ∷ text)) (b ∷ text)) ≤ length text = rw length-drop (omega (arith, size-filled (b ∷ text))) in
    rw (
      names-enough (at + (pattern_size (b ∷ text) + 1)) (drop (pattern_size (b ∷ text) + 1) (b ∷ text)) (length text) h,
      names-enough (at + pattern_size (b ∷ text)) (drop (pattern_size (b ∷ text)) (b ∷ text)) (length text) g,
      patterns-enough (at + pattern_size (b ∷ text)) (drop (pattern_size (b ∷ text)) (b ∷ text)) (length text) g,
    )

-- ---- what a step finds

module _ (w : Wanted) (at size : ℕ) where
  found-patterned : (o : Option Tail) → found_in w (mapped (λ (t : Tail). named at size t.patterns ∷ t.names) o) ≡ found_behind w (record { place = at; size = size }) o
  unfolding found_in found_behind
  found-patterned none = refl
  found-patterned (some t) = refl

  found-unpatterned : (o : Option (List Named)) → found_in w (mapped (λ (ns : List Named). named at size [] ∷ ns) o) ≡ found_in w o
  unfolding found_in find some_of
  found-unpatterned none = refl
  found-unpatterned (some ns) = refl

-- ---- a name list from place `at` on; its first name ends at `end`

module _ (f : List ℕ) (at end : ℕ) (e : end ≡ at + span (is_of Plain) (drop at f)) where
  name-size : span is_plain (drop at f) ≡ end - at
  name-size = omega arith

  at-end : at + (end - at) ≡ end
  at-end = omega arith

  at_next : at + (end - at + 1) ≡ end + 1
  at_next = omega arith

  -- a name that is not empty lies inside the field
  pub name-inside : (end ≡ at → ⊥) → end ≤ length f
  name-inside n = omega (arith, span-le is_plain (drop at f), length-drop at f)

  names_at : names_of at (drop at f) ≡
      cond (eqb (end - at) 0) none
      (cond (eqb (end - at) (length (drop at f))) (some (named at (end - at) [] ∷ []))
      (cond (eqb (get_or f end 0) dollar)
      (cond (eqb (get_or f (end + 1) 0) opens)
      (mapped (λ (t : Tail). named at (end - at) t.patterns ∷ t.names) (patterns_of (end + 1) (drop (end + 1) f)))
      (mapped (λ (ns : List Named). named at (end - at) [] ∷ ns) (names_of (end + 1) (drop (end + 1) f))))
      none))
  names_at = names-step at (drop at f) ∙ rw (name-size, get_or-drop at f (end - at) 0, at-end, get_or-drop at f (end - at + 1) 0, at_next, drop-drop, at_next)

module _ (f : List ℕ) (at end : ℕ) (e : end ≡ at + span (is_of Plain) (drop at f)) (n : end ≡ at → ⊥) (m : end ≡ length f → ⊥) where
  pub name-index : end < length f
  name-index = omega (arith, name-inside f at end e n)

  pub name-next : length f < 2 ^ 64 → end + 1 < 2 ^ 64
  name-next h = omega (arith, name-index)

  pub name-falls : (t : ℕ) → length f - at ≡ t → length f - (end + 1) < t
  name-falls t h = omega (arith, name-index)

pub name-begins : (f : List ℕ) (at end : ℕ) → end ≡ at + span (is_of Plain) (drop at f) → at ≤ end
name-begins f at end e = omega arith

module _ (f : List ℕ) (w : Wanted) (at end : ℕ) (e : end ≡ at + span (is_of Plain) (drop at f)) where
  pub list-empty : end ≡ at → None ≡ found_in w (names_of at (drop at f))
  unfolding found_in
  list-empty k =
      let z : end - at ≡ 0 = omega arith in
      sym (rw (names_at f at end e, z))

  module _ (n : end ≡ at → ⊥) where
    filled : eqb (end - at) 0 ≡ false
    filled = ne_eqb (end - at) 0 (λ k. n (omega arith))

    pub list-last : end ≡ length f → Some None ≡ found_in w (names_of at (drop at f))
    unfolding found_in find some_of
    list-last k =
        let l : end - at ≡ length (drop at f) = rw length-drop (omega arith) in
        sym (rw (names_at f at end e, filled, eq-eqb (end - at) (length (drop at f)) l))

    module _ (m : end ≡ length f → ⊥) where
      more : eqb (end - at) (length (drop at f)) ≡ false
      more = ne_eqb (end - at) (length (drop at f)) (λ k. omega (arith, name-index f at end e n m, length-drop at f))

      pub list-parted-badly : (get_or f end 0 ≡ 36 → ⊥) → None ≡ found_in w (names_of at (drop at f))
      unfolding found_in
      list-parted-badly d = sym (rw (names_at f at end e, filled, more, ne_eqb (get_or f end 0) dollar d))

      module _ (d : get_or f end 0 ≡ 36) (x : ℕ) (g : x ≡ get_or f (end + 1) 32) (r : StdOption (StdOption Name)) where
        pub list-patterns : x ≡ 60 → r ≡ found_behind w (record { place = at; size = end - at }) (patterns_of (end + 1) (drop (end + 1) f)) → r ≡ found_in w (names_of at (drop at f))
        list-patterns o h =
            let b : get_or f (end + 1) 0 ≡ opens = get_d_any f (end + 1) 0 32 (read-inside f (end + 1) x g (λ k. omega arith)) ∙ sym g ∙ o in
            h ∙ sym (rw (names_at f at end e, filled, more, d, b) (found-patterned w at (end - at) (patterns_of (end + 1) (drop (end + 1) f))))

        pub list-names : (x ≡ 60 → ⊥) → r ≡ found_in w (names_of (end + 1) (drop (end + 1) f)) → r ≡ found_in w (names_of at (drop at f))
        list-names o h =
            h ∙ sym (rw (names_at f at end e, filled, more, d, ne_eqb (get_or f (end + 1) 0) opens (same_byte f (end + 1) x 60 g o (λ z. omega arith))) (found-unpatterned w at (end - at) (names_of (end + 1) (drop (end + 1) f))))

pub ruleset turning-names = (tests, name-index, name-next, name-falls, name-begins, list-empty, list-last, list-parted-badly, list-patterns, list-names)

-- ---- patterns from place `at` on, those of `name`

before-fit : (name : Name) (o : Option Named) → Some (Some name) ≡ first_of true name (fit_by o)
before-fit name none = refl
before-fit name (some n) = refl

-- a name whose pattern p was read: it comes first if p fits
module _ (w : Wanted) (name : Name) (p : Pattern) where
  fits-first : (ps : List Pattern) (ns : List Named) (t : Bool) → fit_by (cond (t || some_of (fits w) ps) (some (record { name = name; patterns = p ∷ ps })) (find (fitting w) ns)) ≡ first_of t name (fit_by (cond (some_of (fits w) ps) (some (record { name = name; patterns = ps })) (find (fitting w) ns)))
  fits-first ps ns true = before-fit name (cond (some_of (fits w) ps) (some (record { name = name; patterns = ps })) (find (fitting w) ns))
  fits-first ps ns false = go (some_of (fits w) ps)
    where
      go : (s : Bool) → fit_by (cond s (some (record { name = name; patterns = p ∷ ps })) (find (fitting w) ns)) ≡ fit_by (cond s (some (record { name = name; patterns = ps })) (find (fitting w) ns))
      go true = refl
      go false = refl

  first-of-broken : (t : Bool) → None ≡ first_of t name None
  first-of-broken true = refl
  first-of-broken false = refl

  found-more : (o : Option Tail) → found_behind w name (mapped (λ (t : Tail). record { patterns = p ∷ t.patterns; names = t.names }) o) ≡ first_of (fits w p) name (found_behind w name o)
  unfolding found_behind find some_of
  found-more none = first-of-broken (fits w p)
  found-more (some t) = fits-first t.patterns t.names (fits w p)

  found-next : (o : Option (List Named)) → found_behind w name (mapped (λ (ns : List Named). record { patterns = p ∷ []; names = ns }) o) ≡ first_of (fits w p) name (found_in w o)
  unfolding found_behind found_in find some_of
  found-next none = first-of-broken (fits w p)
  found-next (some ns) = fits-first [] ns (fits w p)

  found-last : found_behind w name (some (record { patterns = p ∷ []; names = [] })) ≡ first_of (fits w p) name (Some None)
  unfolding found_behind find some_of
  found-last = fits-first [] [] (fits w p)

-- what the answer of `pattern_at` says
record Told (w : Wanted) (at : ℕ) (text : List ℕ) (end : ℕ) (t : Bool) : Type 0 where
  there : has_pattern text ≡ true
  ends : end ≡ at + pattern_size text
  fit : t ≡ fits w (pattern_of text)

abbrev answered : Wanted → ℕ → List ℕ → PatternRead
answered w at text = record { end = at + pattern_size text; is_fit = fits w (pattern_of text) }

told : (w : Wanted) (at : ℕ) (text : List ℕ) (found : PatternRead) → pattern_answer w at text ≡ Some found → Told w at text found.end found.is_fit
unfolding pattern_answer
told w at text found e = go (has_pattern text) refl e
  where
    go : (x : Bool) → has_pattern text ≡ x → cond x (Some (answered w at text)) None ≡ Some found → Told w at text found.end found.is_fit
    go true h k =
        let y : answered w at text ≡ found = cc in
        record { there = h; ends = sym (ap (λ (r : PatternRead). r.end) y); fit = sym (ap (λ (r : PatternRead). r.is_fit) y) }
    go false h k = apart (cc)

told-not : (w : Wanted) (at : ℕ) (text : List ℕ) → pattern_answer w at text ≡ None → has_pattern text ≡ false
unfolding pattern_answer
told-not w at text e = go (has_pattern text) e
  where
    go : (x : Bool) → cond x (Some (answered w at text)) None ≡ None → x ≡ false
    go true k = apart (cc)
    go false k = refl

-- the pattern at place `at` ends at `end`, and t says whether it fits; read is the answer
module _ (f : List ℕ) (w : Wanted) (at : ℕ) (read : StdOption PatternRead) (e : read ≡ pattern_answer w at (drop at f)) where
  pub patterns-none : (name : Name) → read ≡ None → None ≡ found_behind w name (patterns_of at (drop at f))
  unfolding found_behind
  patterns-none name k = sym (rw (patterns-step at (drop at f), told-not w at (drop at f) (sym e ∙ k)))

  module _ (found : PatternRead) (k : read ≡ Some found) where
    abbrev end : ℕ
    end = found.end

    abbrev t : Bool
    t = found.is_fit

    says : Told w at (drop at f) end t
    says = told w at (drop at f) found (sym e ∙ k)

    end-inside : (at < end) × (end ≤ length f)
    end-inside =
        let s : pattern_size (drop at f) ≤ length (drop at f) = omega (arith, rw length-take at (pattern-inside (drop at f) says.there)) in
        omega (arith, says.ends, size-filled (drop at f), length-drop at f)

    pub pattern-index : (end ≡ length f → ⊥) → end < length f
    pattern-index m = omega (arith, end-inside)

    pub pattern-falls : (m : ℕ) → length f - at ≡ m → length f - end < m
    pattern-falls m h = omega (arith, end-inside)

    pub pattern-falls-more : (m next : ℕ) → length f - at ≡ m → next ≡ next_name f end → length f - next < m
    pattern-falls-more m next h g = by_eqb (λ s. next ≡ cond s (end + 1) end → length f - next < m) (get_or f end 0) dollar (λ c k. omega (arith, end-inside)) (λ c k. omega (arith, end-inside)) g

    module _ (name : Name) (r : StdOption (StdOption Name)) where
      abbrev p : Pattern
      p = pattern_of (drop at f)

      patterns-at : patterns_of at (drop at f) ≡
          cond (eqb (end - at) (length (drop at f))) (some (record { patterns = p ∷ []; names = [] }))
          (cond (eqb (get_or f end 0) opens)
          (mapped (λ (t : Tail). record { patterns = p ∷ t.patterns; names = t.names }) (patterns_of end (drop end f)))
          (mapped (λ (ns : List Named). record { patterns = p ∷ []; names = ns })
          (cond (eqb (get_or f end 0) dollar) (names_of (end + 1) (drop (end + 1) f)) (names_of end (drop end f)))))
      patterns-at =
          let a : pattern_size (drop at f) ≡ end - at = omega (arith, says.ends) in
          let b : at + (end - at) ≡ end = omega (arith, end-inside) in
          let c : at + (end - at + 1) ≡ end + 1 = omega (arith, end-inside) in
          patterns-step at (drop at f) ∙ rw (says.there, a, get_or-drop at f (end - at) 0, b, drop-drop (end - at) at f, b, drop-drop (end - at + 1) at f, c)

      pub patterns-last : end ≡ length f → r ≡ first_of t name (Some None) → r ≡ found_behind w name (patterns_of at (drop at f))
      patterns-last m h =
          let l : end - at ≡ length (drop at f) = rw length-drop (omega arith) in
          h ∙ sym (rw (patterns-at, eq-eqb (end - at) (length (drop at f)) l, says.fit) (found-last w name p))

      module _ (m : end ≡ length f → ⊥) (s : StdOption (StdOption Name)) (h : r ≡ first_of t name s) where
        further : eqb (end - at) (length (drop at f)) ≡ false
        further = ne_eqb (end - at) (length (drop at f)) (λ z. omega (arith, end-inside, length-drop at f))

        pub patterns-more : get_or f end 0 ≡ 60 → s ≡ found_behind w name (patterns_of end (drop end f)) → r ≡ found_behind w name (patterns_of at (drop at f))
        patterns-more b g = h ∙ sym (rw (patterns-at, further, b, says.fit, g) (found-more w name p (patterns_of end (drop end f))))

        pub patterns-next : (get_or f end 0 ≡ 60 → ⊥) → (next : ℕ) → next ≡ next_name f end → s ≡ found_in w (names_of next (drop next f)) → r ≡ found_behind w name (patterns_of at (drop at f))
        patterns-next b next i g =
            h ∙ sym (rw (patterns-at, further, ne_eqb (get_or f end 0) opens b, says.fit, g, i) (go (eqb (get_or f end 0) dollar)))
          where
            go : (c : Bool) → found_behind w name (mapped (λ (ns : List Named). record { patterns = p ∷ []; names = ns }) (cond c (names_of (end + 1) (drop (end + 1) f)) (names_of end (drop end f)))) ≡ first_of (fits w p) name (found_in w (names_of (cond c (end + 1) end) (drop (cond c (end + 1) end) f)))
            go true = found-next w name p (names_of (end + 1) (drop (end + 1) f))
            go false = found-next w name p (names_of end (drop end f))

pub ruleset turning-patterns =
    (tests, patterns-none, pattern-index, pattern-falls, pattern-falls-more, patterns-last, patterns-more, patterns-next)
