-- Repeats: codes that stand once, and the needs of the pass for a first byte (`search passing`), of all passes (`search all-passes`) and of codes that rise
-- (`search rising`). Assumes nothing.
use mathlib.Core.Path.{◌≡◌, refl, ap, sym, subst, ◌∙◌}
use mathlib.Core.List.{List, [], ◌∷◌, ◌++◌, append-nil, append_assoc}
use mathlib.Core.Logic.{⊎_elim}
use mathlib.Core.Bool.{Bool, true, false, cond, not, ◌&&◌, ◌||◌}
use Prim.Native.Nat.{ℕ, ◌+◌, ◌-◌, ◌%◌, ◌≤◌, ◌<◌}
use native.Mathlib.Nat.{sub-zero, eq-or-lt_of_le}
use native.Mathlib.Omega.{arith}
use lib.ListN.{length, take, drop, replicate, length-take}
use lib.Seq.{length-take-le}
use lib.Dec.{eqb, ltb, leb}
use borrow.Author.Tests.{eq-eqb, ne_eqb, lt-ltb, le-ltb, le-leb, lt-leb, ltb-true, leb-true}
use Rattle.base.specs.Lists.{every, some_of}
use Rattle.base.proofs.Laws.{tests, by_eqb, by-ltb, clash}
use Rattle.base.proofs.Loops.{and-true}
use Rattle.base.proofs.Lists.{gathered-append}
use Rattle.lines.specs.Lines.{Line, lines_of, skipped, cut_at}
use Rattle.lines.specs.declared.Cut.{Cut}
use Rattle.timetable.specs.Layout.{most_file_bytes}
use Rattle.sections.specs.Inner.Sections.{number_on, as_number, numbers, has_number}
use Rattle.sections.specs.declared.Section.TheVariants.{Classes}
use Rattle.sections.proofs.Walk.{Walked}
use Rattle.classes.specs.Inner.Passes.{before, codes, Upto, Next, sound, first_byte, first_byte_within, once, code_on, Repeats, PassAs, any, RepeatAs, no_code, LineCode, small, above_on, Rising, mark_words, marked, with_mark, Marks, repeats_on, marks_with, lesser}
use Rattle.classes.specs.declared.Pass.{Pass}
use Rattle.classes.proofs.Lines.{every_append, sound-held, sound-split, codes-first, codes-part, before-part, upto-end, walked-upto, walked-no, codes-skip, codes-held, here-sound, next-at}
use Rattle.classes.proofs.Marks.{marks-mine, marks-another, marks-tell, marks-none}

-- ---- codes that stand once

pub once-append : (t : ℕ → Bool) (a xs ys : List ℕ) → once t a (xs ++ ys) ≡ (once t a xs && once t (a ++ xs) ys)
unfolding once
once-append t a [] ys = rw append-nil refl
once-append t a (x ∷ xs) ys = rw (once-append t (a ++ (x ∷ [])) xs ys, append_assoc) (go (not (t x && has_number x a)) (once t (a ++ (x ∷ [])) xs) (once t (a ++ (x ∷ xs)) ys))
  where
    go : (u v z : Bool) → (u && (v && z)) ≡ ((u && v) && z)
    go true v z = refl
    go false v z = refl

pub once-front : (t : ℕ → Bool) (xs ys : List ℕ) → once t [] (xs ++ ys) ≡ true → once t [] xs ≡ true
once-front t xs ys e = (and-true (once t [] xs) (once t xs ys) (sym (once-append t [] xs ys) ∙ e)).0

-- one more, which is not tested or does not stand before
once_more : (t : ℕ → Bool) (ns : List ℕ) (c : ℕ) → once t [] ns ≡ true → (t c && has_number c ns) ≡ false → once t [] (ns ++ (c ∷ [])) ≡ true
unfolding once
once_more t ns c e z = once-append t [] ns (c ∷ []) ∙ rw (e, z) refl

-- a test that fewer pass
once-fewer : (t u : ℕ → Bool) → ((c : ℕ) → u c ≡ true → t c ≡ true) → (a ns : List ℕ) → once t a ns ≡ true → once u a ns ≡ true
unfolding once
once-fewer t u i a [] e = refl
once-fewer t u i a (c ∷ cs) e =
    let (x, y) = and-true (not (t c && has_number c a)) (once t (a ++ (c ∷ [])) cs) e in
    rw (go (t c) (u c) (has_number c a) (i c) x, once-fewer t u i (a ++ (c ∷ [])) cs y) refl
  where
    go : (p q h : Bool) → (q ≡ true → p ≡ true) → not (p && h) ≡ true → not (q && h) ≡ true
    go true true h i x = x
    go true false h i x = refl
    go false false h i x = refl
    go false true h i x = clash (i refl)

-- a test that only those pass that pass one of two
once-either : (t s u : ℕ → Bool) → ((c : ℕ) → u c ≡ true → (t c || s c) ≡ true) → (a ns : List ℕ) → once t a ns ≡ true → once s a ns ≡ true → once u a ns ≡ true
unfolding once
once-either t s u i a [] e d = refl
once-either t s u i a (c ∷ cs) e d =
    let (x, y) = and-true (not (t c && has_number c a)) (once t (a ++ (c ∷ [])) cs) e in
    let (v, w) = and-true (not (s c && has_number c a)) (once s (a ++ (c ∷ [])) cs) d in
    rw (go (t c) (s c) (u c) (has_number c a) (i c) x v, once-either t s u i (a ++ (c ∷ [])) cs y w) refl
  where
    go : (p r q h : Bool) → (q ≡ true → (p || r) ≡ true) → not (p && h) ≡ true → not (r && h) ≡ true → not (q && h) ≡ true
    go p r false h i x v = refl
    go true r true h i x v = x
    go false true true h i x v = v
    go false false true h i x v = clash (i refl)

pub numbers-append : (a b : List Line) → numbers Classes (a ++ b) ≡ numbers Classes a ++ numbers Classes b
unfolding numbers
numbers-append a b = gathered-append (λ (l : Line). as_number (number_on Classes l.text)) a b

-- ---- ranges of first bytes

within_low : (lo hi c : ℕ) → first_byte_within lo hi c ≡ true → lo ≤ first_byte c
unfolding first_byte_within
within_low lo hi c e = leb-true lo (first_byte c) (and-true (leb lo (first_byte c)) (ltb (first_byte c) hi) e).0

within-high : (lo hi c : ℕ) → first_byte_within lo hi c ≡ true → first_byte c < hi
unfolding first_byte_within
within-high lo hi c e = ltb-true (first_byte c) hi (and-true (leb lo (first_byte c)) (ltb (first_byte c) hi) e).1

within-is : (lo hi c : ℕ) → lo ≤ first_byte c → first_byte c < hi → first_byte_within lo hi c ≡ true
unfolding first_byte_within
within-is lo hi c l h = rw (le-leb lo (first_byte c) l, lt-ltb (first_byte c) hi h) refl

within-not : (lo hi c : ℕ) → hi ≤ first_byte c → first_byte_within lo hi c ≡ false
unfolding first_byte_within
within-not lo hi c h = rw (le-ltb (first_byte c) hi h) (go (leb lo (first_byte c)))
  where
    go : (t : Bool) → (t && false) ≡ false
    go true = refl
    go false = refl

within-under : (lo hi c : ℕ) → first_byte c < lo → first_byte_within lo hi c ≡ false
unfolding first_byte_within
within-under lo hi c h = rw (lt-leb lo (first_byte c) h) refl

within-less : (lo hi hi' : ℕ) → hi' ≤ hi → (c : ℕ) → first_byte_within lo hi' c ≡ true → first_byte_within lo hi c ≡ true
within-less lo hi hi' h c e = within-is lo hi c (within_low lo hi' c e) (omega (arith, within-high lo hi' c e))

within-join : (mid hi : ℕ) (c : ℕ) → first_byte_within 0 hi c ≡ true → (first_byte_within 0 mid c || first_byte_within mid hi c) ≡ true
within-join mid hi c e = by-ltb (λ _. (first_byte_within 0 mid c || first_byte_within mid hi c) ≡ true) (first_byte c) mid
    (λ h. rw (within-is 0 mid c (omega arith) h) refl)
    (λ h. rw (within-is mid hi c h (within-high 0 hi c e)) (go (first_byte_within 0 mid c)))
  where
    go : (t : Bool) → (t || true) ≡ true
    go true = refl
    go false = refl

-- where every code is small
once-small : (hi : ℕ) → 256 ≤ hi → (a ns : List ℕ) → small ns ≡ true → once (first_byte_within 0 hi) a ns ≡ true → once any a ns ≡ true
unfolding once small every
once-small hi l a [] s e = refl
once-small hi l a (c ∷ cs) s e =
    let (p, q) = and-true (ltb c no_code) (small cs) s in
    let (x, y) = and-true (not (first_byte_within 0 hi c && has_number c a)) (once (first_byte_within 0 hi) (a ++ (c ∷ [])) cs) e in
    let k : c < no_code = ltb-true c no_code p in
    rw (rw (within-is 0 hi c (omega arith) (omega arith)) at x, once-small hi l (a ++ (c ∷ [])) cs q y) refl

small-more : (ns : List ℕ) (c : ℕ) → small ns ≡ true → c < no_code → small (ns ++ (c ∷ [])) ≡ true
unfolding small every
small-more ns c s h = every_append (λ (x : ℕ). ltb x no_code) ns (c ∷ []) ∙ rw (s, lt-ltb c no_code h) refl

small-front : (xs ys : List ℕ) → small (xs ++ ys) ≡ true → small xs ≡ true
unfolding small
small-front xs ys s = (and-true (small xs) (small ys) (sym (every_append (λ (x : ℕ). ltb x no_code) xs ys) ∙ s)).0

-- ---- the pass for first byte b: after the codes ns

pub record Passing (b : ℕ) (ns : List ℕ) (next : ℕ) (m : List ℕ) : Type 0 where
  pub on : b < next
  pub most : next ≤ 256
  pub marks : Marks b ns m
  pub bytes : small ns ≡ true
  pub apart : once (first_byte_within b next) [] ns ≡ true

lesser-le : (b next x : ℕ) → lesser b next x ≤ next
lesser-le b next x = by-ltb (λ t. cond t (cond (ltb x next) x next) next ≤ next) b x (λ h. by-ltb (λ t. cond t x next ≤ next) x next (λ k. omega arith) (λ k. omega arith)) (λ h. omega arith)

lesser-on : (b next x : ℕ) → b < next → b < lesser b next x
lesser-on b next x l = by-ltb (λ t. b < cond t (cond (ltb x next) x next) next) b x (λ h. by-ltb (λ t. b < cond t x next) x next (λ k. omega arith) (λ k. omega arith)) (λ h. omega arith)

lesser-mine : (b next x : ℕ) → b < x → lesser b next x ≤ x
lesser-mine b next x l = rw (lt-ltb b x l) (by-ltb (λ t. cond t x next ≤ x) x next (λ k. omega arith) (λ k. omega arith))

lesser-far : (b next x : ℕ) → next ≤ x → lesser b next x ≡ next
lesser-far b next x l = by-ltb (λ t. cond t (cond (ltb x next) x next) next ≡ next) b x (λ h. rw (le-ltb x next l) refl) (λ h. refl)

-- a code more
module _ (b next c : ℕ) (ns m : List ℕ) (p : Passing b ns next m) (l : c < no_code) where
  abbrev next' : ℕ
  next' = lesser b next (first_byte c)

  fewer : once (first_byte_within b next') [] ns ≡ true
  fewer = once-fewer (first_byte_within b next) (first_byte_within b next') (within-less b next next' (lesser-le b next (first_byte c))) [] ns p.apart

  passing-mine : first_byte c ≡ b → marked m (c % 65536) ≡ false → Passing b (ns ++ (c ∷ [])) next' (with_mark m (c % 65536))
  passing-mine e z = record {
    on = lesser-on b next (first_byte c) p.on;
    most = omega (arith, p.most, lesser-le b next (first_byte c));
    marks = marks-mine b ns m c p.marks e;
    bytes = small-more ns c p.bytes l;
    apart = once_more (first_byte_within b next') ns c fewer (rw (sym (marks-tell b ns m c p.marks e) ∙ z) (go (first_byte_within b next' c)));
  }
    where
      go : (t : Bool) → (t && false) ≡ false
      go true = refl
      go false = refl

  passing-other : (first_byte c ≡ b → ⊥) → Passing b (ns ++ (c ∷ [])) next' m
  passing-other e = record {
    on = lesser-on b next (first_byte c) p.on;
    most = omega (arith, p.most, lesser-le b next (first_byte c));
    marks = marks-another b ns m c p.marks e;
    bytes = small-more ns c p.bytes l;
    apart = once_more (first_byte_within b next') ns c fewer (ap (λ (t : Bool). t && has_number c ns) outside);
  }
    where
      outside : first_byte_within b next' c ≡ false
      outside = by-ltb (λ _. first_byte_within b next' c ≡ false) b (first_byte c)
          (λ h. within-not b next' c (lesser-mine b next (first_byte c) h))
          (λ h. within-under b next' c (below h))
        where
          below : first_byte c ≤ b → first_byte c < b
          below h = ⊎_elim (λ k. absurd (e k)) (λ k. k) (eq-or-lt_of_le h)

pub passing-first : (f : List ℕ) (b : ℕ) (m : List ℕ) → b < 256 → m ≡ replicate mark_words 0 → Passing b (codes f 0) 256 m
unfolding once small every
passing-first f b m h e = rw codes-first (record { on = h; most = omega arith; marks = marks-none b m e; bytes = refl; apart = refl })

-- the walk: r is the line cut at `at`, c its code, t whether it repeats one
module _ (f : List ℕ) (at n : ℕ) (r : Cut) (b next c : ℕ) (m : List ℕ) (t : Bool) (h : at < length f) (e : r ≡ cut_at f at n) (w : Walked f at n) (s : sound (lines_of f) ≡ true) (p : Passing b (codes f at) next m)
    (q : LineCode (take (r.stop - at) (drop at f)) c) (d : t ≡ repeats_on b c m) where
  abbrev text : List ℕ
  text = take (r.stop - at) (drop at f)

  pub passing-turn : (m' : List ℕ) (x : ℕ) → t ≡ false → m' ≡ marks_with b c m → x ≡ lesser b next (first_byte c) → Passing b (codes f r.next) x m'
  unfolding repeats_on marks_with
  passing-turn m' x z y o = rw (y, o) (go (skipped text) refl)
    where
      held : skipped text ≡ false → cond (eqb (first_byte c) b) (marked m (c % 65536)) false ≡ false → Passing b (codes f at ++ (c ∷ [])) (lesser b next (first_byte c)) (cond (eqb (first_byte c) b) (with_mark m (c % 65536)) m)
      held k = by_eqb (λ u. cond u (marked m (c % 65536)) false ≡ false → Passing b (codes f at ++ (c ∷ [])) (lesser b next (first_byte c)) (cond u (with_mark m (c % 65536)) m)) (first_byte c) b
          (λ v i. passing-mine b next c (codes f at) m p (q.small k) v i) (λ v i. passing-other b next c (codes f at) m p (q.small k) v)

      go : (u : Bool) → skipped text ≡ u → Passing b (codes f r.next) (lesser b next (first_byte c)) (cond (eqb (first_byte c) b) (with_mark m (c % 65536)) m)
      go true k =
          let far : first_byte c ≡ 256 = ap first_byte (q.skip k) in
          rw (codes-skip f at n w r h e k, lesser-far b next (first_byte c) (omega (arith, far, p.most)), ne_eqb (first_byte c) b (λ v. omega (arith, far, v, p.on, p.most))) p
      go false k = rw (codes-held f at n w r h e s k, ← (q.held k)) (held k (sym d ∙ z))

  pub passing-out : t ≡ true → at ≤ length f → PassAs f b (record { at = at; no = n; next = next })
  unfolding repeats_on code_on
  passing-out z l = record {
    upto = walked-upto f at n w l;
    number = walked-no f at n w;
    on = p.on;
    bytes = p.bytes;
    apart = p.apart;
    repeat = λ _. next-at f at n w r h e (Repeats (codes f at)) (found (skipped text) refl);
  }
    where
      mine : skipped text ≡ false → cond (eqb (first_byte c) b) (marked m (c % 65536)) false ≡ true → Repeats (codes f at) (record { no = n; start = at; text = text })
      mine k = by_eqb (λ u. cond u (marked m (c % 65536)) false ≡ true → Repeats (codes f at) (record { no = n; start = at; text = text })) (first_byte c) b
          (λ v i. record { held = sound-held text (here-sound f at n w r h e s) k; earlier = rw (← (q.held k)) (sym (marks-tell b (codes f at) m c p.marks v) ∙ i) })
          (λ v i. clash i)

      found : (u : Bool) → skipped text ≡ u → Repeats (codes f at) (record { no = n; start = at; text = text })
      found true k =
          let far : first_byte c ≡ 256 = ap first_byte (q.skip k) in
          clash (sym (ap (λ (u : Bool). cond u (marked m (c % 65536)) false) (ne_eqb (first_byte c) b (λ v. omega (arith, far, v, p.on, p.most)))) ∙ sym d ∙ z)
      found false k = mine k (sym d ∙ z)

pub passing-done : (f : List ℕ) (at n b next : ℕ) (m : List ℕ) → length f ≤ at → at ≤ length f → Walked f at n → Passing b (codes f at) next m → PassAs f b (record { at = at; no = n; next = next })
passing-done f at n b next m h l w p = record {
  upto = walked-upto f at n w l;
  number = walked-no f at n w;
  on = p.on;
  bytes = p.bytes;
  apart = p.apart;
  repeat = λ k. absurd (omega arith);
}

pub marks-length : (b : ℕ) (ns : List ℕ) (next : ℕ) (m : List ℕ) → Passing b ns next m → length m ≡ mark_words
marks-length b ns next m p = p.marks.size

pub marks-same : (b : ℕ) (ns : List ℕ) (next : ℕ) (m m₀ : List ℕ) → m₀ ≡ replicate mark_words 0 → Passing b ns next m → length m ≡ length m₀
marks-same b ns next m m₀ e p = rw e p.marks.size

pub marks-kept : (b : ℕ) (ns : List ℕ) (next : ℕ) (m' m m₀ : List ℕ) → length m' ≡ length m → m₀ ≡ replicate mark_words 0 → Passing b ns next m → length m' ≡ length m₀
marks-kept b ns next m' m m₀ k e p = k ∙ marks-same b ns next m m₀ e p

pub ruleset passing = (tests, marks-kept, passing-first, passing-turn, passing-out, passing-done, marks-length, marks-same)

-- ---- codes that rise: none before is as high as `below`

pub record Risen (ns : List ℕ) (below : ℕ) : Type 0 where
  pub most : below ≤ no_code
  pub lower : every (λ (c : ℕ). ltb c below) ns ≡ true
  pub apart : once any [] ns ≡ true

not_lower : (ns : List ℕ) (x : ℕ) → every (λ (c : ℕ). ltb c x) ns ≡ true → has_number x ns ≡ false
unfolding every some_of
not_lower [] x e = refl
not_lower (n ∷ ns) x e =
    let (a, b) = and-true (ltb n x) (every (λ (c : ℕ). ltb c x) ns) e in
    rw (ne_eqb n x (λ q. omega (arith, ltb-true n x a, q)), not_lower ns x b) refl

lower-more : (ns : List ℕ) (x y : ℕ) → x ≤ y → every (λ (c : ℕ). ltb c x) ns ≡ true → every (λ (c : ℕ). ltb c y) ns ≡ true
unfolding every
lower-more [] x y h e = refl
lower-more (n ∷ ns) x y h e =
    let (a, b) = and-true (ltb n x) (every (λ (c : ℕ). ltb c x) ns) e in
    rw (lt-ltb n y (omega (arith, ltb-true n x a)), lower-more ns x y h b) refl

risen-more : (ns : List ℕ) (below c : ℕ) → Risen ns below → below ≤ c → c < no_code → Risen (ns ++ (c ∷ [])) (c + 1)
unfolding every
risen-more ns below c k h l = record {
  most = omega arith;
  lower = every_append (λ (x : ℕ). ltb x (c + 1)) ns (c ∷ []) ∙ rw (lower-more ns below (c + 1) (omega arith) k.lower, lt-ltb c (c + 1) (omega arith)) refl;
  apart = once_more any ns c k.apart (not_lower ns c (lower-more ns below c h k.lower));
}

pub risen-first : (f : List ℕ) → Risen (codes f 0) 0
unfolding once every
risen-first f = rw codes-first (record { most = omega arith; lower = refl; apart = refl })

pub risen-turn : (f : List ℕ) (at n : ℕ) (r : Cut) (below c x : ℕ) → at < length f → r ≡ cut_at f at n → Walked f at n → sound (lines_of f) ≡ true → Risen (codes f at) below
    → LineCode (take (r.stop - at) (drop at f)) c → below ≤ c → x ≡ above_on c below → Risen (codes f r.next) x
risen-turn f at n r below c x h e w s k q l y = rw y (go (skipped (take (r.stop - at) (drop at f))) refl)
  where
    go : (u : Bool) → skipped (take (r.stop - at) (drop at f)) ≡ u → Risen (codes f r.next) (cond (eqb c no_code) below (c + 1))
    go true i = rw (codes-skip f at n w r h e i, eq-eqb c no_code (q.skip i)) k
    go false i = rw (codes-held f at n w r h e s i, ← (q.held i), ne_eqb c no_code (λ z. omega (arith, z, q.small i))) (risen-more (codes f at) below c k l (q.small i))

pub risen-out : (f : List ℕ) → Rising f false
risen-out f = record { apart = λ e. clash e }

pub risen-done : (f : List ℕ) (at below : ℕ) → length f ≤ at → at ≤ length f → Risen (codes f at) below → Rising f true
risen-done f at below h l k = let d : at ≡ length f = omega arith in record { apart = λ _. rw d at k.apart }

pub code-most : (text : List ℕ) (c : ℕ) → LineCode text c → c ≤ no_code
code-most text c q = q.most

pub risen-whole : (f : List ℕ) (t : Bool) (x : ℕ) → t ≡ true → Rising f t → RepeatAs f (record { at = length f; no = x })
risen-whole f t x z k = record { upto = upto-end f; apart = k.apart z; number = λ l. absurd (omega arith); repeat = λ l. absurd (omega arith) }

pub above-none : (c below : ℕ) → c ≡ 16777216 → below ≡ above_on c below
above-none c below e = rw (eq-eqb c 16777216 e) refl

pub above-one : (c below : ℕ) → (c ≡ 16777216 → ⊥) → c + 1 ≡ above_on c below
above-one c below e = rw (ne_eqb c 16777216 e) refl

pub ruleset rising = (tests, risen-first, risen-turn, risen-out, risen-done, code-most, risen-whole, above-none, above-one)

-- ---- all passes: what is found after those for the first bytes below the next

pub record Passed (f : List ℕ) (r : Pass) : Type 0 where
  pub upto : Upto f r.at
  pub number : r.no ≡ length (before f r.at) + 1
  pub bytes : small (codes f r.at) ≡ true
  pub apart : once (first_byte_within 0 r.next) [] (codes f r.at) ≡ true
  pub repeat : r.at < length f → Next f r.at (Repeats (codes f r.at))

module _ (f : List ℕ) where
  pub passed_first : (r : Pass) → PassAs f 0 r → Passed f r
  passed_first r p = record { upto = p.upto; number = p.number; bytes = p.bytes; apart = p.apart; repeat = p.repeat }

  module _ (q : Pass) (o : Passed f q) where
    abbrev g : List ℕ
    g = take q.at f

    size : length g ≡ q.at
    size = length-take-le q.at f o.upto.inside

    whole : lines_of g ≡ before f q.at
    unfolding before
    whole = refl

    -- the part's lines, and those behind it
    longer : (xs : List Line) → lines_of g ≡ xs → lines_of f ≡ xs ++ o.upto.rest
    longer xs e = o.upto.split ∙ ap (λ (ls : List Line). ls ++ o.upto.rest) (sym whole ∙ e)

    module _ (r : Pass) (p : PassAs g q.next r) where
      low : r.at ≤ q.at
      low = omega (arith, p.upto.inside, size)

      same : before g r.at ≡ before f r.at
      same = before-part f r.at q.at low

      same_codes : codes g r.at ≡ codes f r.at
      same_codes = codes-part f r.at q.at low

      split : lines_of f ≡ before f r.at ++ (p.upto.rest ++ o.upto.rest)
      split = longer _ p.upto.split ∙ append_assoc (before g r.at) p.upto.rest o.upto.rest ∙ ap (λ (ls : List Line). ls ++ (p.upto.rest ++ o.upto.rest)) same

      -- the codes before are the first of those that were before
      more : codes f q.at ≡ codes f r.at ++ numbers Classes p.upto.rest
      unfolding codes
      more = ap (numbers Classes) (sym whole ∙ p.upto.split ∙ ap (λ (ls : List Line). ls ++ p.upto.rest) same) ∙ numbers-append (before f r.at) p.upto.rest

      fewer-codes : once (first_byte_within 0 q.next) [] (codes f r.at) ≡ true
      fewer-codes = once-front (first_byte_within 0 q.next) (codes f r.at) (numbers Classes p.upto.rest) (sym (ap (once (first_byte_within 0 q.next) []) more) ∙ o.apart)

      found : r.at < length f → Next f r.at (Repeats (codes f r.at))
      found l = by-ltb (λ _. Next f r.at (Repeats (codes f r.at))) r.at q.at inner outer
        where
          inner : r.at < q.at → Next f r.at (Repeats (codes f r.at))
          inner k =
              let x = p.repeat (omega (arith, size)) in
              record {
                line = x.line;
                rest = x.rest ++ o.upto.rest;
                split = longer _ x.split ∙ append_assoc (before g r.at) (x.line ∷ x.rest) o.upto.rest ∙ ap (λ (ls : List Line). ls ++ (x.line ∷ (x.rest ++ o.upto.rest))) same;
                number = x.number ∙ ap (λ (ls : List Line). length ls + 1) same;
                says = subst (λ (ns : List ℕ). Repeats ns x.line) same_codes x.says;
              }

          outer : q.at ≤ r.at → Next f r.at (Repeats (codes f r.at))
          outer k = let d : q.at ≡ r.at = omega (arith, low) in subst (λ (i : ℕ). Next f i (Repeats (codes f i))) d (o.repeat (omega arith))

      passed-next : Passed f r
      passed-next = record {
        upto = record { inside = omega (arith, low, o.upto.inside); rest = p.upto.rest ++ o.upto.rest; split = split };
        number = p.number ∙ ap (λ (ls : List Line). length ls + 1) same;
        bytes = rw same_codes at p.bytes;
        apart = once-either (first_byte_within 0 q.next) (first_byte_within q.next r.next) (first_byte_within 0 r.next) (within-join q.next r.next) [] (codes f r.at) fewer-codes (rw same_codes at p.apart);
        repeat = found;
      }

    pub passed-again : (r : Pass) → PassAs (take (q.at - 0) f) q.next r → Passed f r
    passed-again r p = passed-next r (rw sub-zero at p)

    pub part-inside : q.at ≤ length f
    part-inside = o.upto.inside

    pub part-short : length f ≤ most_file_bytes → length (take (q.at - 0) f) ≤ most_file_bytes
    part-short h = omega (arith, length-take (q.at - 0) f)

    pub part_sound : sound (lines_of f) ≡ true → sound (lines_of (take (q.at - 0) f)) ≡ true
    unfolding before
    part_sound s = rw sub-zero (sound-split (before f q.at) o.upto.rest (sym (ap sound o.upto.split) ∙ s)).0

    pub passed-done : 256 ≤ q.next → RepeatAs f (record { at = q.at; no = q.no })
    passed-done h = record {
      upto = o.upto;
      apart = once-small q.next h [] (codes f q.at) o.bytes o.apart;
      number = λ _. o.number;
      repeat = o.repeat;
    }

pub pass-less : (f : List ℕ) (b : ℕ) (r : Pass) → PassAs f b r → b < 256 → 256 - r.next < 256 - b
pass-less f b r p h = omega (arith, p.on)

pub ruleset all-passes = (tests, passed_first, passed-again, part-inside, part-short, part_sound, passed-done, pass-less)
