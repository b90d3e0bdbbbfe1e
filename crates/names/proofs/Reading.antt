-- The reader finds exactly the grammatical readings, and there is only one. Assumes nothing.
use mathlib.Core.Path.{◌≡◌, refl, sym, ◌∙◌}
use mathlib.Core.List.{List, [], ◌∷◌, ◌++◌, append-nil}
use mathlib.Core.Bool.{Bool, true, false, cond, ◌&&◌}
use mathlib.Core.Option.{Option, none, some}
use Prim.Native.Nat.{ℕ, zero, suc, ◌+◌, ◌≤◌, ◌<◌}
use native.Mathlib.Nat.{add-zero}
use native.Mathlib.Numerals.{add-one}
use native.Mathlib.Omega.{arith}
use lib.ListN.{length, get_or, take, drop, length-append, length-take, take-append-drop}
use lib.Seq.{split_at, drop-append_seam, drop-append-add, get_or-append_seam, get_or-append-add, length-take-le, take_all}
use lib.Dec.{eqb, leb}
use borrow.Author.Tests.{eq-eqb, ne_eqb, le-leb, leb-true, eqb-true, eqb-false}
use Rattle.base.specs.Lists.{every}
use Rattle.base.proofs.Laws.{clash, apart, by_eqb}
use Rattle.names.specs.Grammar.{dollar, opens, is_plain, Pattern, Named, named, IsName, IsPattern, IsNames, IsPatterns, last_name, then-name, then-patterns, last-pattern, more-patterns, dollar-name, name-at-once}
use Rattle.names.specs.Names.{span, has_pattern, pattern_of, pattern_size, Tail, mapped, names_from, patterns_from, names_of, patterns_of, most_name_bytes, name_list}
use Rattle.names.proofs.Spans.{span-le, span-every, span-all, span-ends, inside, pattern-found, pattern-inside, pattern-long, pattern-there, pattern-read, pattern-size, pattern-opens}

-- ---- what an answer of the reader's tests gives

-- one of two branches gave it
branch : {X G : Type 0} (t : Bool) (a b : Option X) (x : X) → cond t a b ≡ some x → (t ≡ true → a ≡ some x → G) → (t ≡ false → b ≡ some x → G) → G
branch true a b x e p q = p refl e
branch false a b x e p q = q refl e

-- none is no answer
no-some : {X Y : Type 0} (x : X) → none ≡ some x → Y
no-some x e = apart (cc)

-- what a further reading gave
under : {X Y : Type 0} (f : X → Y) (o : Option X) (y : Y) → mapped f o ≡ some y → (x : X) × (o ≡ some x) × (f x ≡ y)
under f none y e = no-some y e
under f (some x) y e = (x, refl, cc)

-- ---- what the reader reads is grammatical

-- a name of `size` bytes at the front of a text
module _ (at : ℕ) (text : List ℕ) (size : ℕ) (le : size ≤ length text) (pl : every is_plain (take size text) ≡ true) (pos : (size ≡ 0) → ⊥) where
  long : length (take size text) ≡ size
  long = length-take-le size text le

  a-name : IsName (take size text)
  a-name = record { filled = rw long (omega arith); plain = pl }

  cut : get_or text size 0 ≡ dollar → take size text ++ (dollar ∷ drop (size + 1) text) ≡ text
  cut e = sym (rw (add-one, ← e) (split_at text size 0 (inside text size 35 e)))

  name-last : size ≡ length text → IsNames at text (named at size [] ∷ [])
  name-last e =
      let whole : take size text ≡ text = take_all size text (omega arith) in
      rw (long, whole) at (last_name {at = at} a-name)

  name-name : get_or text size 0 ≡ dollar → (ns : List Named) → IsNames (at + (size + 1)) (drop (size + 1) text) ns → IsNames at text (named at size [] ∷ ns)
  name-name e ns h =
      let k : IsNames (at + (length (take size text) + 1)) (drop (size + 1) text) ns = rw long h in
      rw (long, cut e) at (then-name a-name k)

  name-patterns : get_or text size 0 ≡ dollar → (t : Tail) → IsPatterns (at + (size + 1)) (drop (size + 1) text) t.patterns t.names → IsNames at text (named at size t.patterns ∷ t.names)
  name-patterns e t h =
      let k : IsPatterns (at + (length (take size text) + 1)) (drop (size + 1) text) t.patterns t.names = rw long h in
      rw (long, cut e) at (then-patterns a-name k)

-- the pattern at the front of a text
module _ (at : ℕ) (text : List ℕ) (h : has_pattern text ≡ true) where
  fits_in : length (take (pattern_size text) text) ≡ pattern_size text
  fits_in = pattern-inside text h

  size-le : pattern_size text ≤ length text
  size-le = omega (arith, rw length-take at fits_in)

  cut-pattern : get_or text (pattern_size text) 0 ≡ dollar → take (pattern_size text) text ++ (dollar ∷ drop (pattern_size text + 1) text) ≡ text
  cut-pattern e = sym (rw (add-one, ← e) (split_at text (pattern_size text) 0 (inside text (pattern_size text) 35 e)))

  pattern-last : pattern_size text ≡ length text → IsPatterns at text (pattern_of text ∷ []) []
  pattern-last e =
      let whole : take (pattern_size text) text ≡ text = take_all (pattern_size text) text (omega arith) in
      rw whole at (last-pattern {at = at} (pattern-found text h))

  pattern-pattern : (t : Tail) → IsPatterns (at + pattern_size text) (drop (pattern_size text) text) t.patterns t.names → IsPatterns at text (pattern_of text ∷ t.patterns) t.names
  pattern-pattern t g =
      let k : IsPatterns (at + length (take (pattern_size text) text)) (drop (pattern_size text) text) t.patterns t.names = rw fits_in g in
      rw take-append-drop at (more-patterns (pattern-found text h) k)

  pattern-dollar : get_or text (pattern_size text) 0 ≡ dollar → (ns : List Named) → IsNames (at + (pattern_size text + 1)) (drop (pattern_size text + 1) text) ns → IsPatterns at text (pattern_of text ∷ []) ns
  pattern-dollar e ns g =
      let k : IsNames (at + (length (take (pattern_size text) text) + 1)) (drop (pattern_size text + 1) text) ns = rw fits_in g in
      rw (cut-pattern e) at (dollar-name (pattern-found text h) k)

  pattern-name : (ns : List Named) → IsNames (at + pattern_size text) (drop (pattern_size text) text) ns → IsPatterns at text (pattern_of text ∷ []) ns
  pattern-name ns g =
      let k : IsNames (at + length (take (pattern_size text) text)) (drop (pattern_size text) text) ns = rw fits_in g in
      rw take-append-drop at (name-at-once (pattern-found text h) k)

abbrev NamesRight : ℕ → Type 0
NamesRight left = (at : ℕ) (text : List ℕ) (ns : List Named) → names_from left at text ≡ some ns → IsNames at text ns

abbrev PatternsRight : ℕ → Type 0
PatternsRight left = (at : ℕ) (text : List ℕ) (t : Tail) → patterns_from left at text ≡ some t → IsPatterns at text t.patterns t.names

some_is : {X : Type 0} (x y : X) → some x ≡ some y → x ≡ y
some_is x y e = cc

names-right : (left : ℕ) → NamesRight left → PatternsRight left → NamesRight (suc left)
unfolding names_from patterns_from
names-right left f g at text ns h =
    branch (eqb size 0) _ _ ns h (λ a k. no-some ns k)
    (λ a k. branch (eqb size (length text)) _ _ ns k (λ b m. rw (sym (some_is (named at size [] ∷ []) ns m)) (name-last at text size le pl (nonzero a) (eqb-true size (length text) b)))
    (λ b m. branch (eqb (get_or text size 0) dollar) _ _ ns m
    (λ c o. branch (eqb (get_or text (size + 1) 0) opens) _ _ ns o
    (λ d q.
    let u = under (λ (t : Tail). named at size t.patterns ∷ t.names) (patterns_from left (at + (size + 1)) (drop (size + 1) text)) ns q in
    rw (sym u.2) (name-patterns at text size le pl (nonzero a) (eqb-true (get_or text size 0) dollar c) u.0 (g (at + (size + 1)) (drop (size + 1) text) u.0 u.1)))
    (λ d q.
    let u = under (λ (x : List Named). named at size [] ∷ x) (names_from left (at + (size + 1)) (drop (size + 1) text)) ns q in
    rw (sym u.2) (name-name at text size le pl (nonzero a) (eqb-true (get_or text size 0) dollar c) u.0 (f (at + (size + 1)) (drop (size + 1) text) u.0 u.1))))
    (λ c o. no-some ns o)))
  where
    size : ℕ
    size = span is_plain text

    le : size ≤ length text
    le = span-le is_plain text

    pl : every is_plain (take size text) ≡ true
    pl = span-every is_plain text

    nonzero : eqb size 0 ≡ false → size ≡ 0 → ⊥
    nonzero e = eqb-false size 0 e

patterns-right : (left : ℕ) → NamesRight left → PatternsRight left → PatternsRight (suc left)
unfolding names_from patterns_from
patterns-right left f g at text t h =
    branch (has_pattern text) _ _ t h
    (λ a k. branch (eqb size (length text)) _ _ t k (λ b m. rw (sym (some_is (record { patterns = p ∷ []; names = [] }) t m)) (pattern-last at text a (eqb-true size (length text) b)))
    (λ b m. branch (eqb (get_or text size 0) opens) _ _ t m
    (λ c o.
    let u = under (λ (x : Tail). record { patterns = p ∷ x.patterns; names = x.names }) (patterns_from left (at + size) (drop size text)) t o in
    rw (sym u.2) (pattern-pattern at text a u.0 (g (at + size) (drop size text) u.0 u.1)))
    (λ c o.
    let u = under (λ (ns : List Named). record { patterns = p ∷ []; names = ns }) (cond (eqb (get_or text size 0) dollar) (names_from left (at + (size + 1)) (drop (size + 1) text)) (names_from left (at + size) (drop size text))) t o in
    rw (sym u.2)
    (branch (eqb (get_or text size 0) dollar) _ _ u.0 u.1
    (λ d q. pattern-dollar at text a (eqb-true (get_or text size 0) dollar d) u.0 (f (at + (size + 1)) (drop (size + 1) text) u.0 q))
    (λ d q. pattern-name at text a u.0 (f (at + size) (drop size text) u.0 q))))))
    (λ a k. no-some t k)
  where
    size : ℕ
    size = pattern_size text

    p : Pattern
    p = pattern_of text

mutual
  unfolding names_from patterns_from

  names-read : (left : ℕ) → NamesRight left
  names-read zero = λ at text ns h. no-some ns h
  names-read (suc left) = names-right left (names-read left) (patterns-read left)

  patterns-read : (left : ℕ) → PatternsRight left
  patterns-read zero = λ at text t h. no-some t h
  patterns-read (suc left) = patterns-right left (names-read left) (patterns-read left)

-- ---- what is grammatical is read

pub plain-opens : (b : ℕ) → is_plain b ≡ true → eqb b opens ≡ false
plain-opens b h = by_eqb (λ t. t ≡ false) b opens (λ e. clash (rw e at h)) (λ n. refl)

pub plain-dollar : (b : ℕ) → is_plain b ≡ true → eqb b dollar ≡ false
plain-dollar b h = by_eqb (λ t. t ≡ false) b dollar (λ e. clash (rw e at h)) (λ n. refl)

name-front : (n rest : List ℕ) → IsName n → is_plain (get_or (n ++ rest) 0 0) ≡ true
unfolding every
name-front [] rest h = absurd (omega (arith, h.filled))
name-front (b ∷ n) rest h = go (is_plain b) h.plain
  where
    go : (t : Bool) → (t && every is_plain n) ≡ true → t ≡ true
    go true e = refl
    go false e = clash e

-- a name list begins with a byte of a name, patterns with "<"
names-front : {at : ℕ} {text : List ℕ} {ns : List Named} → IsNames at text ns → is_plain (get_or text 0 0) ≡ true
names-front (last_name {n = n} h) = rw append-nil at (name-front n [] h)
names-front (then-name {n = n} {rest = rest} h k) = name-front n (dollar ∷ rest) h
names-front (then-patterns {n = n} {rest = rest} h k) = name-front n (dollar ∷ rest) h

pub names-filled : {at : ℕ} {text : List ℕ} {ns : List Named} → IsNames at text ns → 0 < length text
names-filled (last_name {n = n} h) = h.filled
names-filled (then-name {n = n} {rest = rest} h k) = rw length-append (omega arith)
names-filled (then-patterns {n = n} {rest = rest} h k) = rw length-append (omega arith)

pub patterns-front : {at : ℕ} {text : List ℕ} {ps : List Pattern} {ns : List Named} → IsPatterns at text ps ns → get_or text 0 0 ≡ opens
patterns-front (last-pattern {t = t} {p = p} h) = rw append-nil at (pattern-opens t [] p h)
patterns-front (more-patterns {t = t} {rest = rest} {p = p} h k) = pattern-opens t rest p h
patterns-front (dollar-name {t = t} {rest = rest} {p = p} h k) = pattern-opens t (dollar ∷ rest) p h
patterns-front (name-at-once {t = t} {rest = rest} {p = p} h k) = pattern-opens t rest p h

-- one name more
module _ (left at : ℕ) (n : List ℕ) (h : IsName n) where
  filled-name : eqb (length n) 0 ≡ false
  filled-name = ne_eqb (length n) 0 (λ e. omega (arith, h.filled))

  all-last : names_from (suc left) at n ≡ some (named at (length n) [] ∷ [])
  unfolding names_from patterns_from
  all-last = rw (span-all is_plain n h.plain, filled-name, eq-eqb (length n) (length n) refl)

  module _ (rest : List ℕ) where
    span-is : span is_plain (n ++ (dollar ∷ rest)) ≡ length n
    span-is = span-ends is_plain n dollar rest h.plain refl

    goes_on : eqb (length n) (length (n ++ (dollar ∷ rest))) ≡ false
    goes_on = ne_eqb (length n) (length (n ++ (dollar ∷ rest))) (λ e. omega (arith, length-append n (dollar ∷ rest)))

    all-name : (ns : List Named) → is_plain (get_or rest 0 0) ≡ true → names_from left (at + (length n + 1)) rest ≡ some ns → names_from (suc left) at (n ++ (dollar ∷ rest)) ≡ some (named at (length n) [] ∷ ns)
    unfolding names_from patterns_from
    all-name ns b e = rw (span-is, filled-name, goes_on, get_or-append_seam, get_or-append-add n (dollar ∷ rest) 1 0, plain-opens (get_or rest 0 0) b, drop-append-add n (dollar ∷ rest) 1, e)

    all-patterns : (t : Tail) → get_or rest 0 0 ≡ opens → patterns_from left (at + (length n + 1)) rest ≡ some t → names_from (suc left) at (n ++ (dollar ∷ rest)) ≡ some (named at (length n) t.patterns ∷ t.names)
    unfolding names_from patterns_from
    all-patterns t b e = rw (span-is, filled-name, goes_on, get_or-append_seam, get_or-append-add n (dollar ∷ rest) 1 0, b, drop-append-add n (dollar ∷ rest) 1, e)

-- one pattern more
module _ (left at : ℕ) (t : List ℕ) (p : Pattern) (h : IsPattern t p) where
  all-last-pattern : patterns_from (suc left) at t ≡ some (record { patterns = p ∷ []; names = [] })
  unfolding names_from patterns_from
  all-last-pattern =
      rw
      (rw append-nil at (pattern-there t [] p h), rw append-nil at (pattern-size t [] p h), rw append-nil at (pattern-read t [] p h), eq-eqb (length t) (length t) refl)

  module _ (rest : List ℕ) (l : 0 < length rest) where
    pattern-goes-on : eqb (length t) (length (t ++ rest)) ≡ false
    pattern-goes-on = ne_eqb (length t) (length (t ++ rest)) (λ e. omega (arith, length-append t rest))

    behind : get_or (t ++ rest) (length t) 0 ≡ get_or rest 0 0
    behind = rw add-zero at (get_or-append-add t rest 0 0)

    all_more : (x : Tail) → get_or rest 0 0 ≡ opens → patterns_from left (at + length t) rest ≡ some x → patterns_from (suc left) at (t ++ rest) ≡ some (record { patterns = p ∷ x.patterns; names = x.names })
    unfolding names_from patterns_from
    all_more x b e = rw (pattern-there t rest p h, pattern-size t rest p h, pattern-read t rest p h, pattern-goes-on, behind, b, drop-append_seam, e)

    all-at-once : (ns : List Named) → is_plain (get_or rest 0 0) ≡ true → names_from left (at + length t) rest ≡ some ns → patterns_from (suc left) at (t ++ rest) ≡ some (record { patterns = p ∷ []; names = ns })
    unfolding names_from patterns_from
    all-at-once ns b e = rw (pattern-there t rest p h, pattern-size t rest p h, pattern-read t rest p h, pattern-goes-on, behind, plain-opens (get_or rest 0 0) b, plain-dollar (get_or rest 0 0) b, drop-append_seam, e)

  all-dollar : (rest : List ℕ) (ns : List Named) → names_from left (at + (length t + 1)) rest ≡ some ns → patterns_from (suc left) at (t ++ (dollar ∷ rest)) ≡ some (record { patterns = p ∷ []; names = ns })
  unfolding names_from patterns_from
  all-dollar rest ns e = rw (pattern-there t (dollar ∷ rest) p h, pattern-size t (dollar ∷ rest) p h, pattern-read t (dollar ∷ rest) p h, pattern-goes-on (dollar ∷ rest) (omega arith), behind (dollar ∷ rest) (omega arith), drop-append-add t (dollar ∷ rest) 1, e)

-- what is left behind a name and "$", and behind a pattern, is shorter
pub shorter : (n : List ℕ) (b : ℕ) (rest : List ℕ) (left : ℕ) → length (n ++ (b ∷ rest)) ≤ suc left → length rest ≤ left
shorter n b rest left l = omega (arith, length-append n (b ∷ rest))

pub less : (t rest : List ℕ) (p : Pattern) → IsPattern t p → (left : ℕ) → length (t ++ rest) ≤ suc left → length rest ≤ left
less t rest p h left l = omega (arith, length-append t rest, pattern-long t rest p h)

abbrev NamesAll : ℕ → Type 0
NamesAll left = (at : ℕ) (text : List ℕ) (ns : List Named) → IsNames at text ns → length text ≤ left → names_from left at text ≡ some ns

abbrev PatternsAll : ℕ → Type 0
PatternsAll left = (at : ℕ) (text : List ℕ) (ps : List Pattern) (ns : List Named) → IsPatterns at text ps ns → length text ≤ left → patterns_from left at text ≡ some (record { patterns = ps; names = ns })

names-all : (left : ℕ) → NamesAll left → PatternsAll left → NamesAll (suc left)
names-all left f g at _ _ (last_name {n = n} h) l = all-last left at n h
names-all left f g at _ _ (then-name {n = n} {rest = rest} {names = ns} h k) l =
    all-name left at n h rest ns (names-front k) (f (at + (length n + 1)) rest ns k (shorter n dollar rest left l))
names-all left f g at _ _ (then-patterns {n = n} {rest = rest} {ps = ps} {names = ns} h k) l =
    all-patterns left at n h rest (record { patterns = ps; names = ns }) (patterns-front k) (g (at + (length n + 1)) rest ps ns k (shorter n dollar rest left l))

patterns-all : (left : ℕ) → NamesAll left → PatternsAll left → PatternsAll (suc left)
patterns-all left f g at _ _ _ (last-pattern {t = t} {p = p} h) l = all-last-pattern left at t p h
patterns-all left f g at _ _ _ (more-patterns {t = t} {rest = rest} {p = p} {ps = ps} {names = ns} h k) l =
    all_more left at t p h rest (inside rest 0 59 (patterns-front k)) (record { patterns = ps; names = ns }) (patterns-front k) (g (at + length t) rest ps ns k (less t rest p h left l))
patterns-all left f g at _ _ _ (dollar-name {t = t} {rest = rest} {p = p} {names = ns} h k) l =
    all-dollar left at t p h rest ns (f (at + (length t + 1)) rest ns k (shorter t dollar rest left l))
patterns-all left f g at _ _ _ (name-at-once {t = t} {rest = rest} {p = p} {names = ns} h k) l =
    all-at-once left at t p h rest (names-filled k) ns (names-front k) (f (at + length t) rest ns k (less t rest p h left l))

mutual
  unfolding names_from patterns_from

  names-found : (left : ℕ) → NamesAll left
  names-found zero = λ at text ns h l. absurd (omega (arith, names-filled h))
  names-found (suc left) = names-all left (names-found left) (patterns-found left)

  patterns-found : (left : ℕ) → PatternsAll left
  patterns-found zero = λ at text ps ns h l. absurd (omega (arith, inside text 0 59 (patterns-front h)))
  patterns-found (suc left) = patterns-all left (names-found left) (patterns-found left)

-- ---- the theorems

-- what is read is a reading by the grammar
pub reads-right : (at : ℕ) (text : List ℕ) (ns : List Named) → names_of at text ≡ some ns → IsNames at text ns
reads-right at text ns h = names-read (length text) at text ns h

-- and each such reading is found
pub reads_all : (at : ℕ) (text : List ℕ) (ns : List Named) → IsNames at text ns → names_of at text ≡ some ns
reads_all at text ns h = names-found (length text) at text ns h (omega arith)

-- "there is only one reading": any two are the same list of names with their patterns
pub one-reading : (at : ℕ) (text : List ℕ) (a b : List Named) → IsNames at text a → IsNames at text b → a ≡ b
one-reading at text a b h k = some_is a b (sym (reads_all at text a h) ∙ reads_all at text b k)

-- the same of patterns and of what they read on into
pub one-tail : (at : ℕ) (text : List ℕ) (t u : Tail) → IsPatterns at text t.patterns t.names → IsPatterns at text u.patterns u.names → t ≡ u
one-tail at text t u h k =
    some_is t u (sym (patterns-found (length text) at text t.patterns t.names h (omega arith)) ∙ patterns-found (length text) at text u.patterns u.names k (omega arith))

-- a field is a name list exactly if it has a reading and no more bytes than its columns
pub field-right : (field : List ℕ) (ns : List Named) → name_list field ≡ some ns → (length field ≤ most_name_bytes) × IsNames 0 field ns
unfolding name_list
field-right field ns h = branch (leb (length field) most_name_bytes) _ _ ns h (λ a k. (leb-true (length field) most_name_bytes a, reads-right 0 field ns k)) (λ a k. no-some ns k)

pub field-all : (field : List ℕ) (ns : List Named) → length field ≤ most_name_bytes → IsNames 0 field ns → name_list field ≡ some ns
unfolding name_list
field-all field ns l h = rw (le-leb (length field) most_name_bytes l) (reads_all 0 field ns h)

-- ---- however many bytes are left beyond those of the text, the reading is the same

same_answer : {X : Type 0} (a b : Option X) → ((x : X) → a ≡ some x → b ≡ some x) → ((x : X) → b ≡ some x → a ≡ some x) → a ≡ b
same_answer none none f g = refl
same_answer none (some y) f g = g y refl
same_answer (some x) b f g = sym (f x refl)

module _ (at : ℕ) (text : List ℕ) (left : ℕ) (h : length text ≤ left) where
  pub names-enough : names_from left at text ≡ names_of at text
  names-enough =
      same_answer (names_from left at text) (names_of at text) (λ ns e. reads_all at text ns (names-read left at text ns e))
      (λ ns e. names-found left at text ns (reads-right at text ns e) h)

  pub patterns-enough : patterns_from left at text ≡ patterns_of at text
  patterns-enough =
      same_answer (patterns_from left at text) (patterns_of at text)
      (λ t e. patterns-found (length text) at text t.patterns t.names (patterns-read left at text t e) (omega arith))
      (λ t e. patterns-found left at text t.patterns t.names (patterns-read (length text) at text t e) h)
