-- The needs of the functions of src. Assumes nothing.
use mathlib.Core.Path.{◌≡◌, refl, ap, ◌∙◌, sym}
use mathlib.Core.List.{List, [], ◌∷◌, ◌++◌}
use mathlib.Core.Bool.{cond}
use Prim.Native.Nat.{ℕ, suc, ◌+◌, ◌-◌, ◌*◌, ◌/◌, ◌^◌, ◌≤◌, ◌<◌}
use native.Mathlib.Omega.{arith}
use lib.ListN.{length, get_or, take}
use lib.Seq.{take-nil}
use borrow.Author.Tests.{ne_eqb, le-leb, lt-leb, lt-ltb, le-ltb}
use Rattle.base.specs.Lists.{gathered}
use Rattle.base.proofs.Laws.{tests, by-leb, by-ltb}
use Rattle.timetable.specs.Layout.{stop_size}
use Rattle.chains.specs.Chains.{Records, first_by, next_by}
use Rattle.chains.proofs.Follow.{first-le, next_le}
use Rattle.stop_calls.specs.StopCalls.{chained, entries#, entry_word, calls_on, stops_by, calls_by, Lent, calls_after, left_at, On, last_on, before_on}
use Rattle.stop_calls.specs.declared.Cursor.{Cursor}
use Rattle.stop_calls.proofs.Chained.{chained-none, chained-over, chained-here, chained-any}

-- ---- the words of the calls

module _ (y : List ℕ) (n e : ℕ) (l : n ≤ length y) (z : 0 < e) (h : e ≤ entries# n y) where
  pub entry-inside : n + 4 * (e - 1) + 3 < length y
  unfolding entries#
  entry-inside = omega arith

module _ (y : List ℕ) (n k e a b : ℕ) (l : n ≤ length y) (z : 0 < e) (h : e ≤ entries# n y) (p : a ≡ n) (q : b ≡ e) where
  pub entry-low : 1 ≤ b
  entry-low = omega (arith, q)

  pub entry-times : length y < 2 ^ 64 → 4 * (b - 1) < 2 ^ 64
  entry-times m = omega (arith, q, entry-inside y n e l z h)

  pub entry-sum : length y < 2 ^ 64 → a + 4 * (b - 1) < 2 ^ 64
  entry-sum m = omega (arith, p, q, entry-inside y n e l z h)

  pub entry_place : k < 4 → length y < 2 ^ 64 → a + 4 * (b - 1) + k < 2 ^ 64
  entry_place d m = omega (arith, p, q, entry-inside y n e l z h)

  pub entry-within : k < 4 → a + 4 * (b - 1) + k < length y
  entry-within d = omega (arith, p, q, entry-inside y n e l z h)

  pub entry-is : get_or y (a + 4 * (b - 1) + k) 0 ≡ entry_word n y k e
  unfolding entry_word
  entry-is = rw (p, q)

pub ruleset words = (tests, entry-low, entry-times, entry-sum, entry_place, entry-within, entry-is)

pub entries-is : (y : List ℕ) (n a : ℕ) → a ≡ n → (length y - a) / 4 ≡ entries# n y
unfolding entries#
entries-is y n a p = rw p

pub entries-low : (y : List ℕ) (n a : ℕ) → a ≡ n → n ≤ length y → a ≤ length y
entries-low y n a p h = omega (arith, p)

module _ (y : List ℕ) (n s a : ℕ) (p : a ≡ n - s) where
  pub head-within : n ≤ length y → 0 < s → s ≤ n → a < length y
  head-within l z h = omega (arith, p)

  module _ (m c : ℕ) (q : m ≡ entries# n y) (d : c ≡ get_or y a 0) where
    pub last-in : c ≤ m → get_or y a 0 ≡ last_on n y s
    last-in h = rw (← p, le-leb (get_or y a 0) (entries# n y) (omega (arith, q, d)))

    pub last_out : m < c → 0 ≡ last_on n y s
    last_out h = rw (← p, lt-leb (get_or y a 0) (entries# n y) (omega (arith, q, d)))

module _ (y : List ℕ) (n e h : ℕ) (q : h ≡ entry_word n y 0 e) where
  pub before-in : h < e → h ≡ before_on n y e
  before-in l = rw (← q, lt-ltb h e l)

  pub before-out : e ≤ h → 0 ≡ before_on n y e
  before-out l = rw (← q, le-ltb h e l)

pub ruleset ends = (tests, entries-is, entries-low, head-within, last-in, last_out, before-in, before-out)

-- ---- the chain of a stop's calls

module _ (y : List ℕ) (n : ℕ) where
  pub calls_last : (s h : ℕ) → h ≡ last_on n y s → (calls_on n y s ≡ chained (entry_word n y 0) (entries# n y) h) × (h ≤ entries# n y)
  unfolding calls_on
  calls_last s h e =
      rw e
      (by-leb (λ t. (chained (entry_word n y 0) (entries# n y) (get_or y (n - s) 0) ≡ chained (entry_word n y 0) (entries# n y) (cond t (get_or y (n - s) 0) 0)) × (cond t (get_or y (n - s) 0) 0 ≤ entries# n y))
      (get_or y (n - s) 0) (entries# n y) (λ l. (refl, l)) (λ l. (chained-over (entry_word n y 0) (entries# n y) (get_or y (n - s) 0) l ∙ sym (chained-none (entry_word n y 0) (entries# n y)), omega arith)))

  pub calls-before : (e h : ℕ) → (e ≡ 0 → ⊥) → h ≡ before_on n y e → (chained (entry_word n y 0) (e - 1) (entry_word n y 0 e) ≡ chained (entry_word n y 0) (e - 1) h) × (h ≤ e - 1)
  calls-before e h z q =
      rw q
      (by-ltb (λ t. (chained (entry_word n y 0) (e - 1) (entry_word n y 0 e) ≡ chained (entry_word n y 0) (e - 1) (cond t (entry_word n y 0 e) 0)) × (cond t (entry_word n y 0 e) 0 ≤ e - 1))
      (entry_word n y 0 e) e (λ l. (refl, omega arith)) (λ l. (chained-over (entry_word n y 0) (e - 1) (entry_word n y 0 e) (some l) ∙ sym (chained-none (entry_word n y 0) (e - 1)), omega arith)))
    where
      some : e ≤ entry_word n y 0 e → e - 1 < entry_word n y 0 e
      some l = elim (native.Mathlib.Decide.ℕ_discrete e 0) [ yes d ↦ absurd (z d) | no d ↦ omega arith ]

-- ---- a cursor

module _ (w x y : List ℕ) (end n from key : ℕ) where
  abbrev next_stop : ℕ → ℕ
  next_stop s = next_by w x end stop_size from key s

  abbrev rest_of : Cursor → List ℕ
  rest_of c = left_at w x y end n from key c

  abbrev later : ℕ → List ℕ
  later s = gathered (calls_on n y) (chained (next_by w x end stop_size from key) n s)

  pub none-on : On y n (record { call = 0; stop = 0; left = 0 })
  none-on = record { call = omega arith; stop = omega arith; some = λ z. absurd (z refl); more = λ z. absurd (z refl) }

  none_left : left_at w x y end n from key (record { call = 0; stop = 0; left = 0 }) ≡ []
  unfolding left_at
  none_left = refl

  some_left : (call stop left : ℕ) → (call ≡ 0 → ⊥) → left_at w x y end n from key (record { call = call; stop = stop; left = left }) ≡ take left (call ∷ calls_after w x y end n from key call stop)
  unfolding left_at
  some_left call stop left z = rw (ne_eqb call 0 z)

  module _ (s : ℕ) (z : s ≡ 0 → ⊥) (l : s ≤ n) where
    later-here : later s ≡ calls_on n y s ++ gathered (calls_on n y) (chained (next_by w x end stop_size from key) (s - 1) (next_by w x end stop_size from key s))
    unfolding gathered
    later-here = ap (gathered (calls_on n y)) (chained-here (next_by w x end stop_size from key) n s z l)

    stop-rest : gathered (calls_on n y) (chained (next_by w x end stop_size from key) (s - 1) (next_by w x end stop_size from key s)) ≡ later (next_by w x end stop_size from key s)
    stop-rest =
        let a : next_by w x end stop_size from key s ≤ s - 1 = next_le w x end stop_size from key s in
        ap (gathered (calls_on n y)) (chained-any (next_by w x end stop_size from key) (s - 1) n (next_by w x end stop_size from key s) a (omega (arith, a)))

    pub stop-some : 0 < s
    stop-some = elim (native.Mathlib.Decide.ℕ_discrete s 0) [ yes d ↦ absurd (z d) | no d ↦ omega arith ]

    module _ (h : ℕ) (q : h ≡ last_on n y s) where
      pub stop-out : (left : ℕ) (r : List ℕ) → (h ≡ 0 → ⊥) → take left (later s) ≡ r → left_at w x y end n from key (record { call = h; stop = s; left = left }) ≡ r
      stop-out left r k v =
          let c = calls_last y n s h q in
          some_left h s left k
          ∙ ap (take left) (sym (later-here ∙ ap (λ (a : List ℕ). a ++ gathered (calls_on n y) (chained (next_by w x end stop_size from key) (s - 1) (next_by w x end stop_size from key s))) (c.0 ∙ chained-here (entry_word n y 0) (entries# n y) h k c.1)))
          ∙ v

      pub stop-on : (left : ℕ) → (h ≡ 0 → ⊥) → 0 < left → On y n (record { call = h; stop = s; left = left })
      stop-on left k m = record { call = (calls_last y n s h q).1; stop = l; some = λ d. stop-some; more = λ d. m }

      pub stop-again : (left s' : ℕ) (r : List ℕ) → h ≡ 0 → s' ≡ next_by w x end stop_size from key s → take left (later s) ≡ r → take left (later s') ≡ r
      stop-again left s' r k e v =
          let c = calls_last y n s h q in
          let none : calls_on n y s ≡ [] = c.0 ∙ ap (chained (entry_word n y 0) (entries# n y)) k ∙ chained-none (entry_word n y 0) (entries# n y) in
          rw e (ap (take left) (sym (later-here ∙ ap (λ (a : List ℕ). a ++ gathered (calls_on n y) (chained (next_by w x end stop_size from key) (s - 1) (next_by w x end stop_size from key s))) none ∙ stop-rest)) ∙ v)

      pub stop-less : (s' : ℕ) → s' ≡ next_by w x end stop_size from key s → s' < s
      stop-less s' e = omega (arith, e, next_le w x end stop_size from key s, stop-some)

      pub stop-within : (s' : ℕ) → s' ≡ next_by w x end stop_size from key s → s' ≤ n
      stop-within s' e = omega (arith, stop-less s' e)

  pub stop-done : (s left : ℕ) (r : List ℕ) → s ≡ 0 → take left (later s) ≡ r → left_at w x y end n from key (record { call = 0; stop = 0; left = 0 }) ≡ r
  unfolding gathered
  stop-done s left r z v = none_left ∙ sym (take-nil left) ∙ ap (λ (l : List ℕ). take left (gathered (calls_on n y) l)) (sym (chained-none (next_by w x end stop_size from key) n)) ∙ ap (λ (s : ℕ). take left (later s)) (sym z) ∙ v

  pub first-in : (s : ℕ) → s ≡ first_by w x end stop_size n from key → s ≤ n
  first-in s e = rw e (first-le w x end stop_size n from key)

  pub first-is : (s : ℕ) (c : Cursor) (most : ℕ) → s ≡ first_by w x end stop_size n from key → left_at w x y end n from key c ≡ take most (later s) → left_at w x y end n from key c ≡ take most (calls_by w x y end n from key)
  unfolding calls_by stops_by
  first-is s c most e v = v ∙ rw e refl

  -- the next one
  module _ (call stop left : ℕ) (z : call ≡ 0 → ⊥) (o : On y n (record { call = call; stop = stop; left = left })) where
    pub next-some : 0 < call
    next-some = elim (native.Mathlib.Decide.ℕ_discrete call 0) [ yes d ↦ absurd (z d) | no d ↦ omega arith ]

    pub next-within : call ≤ entries# n y
    next-within = o.call

    pub next-stop : 0 < stop
    next-stop = o.some z

    pub next-stop-in : stop ≤ n
    next-stop-in = o.stop

    pub next-over : left ≤ 1 → left_at w x y end n from key (record { call = call; stop = stop; left = left }) ≡ call ∷ left_at w x y end n from key (record { call = 0; stop = 0; left = 0 })
    next-over l =
        let e : left ≡ 1 = omega (arith, o.more z) in
        some_left call stop left z ∙ ap (λ (m : ℕ). take m (call ∷ calls_after w x y end n from key call stop)) e ∙ ap (λ (r : List ℕ). call ∷ r) (sym none_left)

    ahead : left_at w x y end n from key (record { call = call; stop = stop; left = left }) ≡ call ∷ take (left - 1) (calls_after w x y end n from key call stop)
    ahead =
        let e : left ≡ suc (left - 1) = omega (arith, o.more z) in
        some_left call stop left z ∙ ap (λ (m : ℕ). take m (call ∷ calls_after w x y end n from key call stop)) e

    module _ (h : ℕ) (q : h ≡ before_on n y call) (m : 1 < left) where
      pub next_here : (h ≡ 0 → ⊥) → left_at w x y end n from key (record { call = call; stop = stop; left = left }) ≡ call ∷ left_at w x y end n from key (record { call = h; stop = stop; left = left - 1 })
      next_here k =
          let c = calls-before y n call h z q in
          ahead
          ∙ ap (λ (r : List ℕ). call ∷ take (left - 1) (r ++ gathered (calls_on n y) (chained (next_by w x end stop_size from key) (stop - 1) (next_by w x end stop_size from key stop)))) (c.0 ∙ chained-here (entry_word n y 0) (call - 1) h k c.1)
          ∙ ap (λ (r : List ℕ). call ∷ r) (sym (some_left h stop (left - 1) k))

      pub next-here-on : (h ≡ 0 → ⊥) → On y n (record { call = h; stop = stop; left = left - 1 })
      next-here-on k = record { call = omega (arith, o.call, (calls-before y n call h z q).1); stop = o.stop; some = λ d. o.some z; more = λ d. omega arith }

      pub next-there : (s : ℕ) (c : Cursor) → h ≡ 0 → s ≡ next_by w x end stop_size from key stop → left_at w x y end n from key c ≡ take (left - 1) (later s)
          → left_at w x y end n from key (record { call = call; stop = stop; left = left }) ≡ call ∷ left_at w x y end n from key c
      next-there s c k e v =
          let b = calls-before y n call h z q in
          let none : chained (entry_word n y 0) (call - 1) (entry_word n y 0 call) ≡ [] = b.0 ∙ ap (chained (entry_word n y 0) (call - 1)) k ∙ chained-none (entry_word n y 0) (call - 1) in
          ahead
          ∙ ap (λ (r : List ℕ). call ∷ take (left - 1) (r ++ gathered (calls_on n y) (chained (next_by w x end stop_size from key) (stop - 1) (next_by w x end stop_size from key stop)))) none
          ∙ ap (λ (r : List ℕ). call ∷ take (left - 1) r) (stop-rest stop (λ d. absurd (omega (arith, o.some z))) o.stop ∙ ap later (sym e))
          ∙ ap (λ (r : List ℕ). call ∷ r) (sym v)

    pub next-from : (s : ℕ) → s ≡ next_by w x end stop_size from key stop → s ≤ n
    next-from s e = omega (arith, e, next_le w x end stop_size from key stop, o.stop)

pub next-left : (left : ℕ) → 1 < left → 0 < left - 1
next-left left h = omega arith

pub lent-records : (w x y : List ℕ) (end n from : ℕ) → Lent w x y end n from → Records w end stop_size n
lent-records w x y end n from l = l.records

pub lent-chains : (w x y : List ℕ) (end n from : ℕ) → Lent w x y end n from → from + 2 * n ≤ length x
lent-chains w x y end n from l = l.chains

pub lent-heads : (w x y : List ℕ) (end n from : ℕ) → Lent w x y end n from → n ≤ length y
lent-heads w x y end n from l = l.heads

pub ruleset stops = (tests, lent-records, lent-chains, lent-heads, none-on, stop-some, stop-out, stop-on, stop-again, stop-less, stop-within, stop-done)

pub ruleset firsts = (tests, lent-records, lent-chains, first-in, first-is)

pub ruleset nexts = (tests, lent-records, lent-chains, lent-heads, none-on, next-some, next-within, next-stop, next-stop-in, next-over, next_here, next-here-on, next-there, next-from, next-left)
