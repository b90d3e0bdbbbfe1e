-- What the numbers of a span mean: `has-below`, `within-runs`, and `span-runs`, which a board stands on. Assumes nothing.
use mathlib.Core.Path.{◌≡◌, refl, ap, sym, ◌∙◌}
use mathlib.Core.Bool.{Bool, true, false, cond, ◌&&◌}
use Prim.Native.Nat.{ℕ, ◌+◌, ◌-◌, ◌*◌, ◌/◌, ◌≤◌, ◌<◌}
use native.Mathlib.Nat.{le-div_iff_mul-le, mul-zero, zero-div, div-le_self}
use native.Mathlib.Omega.{arith}
use lib.Dec.{ltb, leb, eqb}
use borrow.Author.Tests.{eq-eqb, ne_eqb, lt-ltb, le-leb, lt-leb, ltb-true, leb-true}
use Rattle.base.proofs.Laws.{clash, by-ltb, by-leb, by_eqb}
use Rattle.base.proofs.Loops.{and-true}
use Rattle.timetable.specs.Layout.{kind_z, kind_t, most_repeats, most_running}
use Rattle.timetable.specs.Runs.{running_time, density, has_run, lateness, opening_sound}
use Rattle.timetable.specs.declared.Opening.{Opening}
use Rattle.spans.specs.Spans.{less, runs#, runs_within, most_runs, first_run, end_run, span_of}

-- two tests that pass together are the same (belongs in base)
pub same_test : (a b : Bool) → (a ≡ true → b ≡ true) → (b ≡ true → a ≡ true) → a ≡ b
same_test true b p q = sym (p refl)
same_test false true p q = q refl
same_test false false p q = refl

pub and_both : (a b : Bool) → a ≡ true → b ≡ true → (a && b) ≡ true
and_both a b p q = rw (p, q)

-- ---- the smaller of two

pub record Smaller (a b m : ℕ) : Type 0 where
  pub left : m ≤ a
  pub right : m ≤ b
  pub greatest : (x : ℕ) → x ≤ a → x ≤ b → x ≤ m

pub less-is : (a b : ℕ) → Smaller a b (less a b)
less-is a b =
    by-ltb (λ t. Smaller a b (cond t a b)) a b
    (λ h. record { left = omega arith; right = omega arith; greatest = λ x p q. p })
    (λ h. record { left = h; right = omega arith; greatest = λ x p q. q })

-- ---- how many times d goes into x

pub into : (j d x : ℕ) → 1 ≤ d → ltb j (x / d + 1) ≡ leb (j * d) x
into j d x h =
    same_test (ltb j (x / d + 1)) (leb (j * d) x)
    (λ e. le-leb (j * d) x ((le-div_iff_mul-le h).0 (let a : j ≤ x / d = omega (arith, ltb-true j (x / d + 1) e) in a)))
    (λ e. lt-ltb j (x / d + 1) (let a : j ≤ x / d = (le-div_iff_mul-le h).1 (leb-true (j * d) x e) in omega (arith, a)))

-- ---- a *T

module _ (o : Opening) (k : o.kind ≡ kind_t) (s : opening_sound o ≡ true) where
  bounds : (leb (running_time o) most_running && (leb 1 (density o) && leb (density o) most_running)) ≡ true
  unfolding opening_sound
  bounds = rw (eq-eqb o.kind kind_t k) at s

  pub dense : 1 ≤ density o
  dense = leb-true 1 (density o) (and-true (leb 1 (density o)) _ (and-true (leb (running_time o) most_running) _ bounds).1).0

  pub running-low : running_time o ≤ most_running
  running-low = leb-true (running_time o) most_running (and-true (leb (running_time o) most_running) _ bounds).0

  frequency-below : (j : ℕ) → has_run o j ≡ ltb j (runs# o)
  unfolding has_run runs#
  frequency-below j = rw (eq-eqb o.kind kind_t k) (sym (into j (density o) (60 * running_time o) dense))

  frequency-within : (j x : ℕ) → (has_run o j && leb (lateness o j) x) ≡ ltb j (runs_within o x)
  unfolding has_run lateness runs_within
  frequency-within j x =
      let y : ℕ = j * density o in
      let m : ℕ = less (running_time o) x in
      let l = less-is (running_time o) x in
      let both : (leb (j * density o) (60 * running_time o) && leb ((j * density o + 59) / 60) x) ≡ leb (j * density o) (60 * m) =
      same_test _ _
      (λ e.
      let p = and-true (leb (j * density o) (60 * running_time o)) _ e in
      let a = leb-true (j * density o) (60 * running_time o) p.0 in
      let b = leb-true ((j * density o + 59) / 60) x p.1 in
      let c : (j * density o + 59) / 60 ≤ m = l.greatest ((j * density o + 59) / 60) (omega (arith, a)) b in
      le-leb (j * density o) (60 * m) (omega (arith, c)))
      (λ e.
      let a = leb-true (j * density o) (60 * m) e in
      and_both _ _ (le-leb (j * density o) (60 * running_time o) (omega (arith, a, l.left))) (le-leb ((j * density o + 59) / 60) x (omega (arith, a, l.right)))) in
      rw (eq-eqb o.kind kind_t k) (both ∙ sym (into j (density o) (60 * m) dense))

-- ---- a *Z

module _ (o : Opening) (k : o.kind ≡ kind_t → ⊥) where
  repeat-below : (j : ℕ) → has_run o j ≡ ltb j (runs# o)
  unfolding has_run runs#
  repeat-below j =
      rw (ne_eqb o.kind kind_t k)
      (same_test (leb j o.repeats) (ltb j (o.repeats + 1)) (λ e. lt-ltb j (o.repeats + 1) (omega (arith, leb-true j o.repeats e))) (λ e. le-leb j o.repeats (omega (arith, ltb-true j (o.repeats + 1) e))))

  repeat-within : (j x : ℕ) → (has_run o j && leb (lateness o j) x) ≡ ltb j (runs_within o x)
  unfolding has_run lateness runs_within
  repeat-within j x = rw (ne_eqb o.kind kind_t k) (by_eqb (λ t. (leb j o.repeats && leb (j * o.offset) x) ≡ ltb j (cond t (o.repeats + 1) (less o.repeats (x / o.offset) + 1))) o.offset 0 none_later (λ n. later (omega arith)))
    where
      none_later : o.offset ≡ 0 → (leb j o.repeats && leb (j * o.offset) x) ≡ ltb j (o.repeats + 1)
      none_later z =
          same_test _ _
          (λ e. lt-ltb j (o.repeats + 1) (omega (arith, leb-true j o.repeats (and-true (leb j o.repeats) _ e).0)))
          (λ e. and_both _ _ (le-leb j o.repeats (omega (arith, ltb-true j (o.repeats + 1) e))) (le-leb (j * o.offset) x (rw (z, mul-zero) (omega arith))))

      later : 1 ≤ o.offset → (leb j o.repeats && leb (j * o.offset) x) ≡ ltb j (less o.repeats (x / o.offset) + 1)
      later h =
          let l = less-is o.repeats (x / o.offset) in
          same_test _ _
          (λ e.
          let p = and-true (leb j o.repeats) _ e in
          let b : j ≤ x / o.offset = (le-div_iff_mul-le h).1 (leb-true (j * o.offset) x p.1) in
          let c = l.greatest j (leb-true j o.repeats p.0) b in
          lt-ltb j (less o.repeats (x / o.offset) + 1) (omega (arith, c)))
          (λ e.
          let a = ltb-true j (less o.repeats (x / o.offset) + 1) e in
          let b : j ≤ x / o.offset = omega (arith, a, l.right) in
          and_both _ _ (le-leb j o.repeats (omega (arith, a, l.left))) (le-leb (j * o.offset) x ((le-div_iff_mul-le h).0 b)))

  pub low-repeats : opening_sound o ≡ true → o.repeats ≤ most_repeats
  unfolding opening_sound
  low-repeats s =
      let s' : (eqb o.kind kind_z && (leb o.repeats most_repeats && leb o.offset most_repeats)) ≡ true = rw (ne_eqb o.kind kind_t k) at s in
      leb-true o.repeats most_repeats (and-true (leb o.repeats most_repeats) _ (and-true (eqb o.kind kind_z) _ s').1).0

-- ---- both

module _ (o : Opening) (s : opening_sound o ≡ true) where
  -- the runs are those below `runs#`
  pub has-below : (j : ℕ) → has_run o j ≡ ltb j (runs# o)
  has-below j = by_eqb (λ t. has_run o j ≡ ltb j (runs# o)) o.kind kind_t (λ k. frequency-below o k s j) (λ k. repeat-below o k j)

  -- those late by at most x are those below `runs_within`
  pub within-runs : (j x : ℕ) → (has_run o j && leb (lateness o j) x) ≡ ltb j (runs_within o x)
  within-runs j x = by_eqb (λ t. (has_run o j && leb (lateness o j) x) ≡ ltb j (runs_within o x)) o.kind kind_t (λ k. frequency-within o k s j x) (λ k. repeat-within o k j x)

  module _ (j d t u : ℕ) where
    abbrev time : ℕ
    time = d + lateness o j

    not-early : has_run o j ≡ true → leb t (d + lateness o j) ≡ leb (first_run o d t) j
    unfolding first_run
    not-early h =
        by-leb (λ b. leb t (d + lateness o j) ≡ leb (cond b 0 (runs_within o (t - d - 1))) j) t d
        (λ l. le-leb t (d + lateness o j) (omega arith) ∙ sym (le-leb 0 j (omega arith)))
        (λ l.
        let w : leb (lateness o j) (t - d - 1) ≡ ltb j (runs_within o (t - d - 1)) = rw h at (within-runs j (t - d - 1)) in
        same_test _ _
        (λ e.
        let a = leb-true t (d + lateness o j) e in
        by-leb (λ b. leb (runs_within o (t - d - 1)) j ≡ b → b ≡ true) (runs_within o (t - d - 1)) j (λ z q. refl)
        (λ z q. clash (absurd (let c = leb-true (lateness o j) (t - d - 1) (w ∙ lt-ltb j (runs_within o (t - d - 1)) z) in omega (arith, c)))) refl)
        (λ e.
        let a = leb-true (runs_within o (t - d - 1)) j e in
        by-leb (λ b. b ≡ true) t (d + lateness o j) (λ z. refl)
        (λ z. absurd (let c = ltb-true j (runs_within o (t - d - 1)) (sym w ∙ le-leb (lateness o j) (t - d - 1) (omega arith)) in omega (arith, c)))))

    not_late : (has_run o j && leb (d + lateness o j) u) ≡ ltb j (end_run o d u)
    unfolding end_run
    not_late =
        by-ltb (λ b. (has_run o j && leb (d + lateness o j) u) ≡ ltb j (cond b 0 (runs_within o (u - d)))) u d
        (λ l. same_test _ _ (λ e. absurd (omega (arith, leb-true (d + lateness o j) u (and-true (has_run o j) _ e).1))) (λ e. absurd (omega (arith, ltb-true j 0 e))))
        (λ l.
        let q : leb (d + lateness o j) u ≡ leb (lateness o j) (u - d)
        = same_test _ _ (λ e. le-leb (lateness o j) (u - d) (omega (arith, leb-true (d + lateness o j) u e))) (λ e. le-leb (d + lateness o j) u (omega (arith, leb-true (lateness o j) (u - d) e))) in
        rw q (within-runs j (u - d)))

    -- "the time is not below the first nor above the second": an interval of runs
    pub span-runs : (has_run o j && (leb t (d + lateness o j) && leb (d + lateness o j) u)) ≡ (leb (span_of o d t u).low j && ltb j (span_of o d t u).high)
    unfolding span_of
    span-runs =
        same_test _ _
        (λ e.
        let p = and-true (has_run o j) _ e in
        let q = and-true (leb t (d + lateness o j)) _ p.1 in
        and_both _ _ (sym (not-early p.0) ∙ q.0) (sym not_late ∙ and_both _ _ p.0 q.1))
        (λ e.
        let p = and-true (leb (first_run o d t) j) _ e in
        let q = and-true (has_run o j) _ (not_late ∙ p.1) in
        and_both _ _ q.0 (and_both _ _ (not-early q.0 ∙ p.0) q.1))

  -- how many runs there are at most
  pub few-runs : runs# o ≤ most_runs
  unfolding runs#
  few-runs =
      by_eqb (λ t. cond t (60 * running_time o / density o + 1) (o.repeats + 1) ≤ most_runs) o.kind kind_t
      (λ k. let a = running-low o k s in omega (arith, a, div-le_self (60 * running_time o) (density o)))
      (λ k. omega (arith, low-repeats o k s))

  -- a span has no run that is not there
  pub within-few : (x : ℕ) → runs_within o x ≤ runs# o
  within-few x =
      by-ltb (λ (t : Bool). runs_within o x ≤ runs# o) (runs# o) (runs_within o x)
      (λ l.
      let e = within-runs (runs# o) x ∙ lt-ltb (runs# o) (runs_within o x) l in
      absurd (omega (arith, ltb-true (runs# o) (runs# o) (sym (has-below (runs# o)) ∙ (and-true (has_run o (runs# o)) _ e).0)))) (λ l. l)

  pub end-runs : (d u : ℕ) → end_run o d u ≤ runs# o
  unfolding end_run
  end-runs d u = by-ltb (λ t. cond t 0 (runs_within o (u - d)) ≤ runs# o) u d (λ l. omega arith) (λ l. within-few (u - d))

  pub end-few : (d u : ℕ) → end_run o d u ≤ most_runs
  end-few d u = omega (arith, end-runs d u, few-runs)

-- ---- a service that runs once is never late

module _ (o : Opening) (z : o.repeats ≡ 0) where
  none_later : (x : ℕ) → less o.repeats x ≡ 0
  none_later x = omega (arith, (less-is o.repeats x).left)

  within-once : (x : ℕ) → runs_within o x ≡ 1
  unfolding runs_within
  within-once x = go (eqb o.kind kind_t) (eqb o.offset 0)
    where
      go : (a b : Bool) → cond a (60 * less (running_time o) x / density o + 1) (cond b (o.repeats + 1) (less o.repeats (x / o.offset) + 1)) ≡ 1
      go true b = rw (none_later x) (ap (λ (m : ℕ). m + 1) (zero-div (density o)))
      go false true = rw z
      go false false = rw (none_later (x / o.offset))

  pub once-before : (d t : ℕ) → d < t → first_run o d t ≡ 1
  unfolding first_run
  once-before d t h = rw (lt-leb t d h) (within-once (t - d - 1))

  pub once-end : (d u : ℕ) → end_run o d u ≤ 1
  unfolding end_run
  once-end d u = by-ltb (λ t. cond t 0 (runs_within o (u - d)) ≤ 1) u d (λ l. omega arith) (λ l. omega (arith, within-once (u - d)))
