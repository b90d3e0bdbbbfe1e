-- The needs of the functions of src, for `search spans`: each value that code computed stands with its equation. Assumes nothing.
use mathlib.Core.Path.{◌≡◌}
use mathlib.Core.Bool.{true}
use Prim.Native.Nat.{ℕ, ◌+◌, ◌-◌, ◌*◌, ◌/◌, ◌^◌, ◌≤◌, ◌<◌}
use native.Mathlib.Nat.{div-le_self}
use native.Mathlib.Omega.{arith}
use borrow.Author.Tests.{eq-eqb, ne_eqb, le-leb, lt-leb, lt-ltb, le-ltb}
use Rattle.base.proofs.Laws.{tests}
use Rattle.timetable.specs.Layout.{kind_t}
use Rattle.timetable.specs.Runs.{opening_sound}
use Rattle.timetable.specs.declared.Opening.{Opening}
use Rattle.spans.specs.Spans.{less, runs_within, first_run, end_run, span_of}
use Rattle.spans.proofs.Meaning.{less-is, dense, running-low, low-repeats}

-- ---- a *T; m is the smaller of its running time and the minutes

module _ (o : Opening) (k : o.kind ≡ kind_t) where
  module _ (s : opening_sound o ≡ true) where
    pub dense-step : 1 ≤ o.offset
    dense-step = dense o k s

    pub dense-some : 0 < o.offset
    dense-some = dense o k s

    pub dense-not : o.offset ≡ 0 → ⊥
    dense-not e = absurd (omega (arith, dense o k s))

    module _ (m x : ℕ) (e : m ≡ less o.repeats x) where
      smaller : m ≤ 9999
      smaller = rw e (omega (arith, running-low o k s, (less-is o.repeats x).left))

      pub minutes-fit : 60 * m < 2 ^ 32
      minutes-fit = omega (arith, smaller)

      pub count_fits : 60 * m / o.offset + 1 < 2 ^ 32
      count_fits = omega (arith, smaller, div-le_self (60 * m) o.offset)

  pub count-is : (m x : ℕ) → m ≡ less o.repeats x → 60 * m / o.offset + 1 ≡ runs_within o x
  unfolding runs_within
  count-is m x e = rw (eq-eqb o.kind kind_t k, e)

-- ---- a *Z

module _ (o : Opening) (k : o.kind ≡ kind_t → ⊥) where
  module _ (s : opening_sound o ≡ true) where
    pub all_fit : o.repeats + 1 < 2 ^ 32
    all_fit = omega (arith, low-repeats o k s)

    pub some_fit : (m x : ℕ) → m ≡ less o.repeats x → m + 1 < 2 ^ 32
    some_fit m x e = rw e (omega (arith, low-repeats o k s, (less-is o.repeats x).left))

  pub all_are : (x : ℕ) → o.offset ≡ 0 → o.repeats + 1 ≡ runs_within o x
  unfolding runs_within
  all_are x z = rw (ne_eqb o.kind kind_t k, eq-eqb o.offset 0 z)

  pub some-are : (x m : ℕ) → (o.offset ≡ 0 → ⊥) → m ≡ less o.repeats (x / o.offset) → m + 1 ≡ runs_within o x
  unfolding runs_within
  some-are x m z e = rw (ne_eqb o.kind kind_t k, ne_eqb o.offset 0 z, e)

pub ruleset counts = (tests, dense-step, dense-some, dense-not, minutes-fit, count_fits, count-is, all_fit, some_fit, all_are, some-are)

-- ---- the span

module _ (o : Opening) (d t : ℕ) where
  pub first-all : t ≤ d → 0 ≡ first_run o d t
  unfolding first_run
  first-all h = rw (le-leb t d h)

  pub first-later : (r : ℕ) → d < t → r ≡ runs_within o (t - d - 1) → r ≡ first_run o d t
  unfolding first_run
  first-later r h e = rw (e, lt-leb t d h)

  pub end_none : t < d → 0 ≡ end_run o d t
  unfolding end_run
  end_none h = rw (lt-ltb t d h)

  pub end_later : (r : ℕ) → d ≤ t → r ≡ runs_within o (t - d) → r ≡ end_run o d t
  unfolding end_run
  end_later r h e = rw (e, le-ltb t d h)

pub span-is : (o : Opening) (d t u a b : ℕ) → a ≡ first_run o d t → b ≡ end_run o d u → record { low = a; high = b } ≡ span_of o d t u
unfolding span_of
span-is o d t u a b p q = rw (p, q)

pub ruleset spans = (tests, first-all, first-later, end_none, end_later, span-is)
