-- The needs of the functions of src, for `search runs`: each value that code computed stands with its equation. Assumes nothing.
use mathlib.Core.Path.{◌≡◌, refl, sym, ◌∙◌}
use mathlib.Core.Bool.{Bool, true, false, ◌&&◌}
use Prim.Native.Nat.{ℕ, ◌+◌, ◌*◌, ◌/◌, ◌^◌, ◌≤◌, ◌<◌}
use native.Mathlib.Nat.{mul-le-mul}
use native.Mathlib.Omega.{arith}
use lib.Dec.{leb, eqb}
use borrow.Author.Tests.{leb-true, eq-eqb, ne_eqb}
use Rattle.base.proofs.Laws.{tests}
use Rattle.base.proofs.Loops.{and-true}
use Rattle.timetable.specs.Layout.{kind_z, kind_t, most_repeats, most_running, most_delay}
use Rattle.timetable.specs.Runs.{running_time, density, has_run, lateness, opening_sound}
use Rattle.timetable.specs.declared.Opening.{Opening}

-- ---- no product of two words wraps in 64 bits, and none with 59 more

most-product : (a b : ℕ) → a < 2 ^ 32 → b < 2 ^ 32 → a * b ≤ 4294967295 * 4294967295
most-product a b p q =
    let x : a ≤ 4294967295 = omega arith in
    let y : b ≤ 4294967295 = omega arith in
    mul-le-mul x y

pub product-fits : (a b : ℕ) → a < 2 ^ 32 → b < 2 ^ 32 → a * b < 2 ^ 64
product-fits a b p q = omega (arith, most-product a b p q)

pub sum_fits : (a b x : ℕ) → x ≡ a * b → a < 2 ^ 32 → b < 2 ^ 32 → x + 59 < 2 ^ 64
sum_fits a b x e p q = omega (arith, most-product a b p q)

-- ---- a *T; x is how many seconds after the first run j starts

module _ (o : Opening) (k : o.kind ≡ kind_t) where
  pub frequency-sound : (r : Bool) → r ≡ (leb (running_time o) most_running && (leb 1 (density o) && leb (density o) most_running)) → r ≡ opening_sound o
  unfolding opening_sound
  frequency-sound r e = e ∙ sym (rw (eq-eqb o.kind kind_t k))

  module _ (j x : ℕ) (e : x ≡ j * density o) where
    pub frequency-run : leb x (60 * o.repeats) ≡ has_run o j
    unfolding has_run
    frequency-run = rw (e, eq-eqb o.kind kind_t k)

    pub frequency-late : (x + 59) / 60 ≡ lateness o j
    unfolding lateness
    frequency-late = rw (e, eq-eqb o.kind kind_t k)

    module _ (s : opening_sound o ≡ true) (h : has_run o j ≡ true) where
      pub frequency-low : (x + 59) / 60 ≤ most_delay
      unfolding has_run opening_sound
      frequency-low =
          let s' : (leb (running_time o) most_running && (leb 1 (density o) && leb (density o) most_running)) ≡ true = rw (eq-eqb o.kind kind_t k) at s in
          let a = leb-true (running_time o) most_running (and-true (leb (running_time o) most_running) _ s').0 in
          let h' : leb (j * density o) (60 * running_time o) ≡ true = rw (eq-eqb o.kind kind_t k) at h in
          let b = leb-true (j * density o) (60 * running_time o) h' in
          omega (arith, a, b)

      pub frequency-fits : (x + 59) / 60 < 2 ^ 32
      frequency-fits = omega (arith, frequency-low)

-- ---- a *Z

module _ (o : Opening) (j : ℕ) (k : o.kind ≡ kind_t → ⊥) where
  pub repeat-run : leb j o.repeats ≡ has_run o j
  unfolding has_run
  repeat-run = rw (ne_eqb o.kind kind_t k)

  pub repeat-late : j * o.offset ≡ lateness o j
  unfolding lateness
  repeat-late = rw (ne_eqb o.kind kind_t k)

  module _ (s : opening_sound o ≡ true) (h : has_run o j ≡ true) where
    pub repeat-low : j * o.offset ≤ most_delay
    unfolding has_run opening_sound
    repeat-low =
        let s' : (eqb o.kind kind_z && (leb o.repeats most_repeats && leb o.offset most_repeats)) ≡ true = rw (ne_eqb o.kind kind_t k) at s in
        let b = and-true (leb o.repeats most_repeats) (leb o.offset most_repeats) (and-true (eqb o.kind kind_z) _ s').1 in
        let h' : leb j o.repeats ≡ true = rw (ne_eqb o.kind kind_t k) at h in
        let a : j ≤ most_repeats = omega (arith, leb-true j o.repeats h', leb-true o.repeats most_repeats b.0) in
        let m : j * o.offset ≤ most_repeats * most_repeats = mul-le-mul a (leb-true o.offset most_repeats b.1) in
        m

    pub repeat-fits : j * o.offset < 2 ^ 32
    repeat-fits = omega (arith, repeat-low)

pub ruleset runs = (tests, product-fits, sum_fits, frequency-sound, frequency-run, frequency-late, frequency-low, frequency-fits, repeat-run, repeat-late, repeat-low, repeat-fits)
