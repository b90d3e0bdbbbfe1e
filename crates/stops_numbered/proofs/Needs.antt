-- The needs of the functions: of the inner ones, for `search inner`; of the outer ones, for `search outer`. Assumes nothing.
use mathlib.Core.Path.{◌≡◌, refl, ap, ◌∙◌, sym}
use mathlib.Core.List.{List}
use mathlib.Core.Bool.{true}
use Prim.Native.Nat.{ℕ, ◌+◌, ◌-◌, ◌*◌, ◌^◌, ◌≤◌, ◌<◌}
use native.Mathlib.Omega.{arith}
use lib.ListN.{length}
use Rattle.base.proofs.Laws.{tests}
use Rattle.timetable.specs.Layout.{stop_size}
use Rattle.timetable.specs.Table.{stops#}
use Rattle.table.specs.JustTable.{header_sound, interchanges_place}
use Rattle.chains.specs.Chains.{Records, first_by, next_by}
use Rattle.chains.proofs.Follow.{first-le, next_le}
use Rattle.index.specs.Index.{stops_from, interchanges_from, stop_section}
use Rattle.index.specs.declared.Section.{Section}
use Rattle.index.proofs.Sections.{sections-fit}
use Rattle.stops_numbered.specs.Inner.Numbered.{first_stop, next_stop}

-- ---- n stops whose records begin at `at`; k is n as a count

module _ (w : List ℕ) (at n k end : ℕ) (h : at + stop_size * n ≤ length w) (q : k ≡ n) where
  pub end-scaled : length w < 2 ^ 64 → stop_size * k < 2 ^ 64
  end-scaled l = omega (arith, q)

  pub end_fits : length w < 2 ^ 64 → at + stop_size * k < 2 ^ 64
  end_fits l = omega (arith, q)

  pub records-fit : end ≡ at + stop_size * k → Records w end stop_size n
  records-fit p = record { some = omega arith; room = omega (arith, p, q); within = omega (arith, p, q) }

module _ (w x : List ℕ) (n end from number e : ℕ) where
  pub first-low : e ≡ first_by w x end stop_size n from number → e ≤ n
  first-low d = omega (arith, d, first-le w x end stop_size n from number)

  pub next_low : (place : ℕ) → e ≡ next_by w x end stop_size from number (n - place) → e ≤ n
  next_low place d = omega (arith, d, next_le w x end stop_size from number (n - place))

  module _ (at k : ℕ) (q : k ≡ n) (p : end ≡ at + stop_size * k) where
    pub first-is : e ≡ first_by w x end stop_size n from number → n - e ≡ n - first_by w x (at + stop_size * n) stop_size n from number
    first-is d = ap (λ (i : ℕ). n - i) (d ∙ rw (p, q))

    pub next-is : (place : ℕ) → e ≡ next_by w x end stop_size from number (n - place) → n - e ≡ n - next_by w x (at + stop_size * n) stop_size from number (n - place)
    next-is place d = ap (λ (i : ℕ). n - i) (d ∙ rw (p, q))

pub ruleset inner = (tests, end-scaled, end_fits, records-fit, first-low, first-is, next_low, next-is)

-- ---- the stop section s of words with a sound header

module _ (w : List ℕ) (s : Section) (q : s ≡ stop_section w) where
  pub stops-inside : header_sound w ≡ true → s.at + stop_size * s.n ≤ length w
  stops-inside e = rw q (omega (arith, sections-fit w e))

  pub stops-chained : (x : List ℕ) → interchanges_from w ≤ length x → s.from + 2 * s.n ≤ length x
  stops-chained x l = rw q l

  pub stop-low : (place : ℕ) → place < stops# w → place < s.n
  stop-low place l = rw q l

  module _ (x : List ℕ) (number r : ℕ) where
    pub first-stop : r ≡ s.n - first_by w x (s.at + stop_size * s.n) stop_size s.n s.from number → r ≡ first_stop w x number
    unfolding first_stop
    first-stop e = e ∙ rw q

    pub next-stop : (place : ℕ) → r ≡ s.n - next_by w x (s.at + stop_size * s.n) stop_size s.from number (s.n - place) → r ≡ next_stop w x number place
    unfolding next_stop
    next-stop place e = e ∙ rw q

pub ruleset outer = (tests, stops-inside, stops-chained, stop-low, first-stop, next-stop)
