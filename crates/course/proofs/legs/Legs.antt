-- The legs of a service, for `search legs`: s are the words from its record on. Assumes nothing.
use mathlib.Core.Path.{◌≡◌, refl, sym, ap, ◌∙◌}
use mathlib.Core.List.{List, map}
use mathlib.Core.Bool.{Bool, true, false, cond, not}
use mathlib.Core.Option.{Option}
use Prim.Native.Nat.{ℕ, ◌+◌, ◌-◌, ◌*◌, ◌^◌, ◌≤◌, ◌<◌}
use native.Mathlib.Nat.{sub-zero, add-zero}
use native.Mathlib.Omega.{arith}
use lib.ListN.{length, drop, length-drop}
use lib.Dec.{eqb}
use Rattle.std.specs.Prelude.{Result, Ok, Err, ⊤}
use borrow.Author.Tests.{not-true, not-false, ne_eqb}
use Rattle.base.specs.Lists.{every, some_of, upto, below}
use Rattle.base.proofs.Laws.{tests}
use Rattle.base.proofs.Loops.{upto_next, upto-none}
use Rattle.timetable.specs.Layout.{service_head, day_size}
use Rattle.timetable.specs.Delivery.{DayRange}
use Rattle.timetable.specs.Offences.{◌<|>◌}
use Rattle.timetable.specs.Legs.{covering, operated_by}
use Rattle.timetable.specs.Table.{rows_in, day_at, calls#, days#, day_place, service_at, sizes_sound}
use Rattle.timetable.specs.View.{View}
use Rattle.timetable.specs.Run.{leg_refusal, first_refusal}
use Rattle.timetable.specs.declared.refusal.Refusal.{Refusal}
use Rattle.timetable.specs.declared.refusal.Refusal.TheVariants.{LegFieldUnknown, LegDaysNotOnce}
use Rattle.table.specs.JustTable.{record_end}
use Rattle.table.proofs.Says.{sizes-say, head-word}
use Rattle.table.proofs.Records.{rest_from}
use Rattle.cover.specs.Inner.Cover.{once_in}
use Rattle.cover.proofs.Rows.{covering-rows}
use Rattle.course.specs.Inner.Run.{noted, range_known, range_runs, gap}

-- ---- the words of the record

module _ (s : List ℕ) (e : sizes_sound s ≡ true) where
  pub record-ends : record_end s ≤ length s
  record-ends = (sizes-say s e).inside

  pub head-words : service_head ≤ length s
  head-words = omega (arith, (sizes-say s e).head)

  pub legs-fit : 1 ≤ calls# s
  legs-fit = omega (arith, (sizes-say s e).calls-low)

  module _ (p : ℕ) (q : p ≡ day_place s) where
    pub days-within : p ≤ length s
    days-within = omega (arith, record-ends)

    pub days-scaled : length s * 4 < 2 ^ 63 → p * 4 < 2 ^ 64
    days-scaled l = omega (arith, days-within)

  pub days-room : (v : List ℕ) → v ≡ drop (day_place s) s → days# s * day_size ≤ length v
  days-room v q = rw (q, length-drop (day_place s) s) (omega (arith, record-ends))

-- ---- one leg; x says whether it is covered once, y whether its bit field is known

module _ (d : View) (s v : List ℕ) (leg : ℕ) (q : v ≡ drop (day_place s) s) where
  module _ (x : Bool) (e : x ≡ once_in day_size (days# s) v leg) where
    once_is : eqb (covering (λ (r : DayRange). r.legs) (service_at s).days leg) 1 ≡ x
    unfolding service_at
    once_is = sym (e ∙ ap (λ (m : ℕ). eqb m 1) (covering-rows day_at (λ (r : DayRange). r.legs) day_size (λ u. refl) leg (days# s) v) ∙ rw q)

    pub leg-34 : not x ≡ true → noted (Err LegDaysNotOnce) ≡ leg_refusal d (service_at s) leg
    unfolding ◌<|>◌
    leg-34 n = rw (once_is, not-true x n)

    module _ (n : not x ≡ false) (y : Bool) (f : y ≡ every (range_known d leg) (rows_in day_at day_size (days# s) v)) where
      known_is : every (range_known d leg) (service_at s).days ≡ y
      unfolding service_at
      known_is = sym (f ∙ rw q)

      pub leg-31 : not y ≡ true → noted (Err LegFieldUnknown) ≡ leg_refusal d (service_at s) leg
      unfolding ◌<|>◌ range_known
      leg-31 m = rw (once_is, not-false x n, known_is, not-true y m)

      pub leg-fine : not y ≡ false → noted (Ok tt) ≡ leg_refusal d (service_at s) leg
      unfolding ◌<|>◌ range_known
      leg-fine m = rw (once_is, not-false x n, known_is, not-false y m)

  pub leg-operated : (k : ℕ) (x : Bool) → x ≡ some_of (range_runs d k leg) (rows_in day_at day_size (days# s) v) → x ≡ operated_by d.runs (service_at s).days k leg
  unfolding range_runs service_at
  leg-operated k x e = e ∙ rw q

pub ruleset leg = (tests, record-ends, head-word, days-within, days-scaled, days-room, rest_from, leg-34, leg-31, leg-fine, leg-operated)

-- ---- all legs: o is what the leg at i is refused for

module _ (f : ℕ → Option Refusal) (n i : ℕ) (o : Result ⊤ Refusal) (r : Option Refusal) (h : i < n) (e : noted o ≡ f i) (v : first_refusal f (upto (n - i) i) ≡ r) where
  first-here : (noted o <|> first_refusal f (upto (n - (i + 1)) (i + 1))) ≡ r
  unfolding first_refusal
  first-here = rw e (rw (upto_next n i h) at v)

  pub first-again : o ≡ Ok tt → first_refusal f (upto (n - (i + 1)) (i + 1)) ≡ r
  unfolding ◌<|>◌
  first-again z = rw z at first-here

  pub first_out : (y : Refusal) → o ≡ Err y → noted (Err y) ≡ r
  unfolding ◌<|>◌
  first_out y z = rw z at first-here

pub first-start : (f : ℕ → Option Refusal) (n : ℕ) → first_refusal f (upto (n - 0) 0) ≡ first_refusal f (below n)
first-start f n = rw sub-zero

pub first_done : (f : ℕ → Option Refusal) (n i : ℕ) (r : Option Refusal) → n ≤ i → first_refusal f (upto (n - i) i) ≡ r → noted (Ok tt) ≡ r
unfolding first_refusal
first_done f n i r h v = rw (upto-none n i h) at v

-- ---- the next leg; x is what its test said

module _ (f : ℕ → Bool) (on : Bool) (n i r : ℕ) (h : i < n) (y x : Bool) (e : y ≡ f i) (g : x ≡ cond on y (not y)) (v : i + gap on (map f (upto (n - i) i)) ≡ r) where
  gap_here : i + cond x 0 (1 + gap on (map f (upto (n - (i + 1)) (i + 1)))) ≡ r
  unfolding gap
  gap_here = rw (g, e) (rw (upto_next n i h) at v)

  pub gap-again : x ≡ false → i + 1 + gap on (map f (upto (n - (i + 1)) (i + 1))) ≡ r
  gap-again z = omega (arith, rw z at gap_here)

  pub gap-out : x ≡ true → i ≡ r
  gap-out z = omega (arith, rw z at gap_here)

pub gap-done : (f : ℕ → Bool) (on : Bool) (n i r : ℕ) → n ≤ i → i + gap on (map f (upto (n - i) i)) ≡ r → i ≡ r
unfolding gap
gap-done f on n i r h v = sym (add-zero i) ∙ (rw (upto-none n i h) at v)

pub ruleset legs = (tests, first-start, first-again, first_out, first_done, gap-again, gap-out, gap-done)
