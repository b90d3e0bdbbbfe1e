-- What stands in the record of a service, for `search held`: s are the words from it on. Assumes nothing.
use mathlib.Core.Path.{◌≡◌, refl, sym, ap, ◌∙◌}
use mathlib.Core.List.{List}
use mathlib.Core.Bool.{Bool, true}
use Prim.Native.Nat.{ℕ, ◌+◌, ◌*◌, ◌^◌, ◌≤◌, ◌<◌}
use native.Mathlib.Omega.{arith}
use lib.ListN.{length, drop, length-drop}
use lib.Dec.{eqb}
use Rattle.base.proofs.Laws.{tests}
use Rattle.timetable.specs.Layout.{service_head, call_size, category_size, latest_time, all_flags}
use Rattle.timetable.specs.Delivery.{CategoryRange}
use Rattle.timetable.specs.Legs.{covering}
use Rattle.timetable.specs.Table.{call_at, category_at, calls#, categories#, category_place, service_at, sizes_sound, record_sound}
use Rattle.timetable.specs.Inner.Words.{category_read}
use Rattle.timetable.specs.declared.CategoryWords.{CategoryWords}
use Rattle.timetable.specs.Run.{name_by, category_on}
use Rattle.timetable.specs.declared.Call.{Call}
use Rattle.table.proofs.Says.{sizes-say, head-word, call-sound, call-says}
use Rattle.table.proofs.Records.{rest_from}
use Rattle.cover.specs.Inner.Cover.{once_in, cover_place_from}
use Rattle.std.specs.Prelude.{Option, Some, None}
use Rattle.cover.proofs.Rows.{covering-rows, row_at, first_row, place-fits}
use Rattle.course.proofs.legs.Legs.{record-ends}

module _ (s : List ℕ) (e : sizes_sound s ≡ true) where
  -- the i-th call of a stretch from call a on with n legs
  module _ (a n i : ℕ) (b : a + n < calls# s) (h : i ≤ n) where
    pub leg-fits : a + i < 2 ^ 32
    leg-fits = omega (arith, (sizes-say s e).calls-high)

    pub next_fits : i + 1 < 2 ^ 32
    next_fits = omega (arith, (sizes-say s e).calls-high)

    pub leg-within : a + i < calls# s
    leg-within = omega arith

  module _ (p : ℕ) (q : p ≡ category_place s) where
    pub categories-within : p ≤ length s
    categories-within = omega (arith, record-ends s e)

    pub categories-scaled : length s * 4 < 2 ^ 63 → p * 4 < 2 ^ 64
    categories-scaled l = omega (arith, categories-within)

  pub categories-room : (g : List ℕ) → g ≡ drop (category_place s) s → categories# s * category_size ≤ length g
  categories-room g q = rw (q, length-drop (category_place s) s) (omega (arith, record-ends s e))

  pub category-inside : (g : List ℕ) → g ≡ drop (category_place s) s → (leg p : ℕ) (x : Option ℕ) → x ≡ cover_place_from leg category_size 0 (categories# s) g → x ≡ Some p → p + category_size ≤ length g
  category-inside g q leg p x f k = omega (arith, categories-room g q, place-fits leg category_size (categories# s) p x g f k)

  module _ (k : ℕ) (h : k < calls# s) where
    pub call_fits : (y : ℕ) → y ≡ k → service_head + call_size * y + call_size ≤ length s
    call_fits y z = omega (arith, z, (sizes-say s e).inside)

-- what the i-th call of the stretch keeps, in a table with so many stops
module _ (stops : ℕ) (s : List ℕ) (e : record_sound stops s ≡ true) (a n i : ℕ) (b : a + n < calls# s) (h : i ≤ n) (c : Call) (q : c ≡ call_at (drop (service_head + call_size * (a + i)) s)) where
  bounds : (c.stop < stops) × (c.arrival ≤ latest_time) × (c.departure ≤ latest_time) × (c.flags ≤ all_flags)
  bounds = call-says stops c (rw q (call-sound stops s e (a + i) (omega arith)))

  pub call-stop : c.stop < stops
  call-stop = bounds.0

  pub call-arrival : c.arrival ≤ latest_time
  call-arrival = bounds.1

  pub call-departure : c.departure ≤ latest_time
  call-departure = bounds.2

  pub call_flags : c.flags ≤ all_flags
  call_flags = bounds.3

pub call-is : (s : List ℕ) (k y : ℕ) (c : Call) → y ≡ k → c ≡ call_at (drop (service_head + call_size * y) s) → c ≡ call_at (drop (service_head + call_size * k) s)
call-is s k y c z q = rw z at q

module _ (s g : List ℕ) (leg : ℕ) (q : g ≡ drop (category_place s) s) where
  pub once_is : (x : Bool) → x ≡ once_in category_size (categories# s) g leg → x ≡ eqb (covering (λ (r : CategoryRange). r.legs) (service_at s).categories leg) 1
  unfolding service_at
  once_is x e = e ∙ ap (λ (m : ℕ). eqb m 1) (covering-rows category_at (λ (r : CategoryRange). r.legs) category_size (λ u. refl) leg (categories# s) g) ∙ rw q

  module _ (x : Option ℕ) (e : x ≡ cover_place_from leg category_size 0 (categories# s) g) where
    named : name_by (row_at category_at (λ (r : CategoryRange). r.legs) category_size (λ u. refl) g x) ≡ category_on (service_at s) leg
    unfolding service_at
    named = ap (λ (y : Option ℕ). name_by (row_at category_at (λ (r : CategoryRange). r.legs) category_size (λ u. refl) g y)) e ∙ ap name_by (sym (first_row category_at (λ (r : CategoryRange). r.legs) category_size (λ u. refl) leg (categories# s) g)) ∙ rw q

    pub category-none : x ≡ None → 0 ≡ category_on (service_at s) leg
    category-none k = rw k at named

    pub category-there : (p : ℕ) → x ≡ Some p → (range : CategoryWords) → range ≡ category_read (category_at (drop p g)) → range.name ≡ category_on (service_at s) leg
    category-there p k range z = ap (λ (y : CategoryWords). y.name) z ∙ (rw k at named)

pub ruleset held = (tests, record-ends, head-word, categories-within, categories-scaled, categories-room, category-inside, call_fits, call-is, rest_from, once_is, category-none, category-there)
