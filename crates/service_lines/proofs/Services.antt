-- The needs of the functions on whole records and on all services, for `search service`, `search services` and `search lines`. Assumes nothing.
use mathlib.Core.Path.{◌≡◌, refl, ap, sym, ◌∙◌}
use mathlib.Core.List.{List, [], ◌∷◌, map}
use mathlib.Core.Bool.{Bool, true, false, not, ◌&&◌}
use Prim.Native.Nat.{ℕ, zero, suc, ◌+◌, ◌-◌, ◌^◌, ◌≤◌, ◌<◌}
use native.Mathlib.Omega.{arith}
use lib.ListN.{length, get_or, take, drop, length-append, length-map, length-drop}
use lib.Seq.{drop-drop}
use lib.Dec.{leb}
use borrow.Author.Tests.{not-true, not-false, leb-true}
use Rattle.base.specs.Lists.{every}
use Rattle.base.proofs.Laws.{tests}
use Rattle.base.proofs.Loops.{and-true}
use Rattle.timetable.specs.Delivery.{Service}
use Rattle.timetable.specs.Layout.{service_head, call_size, category_size, day_size, extra_size, most_calls, most_categories, most_days, most_extras}
use Rattle.timetable.specs.Table.{rows_in, call_at, category_at, day_at, extra_at, opening_at, word_count_in, calls#, categories#, days#, extras#, category_place, day_place, extra_place, service_at, services_in, stops#, services#, services_place, stop_number_at, with_stop, resolved, table_of, counts_sound, sizes_sound, record_sound, records_sound}
use Rattle.timetable.specs.declared.Opening.{Opening}
use Rattle.timetable.specs.declared.RangeKind.TheVariants.{Category, Days, Extra}
use Rattle.timetable.proofs.Rows.{length-rows, rows_as}
use Rattle.table.specs.JustTable.{JustTable}
use Rattle.table.proofs.Says.{Sizes, head-word, record-says, record-sized}
use Rattle.table.proofs.JustTable.{just-says, just-word, services-are, services-sound}
use Rattle.table.proofs.Records.{rest-is, one-record, first_word}
use Rattle.plan_services.specs.Services.{service_lines, rest_lines, plan_lines}
use Rattle.writable.specs.Writable.{opening_writable, category_writable, days_writable, extra_writable, call_writable, service_writable}
use Rattle.service_lines.specs.Inner.Record.{here, part_rows, range_writable, call_rows, shown, Standing}
use Rattle.service_lines.proofs.Left.{rounds}

-- ---- what a record shows, by its rows

-- calls with their stops looked up are rows of such calls
pub map_rows : {X Y : Type 0} (g : X → Y) (f : List ℕ → X) (s n : ℕ) (w : List ℕ) → map g (rows_in f s n w) ≡ rows_in (λ (u : List ℕ). g (f u)) s n w
unfolding rows_in
map_rows g f s zero w = refl
map_rows g f s (suc n) w = ap (λ (r : List _). g (f w) ∷ r) (map_rows g f s n (drop s w))

pub calls-shown : (w s : List ℕ) → (shown w s).calls ≡ call_rows (table_of w).stops s
unfolding resolved service_at call_rows
calls-shown w s = map_rows (with_stop (stop_number_at (table_of w).stops)) call_at call_size (calls# s) (drop service_head s)

module _ (w s : List ℕ) where
  pub parts-writable : service_writable (shown w s)
      ≡ (opening_writable (opening_at s) && (every (range_writable Category) (part_rows Category s) && (every (range_writable Days) (part_rows Days s) && (every (range_writable Extra) (part_rows Extra s) && every call_writable (call_rows (table_of w).stops s)))))
  unfolding service_writable resolved service_at part_rows
  parts-writable =
      let g = sym (rows_as category_writable category_at here category_size (categories# s) (drop (category_place s) s)) in
      let v = sym (rows_as days_writable day_at here day_size (days# s) (drop (day_place s) s)) in
      let a = sym (rows_as extra_writable extra_at here extra_size (extras# s) (drop (extra_place s) s)) in
      let c = ap (every call_writable) (calls-shown w s) in
      λ i. opening_writable (opening_at s) && (g i && (v i && (a i && c i)))

  -- o is its opening line, t says whether it can be written; x, y, z say it of its *G, *A VE and other *A
  module _ (o : Opening) (p : o ≡ opening_at s) (t : Bool) (q : t ≡ opening_writable o) where
    opening-is : t ≡ opening_writable (opening_at s)
    opening-is = q ∙ ap opening_writable p

    pub opening-out : not t ≡ true → false ≡ service_writable (shown w s)
    opening-out h = sym (parts-writable ∙ rw (sym opening-is ∙ not-true t h))

    module _ (h : not t ≡ false) (x : Bool) (e : x ≡ every (range_writable Category) (part_rows Category s)) where
      pub categories-out : not x ≡ true → false ≡ service_writable (shown w s)
      categories-out n = sym (parts-writable ∙ rw (sym opening-is ∙ not-false t h, sym e ∙ not-true x n))

      module _ (n : not x ≡ false) (y : Bool) (f : y ≡ every (range_writable Days) (part_rows Days s)) where
        pub days-out : not y ≡ true → false ≡ service_writable (shown w s)
        days-out m = sym (parts-writable ∙ rw (sym opening-is ∙ not-false t h, sym e ∙ not-false x n, sym f ∙ not-true y m))

        module _ (m : not y ≡ false) (z : Bool) (g : z ≡ every (range_writable Extra) (part_rows Extra s)) where
          after-days : service_writable (shown w s) ≡ (z && every call_writable (call_rows (table_of w).stops s))
          after-days = parts-writable ∙ rw (sym opening-is ∙ not-false t h, sym e ∙ not-false x n, sym f ∙ not-false y m, g)

          pub extras-out : not z ≡ true → false ≡ service_writable (shown w s)
          extras-out l = sym (after-days ∙ rw (not-true z l))

          pub calls_last : not z ≡ false → (r : Bool) → r ≡ every call_writable (call_rows (table_of w).stops s) → r ≡ service_writable (shown w s)
          calls_last l r k = sym (after-days ∙ rw (not-false z l, k))

module _ (w s : List ℕ) (h : Standing w s) where
  pub standing-head : service_head ≤ length s
  standing-head = (record-says (stops# w) s h.sound).0.head

  pub standing-sized : sizes_sound s ≡ true
  standing-sized = record-sized (stops# w) s h.sound

pub ruleset service = (tests, standing-head, standing-sized, opening-out, categories-out, days-out, extras-out, calls_last)

-- ---- services one after the other: k are left from `at` on

module _ (w : List ℕ) (j : JustTable w) where
  pub services-start : services_place w ≤ length w
  services-start = omega (arith, (just-says w j).inside, (just-says w j).used_high)

  pub services-here : (at k : ℕ) → at ≡ services_place w → k ≡ services# w → records_sound (stops# w) k (drop at w) ≡ true
  services-here at k p q = rw (p, q) (services-sound w j)

-- all of them, as the table holds them; f is what is asked of them
abbrev pub shown_from : List ℕ → ℕ → ℕ → List Service
shown_from w k at = map (resolved (table_of w).stops) (services_in k (drop at w))

pub shown-all : (w : List ℕ) → JustTable w → (at k : ℕ) → at ≡ services_place w → k ≡ services# w → shown_from w k at ≡ (table_of w).services
shown-all w j at k p q = rw (p, q) (sym (services-are w j))

pub one-service : (k : ℕ) (u : List ℕ) → 0 < k → services_in k u ≡ service_at u ∷ services_in (k - 1) (drop (word_count_in u) u)
unfolding services_in
one-service zero u h = absurd (omega arith)
one-service (suc k) u h =
    let e : suc k - 1 ≡ k = omega arith in
    rw e

pub no-service : (k : ℕ) (u : List ℕ) → k ≤ 0 → services_in k u ≡ []
unfolding services_in
no-service zero u h = refl
no-service (suc k) u h = absurd (omega arith)

module _ (w : List ℕ) (at k : ℕ) (h : 0 < k) (v : records_sound (stops# w) k (drop at w) ≡ true) where
  both : (record_sound (stops# w) (drop at w) ≡ true) × (records_sound (stops# w) (k - 1) (drop (word_count_in (drop at w)) (drop at w)) ≡ true)
  both = and-true (record_sound (stops# w) (drop at w)) _ (rw (one-record (stops# w) k (drop at w) h) at v)

  sizes : Sizes (drop at w)
  sizes = (record-says (stops# w) (drop at w) both.0).0

  pub standing : JustTable w → Standing w (take (length w - at) (drop at w))
  standing j = record { just = j; sound = rw (rest-is w at) both.0 }

  pub records-inside : at < length w
  records-inside = omega (arith, sizes.head, length-drop at w)

  pub records-fit : at ≤ length w → (y : ℕ) → y ≡ get_or w at 0 → at + y ≤ length w
  records-fit i y q = omega (arith, sizes.said, sizes.inside, length-drop at w, first_word w at, records-inside)

  pub records-place : at ≤ length w → (y : ℕ) → y ≡ get_or w at 0 → length w < 2 ^ 64 → at + y < 2 ^ 64
  records-place i y q l = omega (arith, records-fit i y q)

  pub records-left : (y j : ℕ) → y ≡ get_or w at 0 → j + 1 ≡ k → records_sound (stops# w) j (drop (at + y) w) ≡ true
  records-left y j q o =
      let d : k - 1 ≡ j = omega arith in
      rw (first_word w at, ← q, drop-drop y at w, d) at both.1

  pub shown-now : (y : ℕ) → y ≡ get_or w at 0 → shown_from w k at ≡ shown w (take (length w - at) (drop at w)) ∷ shown_from w (k - 1) (at + y)
  shown-now y q = rw (one-service k (drop at w) h, rest-is w at, first_word w at, ← q, drop-drop y at w)

-- x says whether the service at `at` can be written
module _ (w : List ℕ) (at k : ℕ) (r x : Bool) (h : 0 < k) (i : records_sound (stops# w) k (drop at w) ≡ true) (e : x ≡ service_writable (shown w (take (length w - at) (drop at w)))) (v : every service_writable (shown_from w k at) ≡ r) where
  pub services-again : (y j : ℕ) → y ≡ get_or w at 0 → j + 1 ≡ k → not x ≡ false → every service_writable (shown_from w j (at + y)) ≡ r
  unfolding every
  services-again y j q o n =
      let d : k - 1 ≡ j = omega arith in
      rw (shown-now w at k h i y q, sym e ∙ not-false x n, d) at v

  pub services-out : not x ≡ true → false ≡ r
  unfolding every
  services-out n = rw (shown-now w at k h i (get_or w at 0) refl, sym e ∙ not-true x n) at v

pub services-done : (w : List ℕ) (at k : ℕ) (r : Bool) → k ≤ 0 → every service_writable (shown_from w k at) ≡ r → true ≡ r
unfolding every
services-done w at k r h v = rw (no-service k (drop at w) h) at v

pub services-all : (w : List ℕ) → JustTable w → (at k : ℕ) → at ≡ services_place w → k ≡ services# w → every service_writable (shown_from w k at) ≡ every service_writable (table_of w).services
services-all w j at k p q = ap (every service_writable) (shown-all w j at k p q)

pub start-place : (w : List ℕ) → JustTable w → (at : ℕ) → at ≡ services_place w → at ≤ length w
start-place w j at p = omega (arith, services-start w j)

pub ruleset services = (tests, rounds, just-word, start-place, services-here, services-all, standing, records-inside, records-fit, records-left, services-again, services-out, services-done)

-- ---- how many lines a service has

pub lines_are : (w s : List ℕ) → length (service_lines (shown w s)) ≡ 1 + calls# s + categories# s + days# s + extras# s
unfolding resolved service_at rest_lines
lines_are w s =
    simp (length-append, length-map, length-rows)
    (omega arith)

module _ (w s : List ℕ) (h : Standing w s) where
  highs : (calls# s ≤ most_calls) × (categories# s ≤ most_categories) × (days# s ≤ most_days) × (extras# s ≤ most_extras)
  highs =
      let e1 = (and-true (leb service_head (length s)) _ (standing-sized w s h)).1 in
      let counts = (and-true (counts_sound (calls# s) (categories# s) (days# s) (extras# s)) _ e1).0 in
      let r1 = (and-true (leb 2 (calls# s)) _ counts).1 in
      let (c, r2) = and-true (leb (calls# s) most_calls) _ r1 in
      let (g, r3) = and-true (leb (categories# s) most_categories) _ r2 in
      let (v, a) = and-true (leb (days# s) most_days) _ r3 in
      (leb-true (calls# s) most_calls c, leb-true (categories# s) most_categories g, leb-true (days# s) most_days v, leb-true (extras# s) most_extras a)

  pub standing-word : (i : ℕ) → i < service_head → i < length s
  standing-word i l = head-word s (standing-sized w s h) i l

  -- x, y, z, u are the counts
  module _ (x : ℕ) (p : x ≡ calls# s) where
    pub one-fits : 1 + x < 2 ^ 64
    one-fits = omega (arith, highs.0)

    module _ (y : ℕ) (q : y ≡ categories# s) where
      pub two-fit : 1 + x + y < 2 ^ 64
      two-fit = omega (arith, highs.0, highs.1)

      module _ (z : ℕ) (r : z ≡ days# s) where
        pub three-fit : 1 + x + y + z < 2 ^ 64
        three-fit = omega (arith, highs.0, highs.1, highs.2)

        module _ (u : ℕ) (t : u ≡ extras# s) where
          pub four-fit : 1 + x + y + z + u < 2 ^ 64
          four-fit = omega (arith, highs.0, highs.1, highs.2, highs.3)

          pub lines-sum : 1 + x + y + z + u ≡ length (service_lines (shown w s))
          lines-sum = rw (p, q, r, t) (sym (lines_are w s))

          pub lines-most : 1 + x + y + z + u ≤ 401
          lines-most = omega (arith, highs.0, highs.1, highs.2, highs.3)

pub ruleset lines = (tests, standing-word, one-fits, two-fit, three-fit, four-fit, lines-sum, lines-most)

-- ---- how many all services have: n were counted, and k services are left from `at` on

pub count-all : (w : List ℕ) → JustTable w → (at k : ℕ) → at ≡ services_place w → k ≡ services# w → 0 + length (plan_lines (shown_from w k at)) ≡ length (plan_lines (table_of w).services)
count-all w j at k p q = rw (shown-all w j at k p q) (omega arith)

lines_then : (t : Service) (u : List Service) → length (plan_lines (t ∷ u)) ≡ length (service_lines t) + length (plan_lines u)
unfolding plan_lines
lines_then t u = length-append (service_lines t) (plan_lines u)

-- x lines more
pub count-again : (w : List ℕ) (at k j n r x y : ℕ) → 0 < k → j + 1 ≡ k → records_sound (stops# w) k (drop at w) ≡ true → x ≡ length (service_lines (shown w (take (length w - at) (drop at w)))) → y ≡ get_or w at 0
    → n + length (plan_lines (shown_from w k at)) ≡ r → n + x + length (plan_lines (shown_from w j (at + y))) ≡ r
count-again w at k j n r x y h o i e q v =
    let d : k - 1 ≡ j = omega arith in
    let t = shown w (take (length w - at) (drop at w)) in
    let u = shown_from w (k - 1) (at + y) in
    let a : length (plan_lines (shown_from w k at)) ≡ length (service_lines t) + length (plan_lines u) = ap (λ (l : List Service). length (plan_lines l)) (shown-now w at k h i y q) ∙ lines_then t u in
    rw (← d) (omega (arith, a, e, v))

pub count-done : (w : List ℕ) (at k n r : ℕ) → k ≤ 0 → n + length (plan_lines (shown_from w k at)) ≡ r → n ≡ r
unfolding plan_lines
count-done w at k n r h v =
    let e = no-service k (drop at w) h in
    omega (arith, rw e at v)

pub ruleset counted = (tests, rounds, just-word, start-place, services-here, count-all, standing, records-inside, records-fit, records-place, records-left, count-again, count-done)
