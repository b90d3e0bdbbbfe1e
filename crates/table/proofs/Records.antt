-- The needs of the functions on whole records and on the table, a ruleset for each. Assumes nothing.
use mathlib.Core.Path.{◌≡◌, refl, ap, ◌∙◌, sym}
use mathlib.Core.List.{List, [], ◌∷◌}
use mathlib.Core.Bool.{Bool, true, false, not, ◌&&◌}
use Prim.Native.Nat.{ℕ, zero, suc, ◌+◌, ◌-◌, ◌*◌, ◌^◌, ◌≤◌, ◌<◌}
use native.Mathlib.Nat.{sub-zero, add-zero}
use native.Mathlib.Omega.{arith}
use lib.ListN.{length, get_or, take, drop, length-drop, length-take}
use lib.Seq.{drop-drop, get_or-drop, take_all, take-nil, drop-nil}
use lib.Dec.{leb, eqb}
use borrow.Author.Tests.{le-leb, lt-leb, eq-eqb, ne_eqb, not-true, not-false}
use Rattle.std.specs.Prelude.{Option, Some, None, is_some}
use Rattle.base.specs.Lists.{every}
use Rattle.base.proofs.Laws.{tests, by_eqb, apart}
use Rattle.timetable.specs.Layout.{header_size, class_size, service_head, call_size, category_size, day_size, extra_size, most_class}
use Rattle.timetable.specs.Runs.{opening_sound}
use Rattle.timetable.specs.Table.{rows_in, opening_at, call_at, legs_at, word_count_in, calls#, categories#, days#, extras#, category_place, day_place, extra_place, class_at, used_words, stops#, services#, services_place, classes#, used, table_of, class_sound, call_sound, legs_sound, counts_sound, sizes_sound, record_sound, records_sound, is_table}
use Rattle.timetable.specs.declared.Opening.{Opening}
use Rattle.timetable.proofs.Rows.{rows-again, rows_out, rows-done}
use Rattle.table.specs.JustTable.{record_end, header_sound, classes_place, bounds_sound, extras_sound}
use Rattle.table.specs.Steady.{calls_steady, records_steady, steady, look_by}
use Rattle.table.proofs.steady.Laws.{steady-sound}
use Rattle.table.proofs.Laws.{one_less}
use Rattle.table.proofs.Says.{Sizes, sizes-say, head-word, record-says, service-parts, HeadOf, header-says, header-word, table-says, table-word}

-- ---- the length of a record: said is its first word, y what its counts make it

module _ (w : List ℕ) (said y : ℕ) (a : said ≡ word_count_in w) (b : y ≡ record_end w) where
  pub length-differs : (said ≡ y → ⊥) → false ≡ (eqb (word_count_in w) (record_end w) && leb (word_count_in w) (length w))
  length-differs d = rw (← a, ← b, ne_eqb said y d)

  pub length-end : said ≡ y → leb said (length w) ≡ (eqb (word_count_in w) (record_end w) && leb (word_count_in w) (length w))
  length-end d = rw (← a, ← b, eq-eqb said y d)

-- its sizes; x says whether its counts are in their bounds, y whether its length is right
module _ (w : List ℕ) (h : service_head ≤ length w) (x : Bool) (e : x ≡ counts_sound (calls# w) (categories# w) (days# w) (extras# w)) where
  pub sizes-counts : not x ≡ true → false ≡ sizes_sound w
  sizes-counts n = rw (le-leb service_head (length w) h, sym e ∙ not-true x n)

  pub sizes-length : not x ≡ false → (y : Bool) → y ≡ (eqb (word_count_in w) (record_end w) && leb (word_count_in w) (length w)) → y ≡ sizes_sound w
  sizes-length n y f = f ∙ rw (le-leb service_head (length w) h, sym e ∙ not-false x n)

pub ruleset sizes = (tests, length-differs, length-end, sizes-counts, sizes-length)

-- ---- what a record holds but its calls: t says whether its opening line o is sound, y, z say whether its *G from g on and its *A VE from v on are sound

module _ (w : List ℕ) (o : Opening) (a : o ≡ opening_at w) (t : Bool) (b : t ≡ opening_sound o) where
  opening-is : t ≡ opening_sound (opening_at w)
  opening-is = b ∙ ap opening_sound a

  pub parts-opening : not t ≡ true → false ≡ bounds_sound w
  parts-opening h = sym (rw (sym opening-is ∙ not-true t h))

  module _ (h : not t ≡ false) (g : ℕ) (i : g ≡ category_place w) (y : Bool) (f : y ≡ every (legs_sound false (calls# w)) (rows_in (legs_at 1) category_size (categories# w) (drop g w))) where
    after-opening : bounds_sound w ≡ (y && (every (legs_sound false (calls# w)) (rows_in (legs_at 1) day_size (days# w) (drop (day_place w) w)) && every (legs_sound true (calls# w)) (rows_in (legs_at 2) extra_size (extras# w) (drop (extra_place w) w))))
    after-opening = rw (sym opening-is ∙ not-false t h, f, i)

    pub parts-categories : not y ≡ true → false ≡ bounds_sound w
    parts-categories m = sym (after-opening ∙ rw (not-true y m))

    module _ (m : not y ≡ false) (v : ℕ) (j : v ≡ day_place w) (z : Bool) (k : z ≡ every (legs_sound false (calls# w)) (rows_in (legs_at 1) day_size (days# w) (drop v w))) where
      after-categories : bounds_sound w ≡ (z && every (legs_sound true (calls# w)) (rows_in (legs_at 2) extra_size (extras# w) (drop (extra_place w) w)))
      after-categories = after-opening ∙ rw (not-false y m, k, j)

      pub parts-days : not z ≡ true → false ≡ bounds_sound w
      parts-days o = sym (after-categories ∙ rw (not-true z o))

      pub parts-extras : not z ≡ false → (p : ℕ) → p ≡ extra_place w → (r : Bool) → r ≡ every (legs_sound true (calls# w)) (rows_in (legs_at 2) extra_size (extras# w) (drop p w)) → r ≡ bounds_sound w
      parts-extras o p l r q = sym (after-categories ∙ rw (not-false z o, q, l))

pub ruleset parts = (tests, parts-opening, parts-categories, parts-days, parts-extras)

-- its other *A alone, from p on
pub extras-are : (w : List ℕ) (p : ℕ) → p ≡ extra_place w → (r : Bool) → r ≡ every (legs_sound true (calls# w)) (rows_in (legs_at 2) extra_size (extras# w) (drop p w))
    → r ≡ extras_sound w
extras-are w p e r q = rw e at q

pub ruleset extras = (tests, extras-are)

-- ---- one record; x says whether its sizes are sound, b whether all but its calls is

-- its calls are within bounds
abbrev calls_sound : ℕ → List ℕ → Bool
calls_sound stops w = every (call_sound stops) (rows_in call_at call_size (calls# w) (drop service_head w))

record-split : (stops : ℕ) (w : List ℕ) → sizes_sound w ≡ true → record_sound stops w ≡ (bounds_sound w && calls_sound stops w)
unfolding record_sound
record-split stops w e =
    rw e
    (service-parts stops w
    ∙ turned (opening_sound (opening_at w)) (calls_sound stops w) (every (legs_sound false (calls# w)) (rows_in (legs_at 1) category_size (categories# w) (drop (category_place w) w)))
    (every (legs_sound false (calls# w)) (rows_in (legs_at 1) day_size (days# w) (drop (day_place w) w))) (every (legs_sound true (calls# w)) (rows_in (legs_at 2) extra_size (extras# w) (drop (extra_place w) w))))
  where
    turned : (o c g v a : Bool) → (o && (c && (g && (v && a)))) ≡ ((o && (g && (v && a))) && c)
    turned false c g v a = refl
    turned true false g v a = sym (never (g && (v && a)))
      where
        never : (b : Bool) → (b && false) ≡ false
        never true = refl
        never false = refl
    turned true true g v a = sym (always (g && (v && a)))
      where
        always : (b : Bool) → (b && true) ≡ b
        always true = refl
        always false = refl

module _ (w : List ℕ) (x : Bool) (e : x ≡ sizes_sound w) where
  pub record-sizes : (stops : ℕ) → not x ≡ true → false ≡ record_sound stops w
  unfolding record_sound
  record-sizes stops n = rw (sym e ∙ not-true x n)

  module _ (n : not x ≡ false) where
    pub record-sized : sizes_sound w ≡ true
    record-sized = sym e ∙ not-false x n

    pub record-room : record_end w ≤ length w
    record-room = (sizes-say w record-sized).inside

    pub record-head : 6 < length w
    record-head = head-word w record-sized 6 (omega arith)

    pub record-calls : 12 + 7 * get_or w 6 0 ≤ length w
    record-calls = omega (arith, record-room)

    module _ (stops : ℕ) (b : Bool) (f : b ≡ bounds_sound w) where
      pub record-bounds : not b ≡ true → false ≡ record_sound stops w
      record-bounds m = sym (record-split stops w record-sized ∙ rw (sym f ∙ not-true b m))

      pub record-parts : not b ≡ false → (y : Bool) → y ≡ calls_sound stops w → y ≡ record_sound stops w
      record-parts m y g = g ∙ sym (record-split stops w record-sized ∙ rw (sym f ∙ not-false b m))

      -- s says whether its calls are steady
      module _ (m : not b ≡ false) (s : Bool) (g : s ≡ calls_steady stops w) where
        pub look-steady : s ≡ true → Some true ≡ look_by (record_sound stops w) (calls_steady stops w)
        look-steady h =
            let z : record_sound stops w ≡ true = sym (record-parts m true (sym (steady-sound stops w (sym g ∙ h) (sizes-say w record-sized).calls-low))) in
            sym (rw (z, sym g ∙ h))

        module _ (h : s ≡ false) (y : Bool) (q : y ≡ calls_sound stops w) where
          pub look-sound : y ≡ true → Some false ≡ look_by (record_sound stops w) (calls_steady stops w)
          look-sound l = sym (rw (← (record-parts m y q), sym g ∙ h, l))

          pub look-unsound : y ≡ false → None ≡ look_by (record_sound stops w) (calls_steady stops w)
          look-unsound l = sym (rw (← (record-parts m y q), sym g ∙ h, l))

pub look_none : (t s : Bool) → false ≡ t → None ≡ look_by t s
look_none t s e = ap (λ (b : Bool). look_by b s) e

pub ruleset one = (tests, record-sizes, record-sized, record-room, record-head, record-calls, record-bounds, record-parts, look-steady, look-sound, look-unsound, look_none)

-- ---- parts of the words

pub rest-is : (w : List ℕ) (at : ℕ) → take (length w - at) (drop at w) ≡ drop at w
rest-is w at = take_all (length w - at) (drop at w) (rw length-drop (omega arith))

-- the same as a need: p is a place that was computed
pub rest_from : (w : List ℕ) (p at : ℕ) → p ≡ at → take (length w - p) (drop p w) ≡ drop at w
rest_from w p at e = rw e (rest-is w at)

pub part-is : (a b : ℕ) (l : List ℕ) → take (b - a) (drop a l) ≡ drop a (take b l)
part-is zero b l = rw sub-zero
part-is (suc a) zero l =
    let e : 0 - suc a ≡ 0 = omega arith in
    rw e (sym (drop-nil (suc a)))
part-is (suc a) (suc b) [] = take-nil (suc b - suc a)
part-is (suc a) (suc b) (x ∷ l) =
    let e : suc b - suc a ≡ b - a = omega arith in
    rw e (part-is a b l)

-- ---- records one after the other; o is what the look at the one at `at` tells

pub one-record : (stops k : ℕ) (u : List ℕ) → 0 < k → records_sound stops k u ≡ (record_sound stops u && records_sound stops (k - 1) (drop (word_count_in u) u))
unfolding records_sound
one-record stops zero u h = absurd (omega arith)
one-record stops (suc k) u h =
    let e : suc k - 1 ≡ k = omega arith in
    rw e

pub first_word : (w : List ℕ) (at : ℕ) → get_or (drop at w) 0 0 ≡ get_or w at 0
first_word w at = get_or-drop at w 0 0 ∙ rw add-zero

one-steady : (stops k : ℕ) (u : List ℕ) → 0 < k → records_steady stops k u ≡ (calls_steady stops u && records_steady stops (k - 1) (drop (word_count_in u) u))
unfolding records_steady
one-steady stops zero u h = absurd (omega arith)
one-steady stops (suc k) u h =
    let e : suc k - 1 ≡ k = omega arith in
    rw e

-- what a look tells of a table
told-table : (t s b : Bool) → look_by t s ≡ Some b → t ≡ true
told-table true s b e = refl
told-table false s b e = apart (cc)

told-steady : (t s b : Bool) → look_by t s ≡ Some b → b ≡ s
told-steady true s b e = let z : s ≡ b = cc in sym z
told-steady false s b e = apart (cc)

told-none : (t s : Bool) → look_by t s ≡ None → t ≡ false
told-none true s e = apart (cc)
told-none false s e = refl

module _ (stops : ℕ) (w : List ℕ) (at : ℕ) (o : Option Bool) (i : at ≤ length w) (e : o ≡ look_by (record_sound stops (take (length w - at) (drop at w))) (calls_steady stops (take (length w - at) (drop at w)))) where
  look-here : o ≡ look_by (record_sound stops (drop at w)) (calls_steady stops (drop at w))
  look-here = e ∙ ap (λ (u : List ℕ). look_by (record_sound stops u) (calls_steady stops u)) (rest-is w at)

  module _ (b : Bool) (q : o ≡ Some b) where
    sound-here : record_sound stops (drop at w) ≡ true
    sound-here = told-table (record_sound stops (drop at w)) (calls_steady stops (drop at w)) b (sym look-here ∙ q)

    steady-here : b ≡ calls_steady stops (drop at w)
    steady-here = told-steady (record_sound stops (drop at w)) (calls_steady stops (drop at w)) b (sym look-here ∙ q)

    sizes-here : Sizes (drop at w)
    sizes-here = (record-says stops (drop at w) sound-here).0

    pub records-inside : at < length w
    records-inside = omega (arith, sizes-here.head, length-drop at w)

    pub records-fit : at + get_or w at 0 ≤ length w
    records-fit = omega (arith, sizes-here.said, sizes-here.inside, length-drop at w, first_word w at, records-inside)

  -- it is the c-th of n
  module _ (n c : ℕ) (r : Bool) (h : c < n) where
    pub records-again : records_sound stops (n - c) (drop at w) ≡ r → (b : Bool) → o ≡ Some b → records_sound stops (n - (c + 1)) (drop (at + get_or w at 0) w) ≡ r
    records-again v b q = rw (one-record stops (n - c) (drop at w) (omega arith), sound-here b q, first_word w at, drop-drop (get_or w at 0) at w, one_less n c) at v

    pub records-out : records_sound stops (n - c) (drop at w) ≡ r → o ≡ None → false ≡ r
    records-out v q = rw (one-record stops (n - c) (drop at w) (omega arith), told-none (record_sound stops (drop at w)) (calls_steady stops (drop at w)) (sym look-here ∙ q)) at v

    pub records-steady : (s : Bool) → (s && records_steady stops (n - c) (drop at w)) ≡ r → (b : Bool) → o ≡ Some b → ((s && b) && records_steady stops (n - (c + 1)) (drop (at + get_or w at 0) w)) ≡ r
    records-steady s v b q =
        and_assoc s b (records_steady stops (n - (c + 1)) (drop (at + get_or w at 0) w))
        ∙ (rw (one-steady stops (n - c) (drop at w) (omega arith), ← (steady-here b q), first_word w at, drop-drop (get_or w at 0) at w, one_less n c) at v)
      where
        and_assoc : (a b c : Bool) → ((a && b) && c) ≡ (a && (b && c))
        and_assoc true b c = refl
        and_assoc false b c = refl

pub records-done : (stops : ℕ) (w : List ℕ) (at k : ℕ) (r : Bool) → at ≤ length w → k ≤ 0 → records_sound stops k (drop at w) ≡ r → eqb at (length w) ≡ r
unfolding records_sound
records-done stops w at zero r i h v =
    by_eqb (λ (t : Bool). t ≡ eqb (length w - at) 0) at (length w) (λ q. sym (eq-eqb (length w - at) 0 (omega arith))) (λ d. sym (ne_eqb (length w - at) 0 (λ z. d (omega arith))))
    ∙ rw (length-drop at w) at v
records-done stops w at (suc k) r i h v = absurd (omega arith)

steady-done : (stops : ℕ) (u : List ℕ) (k : ℕ) (s r : Bool) → k ≤ 0 → (s && records_steady stops k u) ≡ r → s ≡ r
unfolding records_steady
steady-done stops u zero true r h v = v
steady-done stops u zero false r h v = v
steady-done stops u (suc k) s r h v = absurd (omega arith)

module _ (stops : ℕ) (w : List ℕ) (at n c : ℕ) (t s b : Bool) (i : at ≤ length w) (h : n ≤ c) (v : records_sound stops (n - c) (drop at w) ≡ t) (u : (b && records_steady stops (n - c) (drop at w)) ≡ s) where
  ends : eqb at (length w) ≡ t
  ends = records-done stops w at (n - c) t i (omega arith) v

  pub look-done : at ≡ length w → Some b ≡ look_by t s
  look-done q = rw (sym ends ∙ eq-eqb at (length w) q, steady-done stops (drop at w) (n - c) b s (omega arith) u)

  pub look-before : (at ≡ length w → ⊥) → None ≡ look_by t s
  look-before d = rw (sym ends ∙ ne_eqb at (length w) d)

pub ruleset places = (tests, records-inside, records-fit)

pub ruleset records = (tests, records-inside, records-fit, records-again, records-out, records-steady, look-done, look-before, look_none)

-- ---- the table; x says whether its header is sound, y whether its classes are

pub table-short : (w : List ℕ) → length w < header_size → false ≡ is_table w
unfolding is_table
table-short w h = rw (lt-leb header_size (length w) h)

module _ (w : List ℕ) (h : header_size ≤ length w) (x : Bool) (e : x ≡ header_sound w) where
  pub table-head : not x ≡ true → false ≡ is_table w
  unfolding is_table
  table-head n = rw (le-leb header_size (length w) h, sym e ∙ not-true x n)

  module _ (n : not x ≡ false) where
    head-here : HeadOf w
    head-here = header-says w (sym e ∙ not-false x n)

    pub table-header : header_sound w ≡ true
    table-header = sym e ∙ not-false x n

    pub table-room : (end : ℕ) → end ≡ used_words w → end ≤ length w
    table-room end p = omega (arith, head-here.used_high)

    pub table-scaled : (at : ℕ) → at ≡ services_place w → length w * 4 < 2 ^ 63 → at * 4 < 2 ^ 64
    table-scaled at q l = omega (arith, head-here.inside, head-here.used_high)

    module _ (at end : ℕ) (q : at ≡ services_place w) (p : end ≡ used_words w) where
      pub table-order : at ≤ end
      table-order = omega (arith, head-here.inside)

    module _ (y : Bool) (g : y ≡ every class_sound (table_of w).classes) where
      pub table-classes : not y ≡ true → false ≡ is_table w
      unfolding is_table
      table-classes m = rw (le-leb header_size (length w) h, sym e ∙ not-false x n, sym g ∙ not-true y m)

      module _ (m : not y ≡ false) (at end : ℕ) (q : at ≡ services_place w) (p : end ≡ used_words w) where
        rest-is-table : records_sound (stops# w) (services# w) (take (end - at) (drop at w)) ≡ is_table w
        unfolding is_table
        rest-is-table = sym (rw (le-leb header_size (length w) h, sym e ∙ not-false x n, sym g ∙ not-false y m, ← p, ← q, ← (part-is at end w)))

        pub table-rest : (r : Option Bool) → r ≡ look_by (records_sound (stops# w) (services# w) (take (end - at) (drop at w))) (records_steady (stops# w) (services# w) (take (end - at) (drop at w))) → r ≡ look_by (is_table w) (steady w)
        table-rest r f = f ∙ ap (λ (b : Bool). look_by b (records_steady (stops# w) (services# w) (take (end - at) (drop at w)))) rest-is-table ∙ ap (λ (u : List ℕ). look_by (is_table w) (records_steady (stops# w) (services# w) u)) (part-is at end w ∙ rw (p, q))

-- l is what a look at the words tells
module _ (w : List ℕ) (l : Option Bool) (e : l ≡ look_by (is_table w) (steady w)) where
  pub table-told : (x : Bool) → x ≡ is_some l → x ≡ is_table w
  table-told x f = f ∙ ap is_some e ∙ go (is_table w)
    where
      go : (t : Bool) → is_some (look_by t (steady w)) ≡ t
      go true = refl
      go false = refl

  pub look-table : (b : Bool) → l ≡ Some b → is_table w ≡ true
  look-table b q = told-table (is_table w) (steady w) b (sym e ∙ q)

  pub look_steady : (b : Bool) → l ≡ Some b → b ≡ steady w
  look_steady b q = told-steady (is_table w) (steady w) b (sym e ∙ q)

  pub look-no-table : l ≡ None → is_table w ≡ false
  look-no-table q = told-none (is_table w) (steady w) (sym e ∙ q)

pub ruleset whole = (tests, look_none, table-told, table-short, table-head, table-header, table-classes, table-order, table-scaled, table-room, table-rest)

-- ---- the words used

pub used-room : (w : List ℕ) → is_table w ≡ true → (s : ℕ) → s ≡ used_words w → s ≤ length w
used-room w e s q = omega (arith, (table-says w e).used_high)

pub used-are : (w : List ℕ) (s : ℕ) → s ≡ used_words w → take (s - 0) w ≡ used w
used-are w s q = rw (sub-zero, q)

pub ruleset front = (tests, table-word, used-room, used-are)

-- ---- the classes, for `search classes`: of a sound header, where they begin; at is where the services begin, k how many classes there are, end how
-- many words are used

module _ (w : List ℕ) (e : header_sound w ≡ true) where
  module _ (at k : ℕ) (p : at ≡ services_place w) (q : k ≡ classes# w) where
    pub classes-before : class_size * k ≤ at
    classes-before = omega (arith, (header-says w e).place)

    pub classes-begin : at - class_size * k ≡ classes_place w
    classes-begin = omega (arith, (header-says w e).place)

  module _ (end : ℕ) (p : end ≡ used_words w) where
    pub classes-end : end ≤ length w
    classes-end = omega (arith, (header-says w e).used_high)

    module _ (at : ℕ) (q : at ≡ classes_place w) where
      pub classes-room : at + class_size * classes# w ≤ length (take (end - 0) w)
      classes-room = rw length-take (omega (arith, (header-says w e).used_high, (header-says w e).place, (header-says w e).inside))

      pub classes-of : (r : Bool) → r ≡ every class_sound (rows_in class_at class_size (classes# w) (drop at (take (end - 0) w))) → r ≡ every class_sound (table_of w).classes
      unfolding table_of
      classes-of r f = f ∙ rw (q, used-are w end p)

-- ---- the c-th of n stands at p

module _ (w : List ℕ) (p n c : ℕ) (r : Bool) (h : c < n) (v : every class_sound (rows_in class_at class_size (n - c) (drop p w)) ≡ r) where
  class-here : class_sound (class_at (drop p w)) ≡ leb (get_or w (p + 1) 0) most_class
  class-here = rw (get_or-drop p w 1 0)

  pub classes-again : get_or w (p + 1) 0 ≤ most_class → every class_sound (rows_in class_at class_size (n - (c + 1)) (drop (p + class_size) w)) ≡ r
  classes-again l = rw (one_less n c) at (rows-again class_sound class_at class_size w p (n - c) r true (omega arith) (sym (class-here ∙ le-leb (get_or w (p + 1) 0) most_class l)) v refl)

  pub classes-out : most_class < get_or w (p + 1) 0 → false ≡ r
  classes-out l = rows_out class_sound class_at class_size w p (n - c) r false (omega arith) (sym (class-here ∙ lt-leb (get_or w (p + 1) 0) most_class l)) v refl

pub classes-done : (w : List ℕ) (n c : ℕ) (r : Bool) → n ≤ c → every class_sound (rows_in class_at class_size (n - c) w) ≡ r → true ≡ r
classes-done w n c r h = rows-done class_sound class_at class_size w (n - c) r (omega arith)

pub ruleset classes = (tests, header-word, classes-before, classes-begin, classes-end, classes-room, classes-of, classes-again, classes-out, classes-done)
