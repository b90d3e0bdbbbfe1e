-- The check as a whole: of the look-ups, for `search lookups`; of the calls and their mark, for `search marks`; of the index, for `search wholes`; of any words, for `search any`. Assumes nothing.
use mathlib.Core.Path.{◌≡◌, refl, ap, ◌∙◌, sym}
use mathlib.Core.List.{List, [], ◌∷◌, ◌++◌}
use mathlib.Core.Bool.{Bool, true, false, not, ◌&&◌, cond}
use Prim.Native.Nat.{ℕ, zero, suc, ◌+◌, ◌-◌, ◌*◌, ◌≤◌, ◌<◌}
use native.Mathlib.Nat.{zero-add, sub-zero}
use native.Mathlib.Omega.{arith}
use lib.ListN.{length, get_or, take, drop, length-drop, length-append}
use lib.Seq.{drop-drop, length-take-le, take_all, take_at}
use lib.Dec.{eqb}
use borrow.Author.Tests.{not-true, not-false}
use Rattle.std.specs.Prelude.{Option, Some, None}
use Rattle.base.proofs.Laws.{tests, clash}
use Rattle.timetable.specs.Table.{bit_fields#, stops#, interchanges#, services#, classes#, used, is_table}
use Rattle.table.specs.Steady.{steady, look_by}
use Rattle.table.proofs.Records.{look-no-table}
use Rattle.table.proofs.JustTable.{just-header}
use Rattle.chain_check.specs.Tally.{same}
use Rattle.chain_check.proofs.Needs.{differs, same_refl, same-is}
use Rattle.index.specs.Index.{stops_from, interchanges_from, classes_from, services_from, index_size, field_section, stop_section, interchange_section, class_section, places_of, chains_of, index_of}
use Rattle.index.specs.declared.Section.{Section}
use Rattle.index.proofs.Agrees.{length-of}
use Rattle.indexing.proofs.Chains.{just-fields, just-stops, just-interchanges, just-classes}
use Rattle.calls.specs.Calls.{call_index_of}
use Rattle.whole_index.specs.Whole.{steady_mark, marked_calls, whole_index_of}
use Rattle.index.proofs.Long.{lookups-long}
use Rattle.whole_index.proofs.Whole.{marked-long, whole_long}
use Rattle.whole_index.proofs.Answers.{is-table, is-just, is-steady}
use Rattle.index_check.specs.Check.{checked_of}
use Rattle.index_check.specs.Inner.Parts.{chains_right}
use Rattle.index_check.specs.declared.IndexCheck.{IndexCheck}
use Rattle.index_check.specs.declared.IndexCheck.TheVariants.{Right, Refused}
use Rattle.index_check.proofs.Sections.{room_fields, room-stops, room-interchanges, room-classes}

-- ---- words put together: the front is the same, and so is the rest

and_assoc : (a b c : Bool) → (a && (b && c)) ≡ ((a && b) && c)
and_assoc true b c = refl
and_assoc false b c = refl

pub same-split : (c d x : List ℕ) (n : ℕ) → length c ≡ n → same x (c ++ d) ≡ (same (take n x) c && same (drop n x) d)
unfolding same
same-split [] d x zero e = refl
same-split [] d x (suc n) e = absurd (omega arith)
same-split (y ∷ c) d x zero e = absurd (omega arith)
same-split (y ∷ c) d [] (suc n) e = refl
same-split (y ∷ c) d (a ∷ x) (suc n) e = ap (λ (t : Bool). eqb a y && t) (same-split c d x n (omega arith)) ∙ and_assoc (eqb a y) (same (take n x) c) (same (drop n x) d)

-- ---- the look-ups

module _ (w x : List ℕ) where
  section : (a : List ℕ) (from n : ℕ) (c d : List ℕ) → a ≡ drop from x → length c ≡ n → same a (c ++ d) ≡ (same (take n (drop from x)) c && same (drop (from + n) x) d)
  section a from n c d q e = rw q (same-split c d (drop from x) n e ∙ rw (drop-drop n from x))

  pub lookups-are : same x (index_of w) ≡ ((chains_right w x (field_section w) && chains_right w x (stop_section w)) && ((chains_right w x (interchange_section w) && chains_right w x (class_section w)) && same (drop (services_from w) x) (places_of w)))
  unfolding index_of chains_right
  lookups-are =
      let u : List ℕ = chains_of w (class_section w) ++ places_of w in
      let v : List ℕ = chains_of w (interchange_section w) ++ u in
      section x 0 (2 * bit_fields# w) (chains_of w (field_section w)) (chains_of w (stop_section w) ++ v) refl (length-of w (field_section w))
      ∙ ap (λ (t : Bool). chains_right w x (field_section w) && t) (section (drop (0 + 2 * bit_fields# w) x) (stops_from w) (2 * stops# w) (chains_of w (stop_section w)) v (ap (λ (j : ℕ). drop j x) (zero-add (2 * bit_fields# w))) (length-of w (stop_section w)))
      ∙ and_assoc (chains_right w x (field_section w)) (chains_right w x (stop_section w)) (same (drop (interchanges_from w) x) v)
      ∙ ap (λ (t : Bool). (chains_right w x (field_section w) && chains_right w x (stop_section w)) && t) (
      section (drop (interchanges_from w) x) (interchanges_from w) (2 * interchanges# w) (chains_of w (interchange_section w)) u refl (length-of w (interchange_section w))
      ∙ ap (λ (t : Bool). chains_right w x (interchange_section w) && t) (section (drop (classes_from w) x) (classes_from w) (2 * classes# w) (chains_of w (class_section w)) (places_of w) refl (length-of w (class_section w)))
      ∙ and_assoc (chains_right w x (interchange_section w)) (chains_right w x (class_section w)) (same (drop (services_from w) x) (places_of w))
      )

  -- a says whether the first two sections are right, b whether the other two are
  module _ (r s : Section) (p : r ≡ field_section w) (q : s ≡ stop_section w) (a : Bool) (e : a ≡ (chains_right w x r && chains_right w x s)) where
    early : a ≡ (chains_right w x (field_section w) && chains_right w x (stop_section w))
    early = e ∙ rw (p, q)

    pub early-wrong : not a ≡ true → false ≡ same x (index_of w)
    early-wrong n = sym (lookups-are ∙ rw (sym early ∙ not-true a n))

    module _ (n : not a ≡ false) (u v : Section) (i : u ≡ interchange_section w) (j : v ≡ class_section w) (b : Bool) (f : b ≡ (chains_right w x u && chains_right w x v)) where
      late : b ≡ (chains_right w x (interchange_section w) && chains_right w x (class_section w))
      late = f ∙ rw (i, j)

      pub late-wrong : not b ≡ true → false ≡ same x (index_of w)
      late-wrong m = sym (lookups-are ∙ rw (sym early ∙ not-false a n, sym late ∙ not-true b m))

      pub places-tell : not b ≡ false → (o : ℕ) → o ≡ services_from w → (c : Bool) → c ≡ same (drop o x) (places_of w) → c ≡ same x (index_of w)
      places-tell m o y c g = g ∙ sym (lookups-are ∙ rw (sym early ∙ not-false a n, sym late ∙ not-false b m, y))

pub places-long : (w x : List ℕ) (p : ℕ) → length x ≡ index_size w → p ≡ services_from w → p + services# w ≡ length x
places-long w x p l q = rw (q, l)

pub ruleset lookups = (tests, just-header, just-fields, just-stops, just-interchanges, just-classes, room_fields, room-stops, room-interchanges, room-classes, early-wrong, late-wrong, places-long, places-tell)

-- ---- the calls and the mark; m is the mark of a table whose calls are steady or not, b whether the words before the last are the calls

module _ (w y : List ℕ) where
  pub marked-none : length y ≡ 0 → false ≡ same y (marked_calls w)
  marked-none z = differs y (marked_calls w) (λ e. absurd (omega (arith, ap length e, marked-long w)))

  pub marked-some : (length y ≡ 0 → ⊥) → 1 ≤ length y
  marked-some = some-long (length y)
    where
      some-long : (n : ℕ) → (n ≡ 0 → ⊥) → 1 ≤ n
      some-long zero z = absurd (z refl)
      some-long (suc n) z = omega arith

  module _ (h : 1 ≤ length y) where
    pub marked-last : length y - 1 < length y
    marked-last = omega arith

    -- the last word, and those before it
    ends : (c : List ℕ) (m : ℕ) → y ≡ c ++ (m ∷ []) → (take (length y - 1) y ≡ c) × (get_or y (length y - 1) 0 ≡ m)
    ends c m e =
        let l : length y - 1 ≡ length c = omega (arith, ap length e, length-append c (m ∷ [])) in
        (rw l (ap (take (length c)) e ∙ take_at c (m ∷ []) (length c) refl), rw l (ap (λ (v : List ℕ). get_or v (length c) 0) e ∙ last-is c m))
      where
        last-is : (c : List ℕ) (m : ℕ) → get_or (c ++ (m ∷ [])) (length c) 0 ≡ m
        last-is [] m = refl
        last-is (x ∷ c) m = last-is c m

    whole-at : (y : List ℕ) (n : ℕ) → length y ≡ suc n → y ≡ take n y ++ (get_or y n 0 ∷ [])
    whole-at [] n g = absurd (omega (arith, g))
    whole-at (x ∷ []) zero g = refl
    whole-at (x ∷ []) (suc n) g = absurd (omega (arith, g))
    whole-at (x ∷ (u ∷ v)) zero g = absurd (omega (arith, g))
    whole-at (x ∷ (u ∷ v)) (suc n) g = ap (λ (s : List ℕ). x ∷ s) (whole-at (u ∷ v) n (omega (arith, g)))

    module _ (m : ℕ) (s : Bool) (e : s ≡ steady w) (f : m ≡ cond s 1 0) where
      mark-is : m ≡ steady_mark w
      mark-is = f ∙ ap (λ (t : Bool). cond t 1 0) e

      pub marked-wrong : (get_or y (length y - 1) 0 ≡ m → ⊥) → false ≡ same y (marked_calls w)
      unfolding marked_calls
      marked-wrong n = differs y (call_index_of w ++ (steady_mark w ∷ [])) (λ q. n ((ends (call_index_of w) (steady_mark w) q).1 ∙ sym mark-is))

      pub marked-tells : get_or y (length y - 1) 0 ≡ m → (b : Bool) → b ≡ same (take (length y - 1 - 0) y) (call_index_of w) → b ≡ same y (marked_calls w)
      unfolding marked_calls
      marked-tells q true g = sym (yes (same-is (take (length y - 1) y) (call_index_of w) (rw sub-zero at (sym g))))
        where
          yes : take (length y - 1) y ≡ call_index_of w → same y (marked_calls w) ≡ true
          yes d = ap (λ (v : List ℕ). same v (call_index_of w ++ (steady_mark w ∷ []))) (whole-at y (length y - 1) (omega arith) ∙ rw (d, q, mark-is)) ∙ same_refl (call_index_of w ++ (steady_mark w ∷ []))
      marked-tells q false g = no
        where
          no : false ≡ same y (marked_calls w)
          no = differs y (call_index_of w ++ (steady_mark w ∷ [])) (λ d. clash (rw sub-zero at g ∙ ap (λ (v : List ℕ). same v (call_index_of w)) (ends (call_index_of w) (steady_mark w) d).0 ∙ same_refl (call_index_of w)))

pub ruleset marks = (tests, marked-none, marked-some, marked-last, marked-wrong, marked-tells)

-- ---- the index; n is how many words the look-ups have

module _ (w x : List ℕ) (n : ℕ) (q : n ≡ index_size w) where
  whole-are : same x (whole_index_of w) ≡ (same (take n x) (index_of w) && same (drop n x) (marked_calls w))
  unfolding whole_index_of
  whole-are = same-split (index_of w) (marked_calls w) x n (lookups-long w ∙ sym q)

  pub whole-short : length x < n → false ≡ same x (whole_index_of w)
  whole-short l = differs x (whole_index_of w) (λ e. absurd (omega (arith, q, ap length e, whole_long w)))

  module _ (l : n ≤ length x) where
    pub front_long : length (take (n - 0) x) ≡ index_size w
    front_long = rw sub-zero (length-take-le n x l ∙ q)

    module _ (a : Bool) (e : a ≡ same (take (n - 0) x) (index_of w)) where
      pub front-wrong : not a ≡ true → false ≡ same x (whole_index_of w)
      front-wrong m = sym (whole-are ∙ rw (sym (rw sub-zero at e) ∙ not-true a m))

      pub rest-tells : not a ≡ false → (b : Bool) → b ≡ same (take (length x - n) (drop n x)) (marked_calls w) → b ≡ same x (whole_index_of w)
      rest-tells m b f = f ∙ ap (λ (y : List ℕ). same y (marked_calls w)) (take_all (length x - n) (drop n x) (omega (arith, length-drop n x))) ∙ sym (whole-are ∙ rw (sym (rw sub-zero at e) ∙ not-false a m))

pub ruleset wholes = (tests, just-header, whole-short, front_long, front-wrong, rest-tells)

-- ---- any words; l is what a look at them tells, b whether x is the index of the words u that a table uses

module _ (w x : List ℕ) (l : Option Bool) (e : l ≡ look_by (is_table w) (steady w)) where
  pub no_table : l ≡ None → Refused 21 ≡ checked_of w x
  unfolding checked_of
  no_table n = sym (rw (look-no-table w l e n))

  module _ (s : Bool) (n : l ≡ Some s) (u : List ℕ) (p : u ≡ used w) (b : Bool) (f : b ≡ same x (whole_index_of u)) where
    pub no_index : not b ≡ true → Refused 43 ≡ checked_of w x
    unfolding checked_of
    no_index m = sym (rw (is-table w l e s n, sym p, sym f ∙ not-true b m))

    pub its-index : not b ≡ false → Right ≡ checked_of w x
    unfolding checked_of
    its-index m = sym (rw (is-table w l e s n, sym p, sym f ∙ not-false b m))

pub ruleset any = (tests, no_table, is-table, is-just, is-steady, no_index, its-index)
