-- The words used of a table are just a table (`used-just`) and hold the same (`used-same`, `used-word`); where the sections of just a table stand
-- (`fields-are`, `stops-are`, `interchanges-are`, `classes-are`, `services-are`, with the bounds of `just-says`, `sections-fit`). Assumes nothing.
use mathlib.Core.Path.{◌≡◌, refl, ◌∙◌, sym}
use mathlib.Core.List.{List, map}
use mathlib.Core.Bool.{true}
use Prim.Native.Nat.{ℕ, ◌+◌, ◌*◌, ◌≤◌, ◌<◌}
use native.Mathlib.Omega.{arith}
use lib.ListN.{length, get_or, take, drop}
use lib.Seq.{get_or-take, length-take-le, take-take, take_all}
use lib.Dec.{leb}
use borrow.Author.Tests.{le-leb}
use Rattle.base.proofs.Loops.{and-true}
use Rattle.timetable.specs.Layout.{header_size, bit_field_size, stop_size, interchange_size, class_size}
use Rattle.timetable.specs.Table.{rows_in, bit_field_at, stop_at, interchange_at, class_at, services_in, used_words, first_day, period_days, bit_fields#, stops#, interchanges#, services#, services_place, classes#, used, resolved, stops_at, table_of, records_sound, head_sound, is_table}
use Rattle.table.specs.Steady.{records_steady, steady}
use Rattle.table.specs.JustTable.{JustTable, header_sound, stops_place, interchanges_place, classes_place}
use Rattle.table.proofs.Says.{HeadOf, table-parts, table-says, table-word, table-records}

-- ---- the words used

-- a sound header is sound for the words used alone
pub head-alone : (lent m first n b s u at k : ℕ) → head_sound lent m first n b s u at k ≡ true → head_sound m m first n b s u at k ≡ true
unfolding head_sound
head-alone lent m first n b s u at k e =
    let (a, e1) = and-true (leb header_size m) _ e in
    rw (a, le-leb m m (omega arith)) (and-true (leb m lent) _ e1).1

module _ (w : List ℕ) (e : is_table w ≡ true) where
  same_word : (m k : ℕ) → m ≡ used_words w → k < header_size → get_or (take m w) k 0 ≡ get_or w k 0
  same_word m k q h = get_or-take m w k 0 (omega (arith, (table-says w e).used_low))

  length-used : (m : ℕ) → m ≡ used_words w → length (take m w) ≡ m
  length-used m q = length-take-le m w (omega (arith, (table-says w e).used_high))

  -- m is how many they are
  module _ (m : ℕ) (q : m ≡ used_words w) where
    used-still : take (used_words (take m w)) (take m w) ≡ take m w
    used-still = rw (same_word m 0 q (omega arith), ← q, take-take m m w (omega arith))

    used-holds : table_of (take m w) ≡ table_of w
    unfolding table_of stops_at
    used-holds = rw (used-still, same_word m 1 q (omega arith), same_word m 2 q (omega arith), same_word m 3 q (omega arith), same_word m 4 q (omega arith), same_word m 5 q (omega arith), same_word m 6 q (omega arith), same_word m 7 q (omega arith), same_word m 8 q (omega arith), q)

    used-table : is_table (take m w) ≡ true
    unfolding is_table
    used-table =
        let head : head_sound m m (first_day w) (period_days w) (bit_fields# w) (stops# w) (interchanges# w) (services_place w) (classes# w) ≡ true = rw q (head-alone (length w) (used_words w) (first_day w) (period_days w) (bit_fields# w) (stops# w) (interchanges# w) (services_place w) (classes# w) (table-parts w e).header) in
        let records : records_sound (stops# w) (services# w) (drop (services_place w) (take m w)) ≡ true = rw q (table-records w e) in
        rw (used-holds, used-still, length-used m q, same_word m 0 q (omega arith), same_word m 1 q (omega arith), same_word m 2 q (omega arith), same_word m 3 q (omega arith), same_word m 4 q (omega arith), same_word m 5 q (omega arith), same_word m 6 q (omega arith), same_word m 7 q (omega arith), same_word m 8 q (omega arith), ← q, le-leb header_size m (omega (arith, (table-says w e).used_low)), head, (table-parts w e).classes, records)

  pub used-just : JustTable (used w)
  used-just = record { table = used-table (used_words w) refl; ends = same_word (used_words w) 0 refl (omega arith) ∙ sym (length-used (used_words w) refl) }

  pub used-word : (k : ℕ) → k < header_size → get_or (used w) k 0 ≡ get_or w k 0
  used-word k h = same_word (used_words w) k refl h

  pub used-steady : steady (used w) ≡ steady w
  used-steady = rw (used-still (used_words w) refl, used-word 4 (omega arith), used-word 6 (omega arith), used-word 7 (omega arith))

  pub used-same : table_of (used w) ≡ table_of w
  used-same = used-holds (used_words w) refl

-- ---- the sections of just a table

module _ (w : List ℕ) (h : JustTable w) where
  pub just-header : header_sound w ≡ true
  just-header = (table-parts w h.table).header

  pub just-says : HeadOf w
  just-says = table-says w h.table

  -- the header's words are there
  pub just-word : (i : ℕ) → i < header_size → i < length w
  just-word = table-word w h.table

  pub just-used : used w ≡ w
  just-used = take_all (used_words w) w (omega (arith, h.ends))

  -- the sections lie before the services, and those within the words
  pub sections-fit : classes_place w + class_size * classes# w ≤ length w
  sections-fit = omega (arith, just-says.place, just-says.inside, just-says.used_high)

  pub fields-are : (table_of w).fields ≡ rows_in bit_field_at bit_field_size (bit_fields# w) (drop header_size w)
  unfolding table_of
  fields-are = rw just-used

  pub stops-are : (table_of w).stops ≡ rows_in stop_at stop_size (stops# w) (drop (stops_place w) w)
  unfolding table_of stops_at
  stops-are = rw just-used

  pub interchanges-are : (table_of w).interchanges ≡ rows_in interchange_at interchange_size (interchanges# w) (drop (interchanges_place w) w)
  unfolding table_of
  interchanges-are = rw just-used

  pub classes-are : (table_of w).classes ≡ rows_in class_at class_size (classes# w) (drop (classes_place w) w)
  unfolding table_of
  classes-are = rw just-used

  -- each call's stop by its number
  pub services-are : (table_of w).services ≡ map (resolved (table_of w).stops) (services_in (services# w) (drop (services_place w) w))
  unfolding table_of
  services-are = rw just-used

  pub services-sound : records_sound (stops# w) (services# w) (drop (services_place w) w) ≡ true
  services-sound = rw just-used at (table-records w h.table)
