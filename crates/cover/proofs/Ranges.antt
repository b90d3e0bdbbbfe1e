-- The loops over the ranges of a service, for `search ranges`: `left` ranges stand at place `at` and after it. Assumes nothing.
use mathlib.Core.Path.{◌≡◌, refl, sym, ap, ◌∙◌}
use mathlib.Core.List.{List}
use mathlib.Core.Bool.{Bool, true, false, cond}
use Prim.Native.Nat.{ℕ, zero, suc, ◌+◌, ◌-◌, ◌≤◌, ◌<◌}
use native.Mathlib.Nat.{zero-add, add-zero, add_assoc}
use native.Mathlib.Omega.{arith}
use lib.ListN.{drop}
use lib.Seq.{drop-drop}
use Rattle.base.specs.Lists.{count_if}
use Rattle.base.proofs.Laws.{tests}
use Rattle.timetable.specs.Delivery.{Legs}
use Rattle.timetable.specs.Legs.{covers}
use Rattle.timetable.specs.Table.{rows_in, legs_at}
use Rattle.timetable.specs.Inner.Words.{legs_read, legs_held}
use Rattle.timetable.specs.declared.LegWords.{LegWords}
use Rattle.timetable.proofs.Rows.{room-start, room-now, room_fits, room_next, rows_left}
use Rattle.std.specs.Prelude.{Option, Some, None}
use Rattle.cover.specs.Inner.Cover.{legs_in, cover_place_from}

-- ---- a range is read where it stands

pub covers-read : (w : List ℕ) (at k leg : ℕ) (g : LegWords) (t : Bool) → g ≡ legs_read (legs_at k (drop at w)) → t ≡ covers leg (legs_held g) → t ≡ covers leg (legs_at k (drop at w))
covers-read w at k leg g t q e = e ∙ ap (λ (x : LegWords). covers leg (legs_held x)) q

-- ---- how many cover a leg

-- t says whether the range at `at` covers the leg
module _ (leg width left at count r : ℕ) (w : List ℕ) (t : Bool) (h : 0 < left) (e : t ≡ covers leg (legs_at (width - 2) (drop at w))) (v : count + count_if (covers leg) (legs_in width left (drop at w)) ≡ r) where
  count_next : count + (cond t 1 0 + count_if (covers leg) (legs_in width (left - 1) (drop (at + width) w))) ≡ r
  unfolding count_if
  count_next =
      ap (λ (x : Bool). count + (cond x 1 0 + count_if (covers leg) (legs_in width (left - 1) (drop (at + width) w)))) e
      ∙ ap (λ (rs : List Legs). count + count_if (covers leg) rs) (sym (rows_left (legs_at (width - 2)) width left at w h)) ∙ v

  pub count-on : t ≡ true → count + 1 + count_if (covers leg) (legs_in width (left - 1) (drop (at + width) w)) ≡ r
  count-on k =
      add_assoc count 1 (count_if (covers leg) (legs_in width (left - 1) (drop (at + width) w)))
      ∙ ap (λ (x : Bool). count + (cond x 1 0 + count_if (covers leg) (legs_in width (left - 1) (drop (at + width) w)))) (sym k) ∙ count_next

  pub count_past : t ≡ false → count + count_if (covers leg) (legs_in width (left - 1) (drop (at + width) w)) ≡ r
  count_past k = omega (arith, ap (λ (x : Bool). count + (cond x 1 0 + count_if (covers leg) (legs_in width (left - 1) (drop (at + width) w)))) (sym k) ∙ count_next)

pub count-start : (leg width n : ℕ) (w : List ℕ) → 0 + count_if (covers leg) (legs_in width n (drop 0 w)) ≡ count_if (covers leg) (legs_in width n w)
count-start leg width n w = zero-add (count_if (covers leg) (legs_in width n w))

pub count-done : (leg width left at count r : ℕ) (w : List ℕ) → left ≤ 0 → count + count_if (covers leg) (legs_in width left (drop at w)) ≡ r → count ≡ r
unfolding count_if rows_in
count-done leg width zero at count r w h v = sym (add-zero count) ∙ v
count-done leg width (suc left) at count r w h v = absurd (omega arith)

-- ---- where the first stands that covers a leg

place-next : (leg width left at : ℕ) (w : List ℕ) → 0 < left → cover_place_from leg width at left (drop at w) ≡ cond (covers leg (legs_at (width - 2) (drop at w))) (Some at) (cover_place_from leg width (at + width) (left - 1) (drop (at + width) w))
unfolding cover_place_from
place-next leg width zero at w h = absurd (omega arith)
place-next leg width (suc m) at w h =
    let e : suc m - 1 ≡ m = omega arith in
    rw (e, ← (drop-drop width at w)) refl

module _ (leg width left at : ℕ) (r : Option ℕ) (w : List ℕ) (t : Bool) (h : 0 < left) (e : t ≡ covers leg (legs_at (width - 2) (drop at w))) (v : cover_place_from leg width at left (drop at w) ≡ r) where
  place-by-test : cond t (Some at) (cover_place_from leg width (at + width) (left - 1) (drop (at + width) w)) ≡ r
  place-by-test = ap (λ (x : Bool). cond x (Some at) (cover_place_from leg width (at + width) (left - 1) (drop (at + width) w))) e ∙ sym (place-next leg width left at w h) ∙ v

  pub place-again : t ≡ false → cover_place_from leg width (at + width) (left - 1) (drop (at + width) w) ≡ r
  place-again k = ap (λ (x : Bool). cond x (Some at) (cover_place_from leg width (at + width) (left - 1) (drop (at + width) w))) (sym k) ∙ place-by-test

  pub place_out : t ≡ true → Some at ≡ r
  place_out k = ap (λ (x : Bool). cond x (Some at) (cover_place_from leg width (at + width) (left - 1) (drop (at + width) w))) (sym k) ∙ place-by-test

pub place-done : (leg width left at : ℕ) (r : Option ℕ) (w : List ℕ) → left ≤ 0 → cover_place_from leg width at left (drop at w) ≡ r → None ≡ r
unfolding cover_place_from
place-done leg width zero at r w h v = v
place-done leg width (suc left) at r w h v = absurd (omega arith)

pub ruleset ranges = (tests, room-start, room-now, room_fits, room_next, covers-read, count-start, count-on, count_past, count-done, place-again, place_out, place-done)
