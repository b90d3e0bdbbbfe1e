-- What the promises say of the rows that the words hold, in the definitions of document 01: how many rows cover a leg (`covering-rows`), 17 and 18
-- (`categories-once`, `days-once`), and the first row that covers a leg (`first_row`) with its place (`place-fits`). Assumes nothing.
use mathlib.Core.Path.{◌≡◌, refl, sym, ap, ap₂, ◌∙◌, fun_ext, subst}
use mathlib.Core.List.{List}
use mathlib.Core.Bool.{Bool, true, false, cond}
use mathlib.Core.Option.{Option, none, some}
use Prim.Native.Nat.{ℕ, zero, suc, ◌+◌, ◌-◌, ◌*◌, ◌≤◌}
use native.Mathlib.Nat.{suc-mul}
use native.Mathlib.Omega.{arith}
use lib.ListN.{drop}
use lib.Seq.{drop-drop}
use lib.Dec.{eqb}
use Rattle.base.specs.Lists.{every, count_if, find, below}
use Rattle.timetable.specs.Layout.{category_size, day_size}
use Rattle.timetable.specs.Delivery.{Legs, CategoryRange, DayRange}
use Rattle.timetable.specs.Legs.{covers, covering}
use Rattle.timetable.specs.Checks.{each_once}
use Rattle.timetable.specs.Table.{rows_in, legs_at, category_at, day_at}
use Rattle.std.specs.Prelude.{Option as StdOption, Some, None}
use Rattle.cover.specs.Inner.Cover.{legs_in, once_in, cover_place_from}

-- ---- rows of any kind whose legs are their last two words

module _ {X : Type 0} (f : List ℕ → X) (legs : X → Legs) (width : ℕ) (e : (w : List ℕ) → legs_at (width - 2) w ≡ legs (f w)) where
  pub covering-rows : (leg n : ℕ) (w : List ℕ) → count_if (covers leg) (legs_in width n w) ≡ covering legs (rows_in f width n w) leg
  unfolding count_if rows_in
  covering-rows leg zero w = refl
  covering-rows leg (suc n) w = ap₂ (λ (g : Legs) (m : ℕ). cond (covers leg g) 1 0 + m) (e w) (covering-rows leg n (drop width w))

  pub once-rows : (n count : ℕ) (w : List ℕ) → every (once_in width n w) (below count) ≡ each_once legs count (rows_in f width n w)
  once-rows n count w = ap (λ (t : ℕ → Bool). every t (below count)) (fun_ext (λ k. ap (λ (m : ℕ). eqb m 1) (covering-rows k n w)))

  -- the row at a place
  abbrev pub row_at : List ℕ → StdOption ℕ → Option X
  row_at w (Some p) = some (f (drop p w))
  row_at w None = none

  first-from : (leg at n : ℕ) (w : List ℕ) → find (λ (r : X). covers leg (legs r)) (rows_in f width n (drop at w)) ≡ row_at w (cover_place_from leg width at n (drop at w))
  unfolding find rows_in cover_place_from
  first-from leg at zero w = refl
  first-from leg at (suc n) w =
      ap (λ (g : Legs). cond (covers leg g) (some (f (drop at w))) (find (λ (r : X). covers leg (legs r)) (rows_in f width n (drop width (drop at w))))) (sym (e (drop at w)))
      ∙ go (covers leg (legs_at (width - 2) (drop at w))) (rw (← (drop-drop width at w)) at (first-from leg (at + width) n w))
    where
      go : (t : Bool) → find (λ (r : X). covers leg (legs r)) (rows_in f width n (drop width (drop at w))) ≡ row_at w (cover_place_from leg width (at + width) n (drop width (drop at w))) →
          cond t (some (f (drop at w))) (find (λ (r : X). covers leg (legs r)) (rows_in f width n (drop width (drop at w)))) ≡ row_at w (cond t (Some at) (cover_place_from leg width (at + width) n (drop width (drop at w))))
      go true ih = refl
      go false ih = ih

  pub first_row : (leg n : ℕ) (w : List ℕ) → find (λ (r : X). covers leg (legs r)) (rows_in f width n w) ≡ row_at w (cover_place_from leg width 0 n w)
  first_row leg n w = first-from leg 0 n w

-- ---- 17 and 18

pub categories-once : (n legs : ℕ) (w : List ℕ) → every (once_in category_size n w) (below legs) ≡ each_once (λ (r : CategoryRange). r.legs) legs (rows_in category_at category_size n w)
categories-once n legs w = once-rows category_at (λ (r : CategoryRange). r.legs) category_size (λ v. refl) n legs w

pub days-once : (n legs : ℕ) (w : List ℕ) → every (once_in day_size n w) (below legs) ≡ each_once (λ (r : DayRange). r.legs) legs (rows_in day_at day_size n w)
days-once n legs w = once-rows day_at (λ (r : DayRange). r.legs) day_size (λ v. refl) n legs w

-- ---- the first range that covers a leg lies within the words

abbrev Within : ℕ → ℕ → StdOption ℕ → Type 0
Within width l (Some p) = p + width ≤ l
Within width l None = Unit {0}

place-within : (leg width at n : ℕ) (w : List ℕ) → Within width (at + n * width) (cover_place_from leg width at n w)
unfolding cover_place_from
place-within leg width at zero w = record {}
place-within leg width at (suc n) w = go (covers leg (legs_at (width - 2) w)) (place-within leg width (at + width) n (drop width w))
  where
    e : suc n * width ≡ n * width + width
    e = suc-mul n width

    go : (t : Bool) → Within width (at + width + n * width) (cover_place_from leg width (at + width) n (drop width w)) → Within width (at + suc n * width) (cond t (Some at) (cover_place_from leg width (at + width) n (drop width w)))
    go true ih = omega (arith, e)
    go false ih =
        let q : at + width + n * width ≡ at + suc n * width = omega (arith, e) in
        subst (λ (l : ℕ). Within width l (cover_place_from leg width (at + width) n (drop width w))) q ih

-- x is the place found
pub place-fits : (leg width n p : ℕ) (x : StdOption ℕ) (w : List ℕ) → x ≡ cover_place_from leg width 0 n w → x ≡ Some p → p + width ≤ n * width
place-fits leg width n p x w e k = omega (arith, subst (Within width (0 + n * width)) (sym e ∙ k) (place-within leg width 0 n w))
