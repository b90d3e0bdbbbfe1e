-- Ranges that follow each other (`in_turn`): the loop that tells, for `search turns`, and what they cover: each leg from the first on and before the end once, none
-- before the first. Assumes nothing.
use mathlib.Core.Path.{◌≡◌, refl, sym, ap, ap₂, ◌∙◌}
use mathlib.Core.List.{List, [], ◌∷◌, map}
use mathlib.Core.Bool.{Bool, true, false, not, ◌&&◌}
use Prim.Native.Nat.{ℕ, zero, suc, ◌+◌, ◌-◌, ◌≤◌, ◌<◌}
use native.Mathlib.Omega.{arith}
use lib.ListN.{get_or, drop}
use lib.Dec.{eqb, ltb}
use borrow.Author.Tests.{not-true, not-false, eq-eqb, ne_eqb, eqb-true, ltb-true, ltb-false, le-leb, lt-leb, lt-ltb, le-ltb}
use Rattle.base.specs.Lists.{count_if}
use Rattle.base.proofs.Laws.{tests}
use Rattle.base.proofs.Loops.{and-true}
use Rattle.timetable.specs.Delivery.{Legs}
use Rattle.timetable.specs.Legs.{covers, covering}
use Rattle.timetable.specs.Table.{rows_in, legs_at}
use Rattle.timetable.specs.Inner.Words.{legs_read, legs_held}
use Rattle.timetable.specs.declared.LegWords.{LegWords}
use Rattle.timetable.proofs.Rows.{room-start, room-now, room_fits, room_next, rows_left, legs-is}
use Rattle.cover.specs.Inner.Cover.{legs_in, begins, in_turn}

-- ---- the loop: `left` ranges stand at place `at` and after it, and `leg` is where the one before ends

-- the range at `at`, read where it stands
pub end_read : (w : List ℕ) (at k : ℕ) (g : LegWords) → g ≡ legs_read (legs_at k (drop at w)) → g.to ≡ (legs_at k (drop at w)).to
end_read w at k g q = ap (λ (x : LegWords). x.to) q

module _ (w : List ℕ) (at k leg : ℕ) where
  begins-read : begins leg (record { from = get_or w (at + k) 0; to = get_or w (at + k + 1) 0 }) ≡ begins leg (legs_at k (drop at w))
  begins-read = ap (λ (x : LegWords). begins leg (legs_held x)) (legs-is w at k)

  pub begins-no : (get_or w (at + k) 0 ≡ leg → ⊥) → false ≡ begins leg (legs_at k (drop at w))
  begins-no h = rw (ne_eqb (get_or w (at + k) 0) leg h) at begins-read

  pub begins-yes : get_or w (at + k) 0 ≡ leg → ltb leg (get_or w (at + k + 1) 0) ≡ begins leg (legs_at k (drop at w))
  begins-yes h = rw (eq-eqb (get_or w (at + k) 0) leg h) at begins-read

-- t says whether it begins at `leg`
module _ (w : List ℕ) (width left at leg legs : ℕ) (r t : Bool) (h : 0 < left) (e : t ≡ begins leg (legs_at (width - 2) (drop at w))) (v : in_turn leg legs (legs_in width left (drop at w)) ≡ r) where
  turn-here : (t && in_turn (legs_at (width - 2) (drop at w)).to legs (legs_in width (left - 1) (drop (at + width) w))) ≡ r
  unfolding in_turn
  turn-here =
      ap (λ (b : Bool). b && in_turn (legs_at (width - 2) (drop at w)).to legs (legs_in width (left - 1) (drop (at + width) w))) e
      ∙ sym (ap (in_turn leg legs) (rows_left (legs_at (width - 2)) width left at w h)) ∙ v

  pub turn-again : not t ≡ false → (to : ℕ) → to ≡ (legs_at (width - 2) (drop at w)).to → in_turn to legs (legs_in width (left - 1) (drop (at + width) w)) ≡ r
  turn-again n to q = rw q (rw (not-false t n) at turn-here)

  pub turn-out : not t ≡ true → false ≡ r
  turn-out n = rw (not-true t n) at turn-here

pub turn-done : (w : List ℕ) (width left at leg legs : ℕ) (r : Bool) → left ≤ 0 → in_turn leg legs (legs_in width left (drop at w)) ≡ r → eqb leg legs ≡ r
unfolding in_turn rows_in
turn-done w width zero at leg legs r h v = v
turn-done w width (suc left) at leg legs r h v = absurd (omega arith)

pub ruleset turns = (tests, room-start, room-now, room_fits, room_next, end_read, begins-no, begins-yes, turn-again, turn-out, turn-done)

-- ---- what they cover; the ranges are rows of any kind

module _ {X : Type 0} (legs : X → Legs) where
  -- the first range, and the others
  pub record Turn (leg end : ℕ) (x : X) (xs : List X) : Type 0 where
    pub from_is : (legs x).from ≡ leg
    pub some : leg < (legs x).to
    pub rest : in_turn (legs x).to end (map legs xs) ≡ true

  pub turn-says : (leg end : ℕ) (x : X) (xs : List X) → in_turn leg end (map legs (x ∷ xs)) ≡ true → Turn leg end x xs
  unfolding in_turn
  turn-says leg end x xs e =
      let p = and-true (begins leg (legs x)) (in_turn (legs x).to end (map legs xs)) e in
      let q = and-true (eqb (legs x).from leg) (ltb leg (legs x).to) p.0 in
      record { from_is = eqb-true (legs x).from leg q.0; some = ltb-true leg (legs x).to q.1; rest = p.1 }

  pub turn_end : (leg end : ℕ) (xs : List X) → in_turn leg end (map legs xs) ≡ true → leg ≤ end
  unfolding in_turn
  turn_end leg end [] e = omega (arith, eqb-true leg end e)
  turn_end leg end (x ∷ xs) e =
      let t = turn-says leg end x xs e in
      omega (arith, t.some, turn_end (legs x).to end xs t.rest)

  -- whether the first range covers a leg
  module _ (leg end k : ℕ) (x : X) (xs : List X) (t : Turn leg end x xs) where
    pub covers-first : leg ≤ k → k < (legs x).to → covers k (legs x) ≡ true
    covers-first a b = rw (t.from_is, le-leb leg k a, lt-ltb k (legs x).to b)

    pub covers-before : k < leg → covers k (legs x) ≡ false
    covers-before a = rw (t.from_is, lt-leb leg k a)

    pub covers-after : (legs x).to ≤ k → covers k (legs x) ≡ false
    covers-after a = rw (t.from_is, le-leb leg k (omega (arith, t.some)), le-ltb k (legs x).to a)

  pub turn-none : (leg end k : ℕ) (xs : List X) → in_turn leg end (map legs xs) ≡ true → k < leg → covering legs xs k ≡ 0
  unfolding count_if
  turn-none leg end k [] e h = refl
  turn-none leg end k (x ∷ xs) e h =
      let t = turn-says leg end x xs e in
      rw (covers-before leg end k x xs t h, turn-none (legs x).to end k xs t.rest (omega (arith, t.some)))

  -- "a leg not covered by exactly one" (17, 18) there is none
  pub turn-once : (leg end k : ℕ) (xs : List X) → in_turn leg end (map legs xs) ≡ true → leg ≤ k → k < end → covering legs xs k ≡ 1
  unfolding count_if in_turn
  turn-once leg end k [] e h g = absurd (omega (arith, eqb-true leg end e))
  turn-once leg end k (x ∷ xs) e h g =
      let t = turn-says leg end x xs e in
      go (ltb k (legs x).to) refl t (λ p. turn-once (legs x).to end k xs t.rest p g)
    where
      go : (b : Bool) → ltb k (legs x).to ≡ b → Turn leg end x xs → ((legs x).to ≤ k → covering legs xs k ≡ 1) → covering legs (x ∷ xs) k ≡ 1
      go true p t ih = rw (covers-first leg end k x xs t h (ltb-true k (legs x).to p), turn-none (legs x).to end k xs t.rest (ltb-true k (legs x).to p))
      go false p t ih = rw (covers-after leg end k x xs t (ltb-false k (legs x).to p), ih (ltb-false k (legs x).to p))

  -- ranges as words hold them
  pub legs-rows : (f : List ℕ → X) (width : ℕ) → ((w : List ℕ) → legs_at (width - 2) w ≡ legs (f w)) → (n : ℕ) (w : List ℕ) → legs_in width n w ≡ map legs (rows_in f width n w)
  unfolding rows_in
  legs-rows f width e zero w = refl
  legs-rows f width e (suc n) w = ap₂ (λ (g : Legs) (gs : List Legs). g ∷ gs) (e w) (legs-rows f width e n (drop width w))
