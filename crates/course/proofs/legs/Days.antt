-- Operating-day ranges that follow each other, in document 01's words: a leg is refused for nothing but 31, and one is where a range has an unknown bit field; and what
-- they say of a day is what its legs say. Assumes nothing.
use mathlib.Core.Path.{◌≡◌, refl, sym, ap, subst, ◌∙◌}
use mathlib.Core.List.{List, [], ◌∷◌, map}
use mathlib.Core.Bool.{Bool, true, false, cond, not, ◌&&◌, ◌||◌}
use mathlib.Core.Option.{Option, none, some}
use mathlib.Core.Logic.{⊎_elim}
use Prim.Native.Nat.{ℕ, zero, suc, ◌+◌, ◌≤◌, ◌<◌}
use native.Mathlib.Nat.{eq-or-lt_of_le}
use native.Mathlib.Omega.{arith}
use lib.Dec.{eqb}
use Rattle.std.specs.Prelude.{Result, Ok, Err}
use borrow.Author.Tests.{eqb-true}
use Rattle.base.specs.Lists.{every, some_of, upto, below}
use Rattle.base.proofs.Laws.{apart, clash, or-false}
use Rattle.base.proofs.Loops.{and-true}
use Rattle.timetable.specs.Delivery.{Legs, DayRange, Service}
use Rattle.timetable.specs.Offences.{◌<|>◌}
use Rattle.timetable.specs.Legs.{covers, operated_by}
use Rattle.timetable.specs.View.{View}
use Rattle.timetable.specs.Run.{refuse, leg_refusal, first_refusal}
use Rattle.timetable.specs.declared.refusal.Refusal.{Refusal}
use Rattle.timetable.specs.declared.refusal.Refusal.TheVariants.{LegFieldUnknown}
use Rattle.cover.specs.Inner.Cover.{in_turn}
use Rattle.cover.proofs.Turn.{Turn, turn-says, turn_end, turn-once, covers-first, covers-before, covers-after}
use Rattle.course.proofs.legs.Gaps.{Told, told_none, told-range}
use Rattle.course.specs.declared.legs.DayLegs.{DayLegs}
use Rattle.course.specs.Inner.Turn.{no_legs, with_operated, with_idle, with_range, ranges_say}

abbrev pub of_day : DayRange → Legs
of_day r = r.legs

or-true : (b : Bool) → (b || true) ≡ true
or-true true = refl
or-true false = refl

-- ---- the first refusal, where a leg is refused by 31 or not at all

module _ (g : ℕ → Option Refusal) where
  none-refused : (n i : ℕ) → ((k : ℕ) → i ≤ k → k < i + n → g k ≡ none) → first_refusal g (upto n i) ≡ none
  unfolding first_refusal upto ◌<|>◌
  none-refused zero i h = refl
  none-refused (suc n) i h = rw (h i (omega arith) (omega arith)) (none-refused n (i + 1) (λ k p q. h k (omega arith) (omega arith)))

  module _ (t : ℕ → Bool) where
    one-refused : (n i j : ℕ) → ((k : ℕ) → i ≤ k → k < i + n → g k ≡ refuse (t k) LegFieldUnknown) → i ≤ j → j < i + n → t j ≡ true → first_refusal g (upto n i) ≡ some LegFieldUnknown
    unfolding first_refusal upto ◌<|>◌
    one-refused zero i j h p q e = absurd (omega arith)
    one-refused (suc n) i j h p q e = rw (h i (omega arith) (omega arith)) (go (t i) refl (λ l. one-refused n (i + 1) j (λ k a b. h k (omega arith) (omega arith)) l (omega arith) e))
      where
        go : (b : Bool) → t i ≡ b → (i + 1 ≤ j → first_refusal g (upto n (i + 1)) ≡ some LegFieldUnknown) → (refuse b LegFieldUnknown <|> first_refusal g (upto n (i + 1))) ≡ some LegFieldUnknown
        go true c ih = refl
        go false c ih = ⊎_elim (λ (z : i ≡ j). clash (sym c ∙ ap t z ∙ e)) (λ (l : i < j). ih (omega arith)) (eq-or-lt_of_le p)

-- ---- ranges that follow each other

module _ (v : View) where
  abbrev pub fields_known : List DayRange → Bool
  fields_known rs = every (λ (r : DayRange). v.known r.field) rs

  -- the bit fields of the ranges that cover a leg are known
  abbrev leg_known : ℕ → List DayRange → Bool
  leg_known k rs = every (λ (r : DayRange). not (covers k r.legs) || v.known r.field) rs

  leg-known : (k : ℕ) (rs : List DayRange) → fields_known rs ≡ true → leg_known k rs ≡ true
  unfolding every
  leg-known k [] e = refl
  leg-known k (r ∷ rs) e =
      let p = and-true (v.known r.field) (fields_known rs) e in
      rw (p.0, or-true (not (covers k r.legs)), leg-known k rs p.1)

  -- one of them that has an unknown bit field covers a leg
  leg-unknown : (P : Type 0) (leg end : ℕ) (rs : List DayRange) → in_turn leg end (map of_day rs) ≡ true → fields_known rs ≡ false → ((k : ℕ) → leg ≤ k → k < end → leg_known k rs ≡ false → P) → P
  unfolding every
  leg-unknown P leg end [] e u f = clash (sym u)
  leg-unknown P leg end (r ∷ rs) e u f =
      let t = turn-says of_day leg end r rs e in
      go (v.known r.field) refl t u (λ w h. leg-unknown P r.legs.to end rs t.rest w h)
    where
      go : (b : Bool) → v.known r.field ≡ b → Turn of_day leg end r rs → (b && fields_known rs) ≡ false → (fields_known rs ≡ false → ((k : ℕ) → r.legs.to ≤ k → k < end → leg_known k rs ≡ false → P) → P) → P
      go true q t w ih = ih w (λ k a b c. f k (omega (arith, t.some)) b (rw (q, or-true (not (covers k r.legs))) c))
      go false q t w ih = f leg (omega arith) (omega (arith, t.some, turn_end of_day r.legs.to end rs t.rest)) (rw (q, covers-first of_day leg end leg r rs t (omega arith) t.some))

  module _ (s : Service) (n : ℕ) (e : in_turn 0 n (map of_day s.days) ≡ true) where
    leg-refused : (k : ℕ) → k < n → leg_refusal v s k ≡ refuse (not (leg_known k s.days)) LegFieldUnknown
    unfolding ◌<|>◌
    leg-refused k h = rw (turn-once of_day 0 n k s.days e (omega arith) h)

    pub days-known : fields_known s.days ≡ true → first_refusal (leg_refusal v s) (below n) ≡ none
    days-known u = none-refused (leg_refusal v s) n 0 (λ k p q. leg-refused k (omega arith) ∙ rw (leg-known k s.days u))

    pub days-unknown : fields_known s.days ≡ false → first_refusal (leg_refusal v s) (below n) ≡ some LegFieldUnknown
    days-unknown u =
        leg-unknown (first_refusal (leg_refusal v s) (below n) ≡ some LegFieldUnknown) 0 n s.days e u
        (λ j p q w. one-refused (leg_refusal v s) (λ (k : ℕ). not (leg_known k s.days)) n 0 j (λ k a b. leg-refused k (omega arith)) p (omega arith) (rw w))

  -- ---- what they say of day d

  module _ (d : ℕ) where
    abbrev operated_of : List DayRange → ℕ → Bool
    operated_of rs k = operated_by v.runs rs d k

    -- no range covers a leg before the first
    idle-before : (leg end k : ℕ) (rs : List DayRange) → in_turn leg end (map of_day rs) ≡ true → k < leg → operated_of rs k ≡ false
    unfolding some_of
    idle-before leg end k [] e h = refl
    idle-before leg end k (r ∷ rs) e h =
        let t = turn-says of_day leg end r rs e in
        rw (covers-before of_day leg end k r rs t h) (idle-before r.legs.to end k rs t.rest (omega (arith, t.some)))

    module _ (leg end k : ℕ) (r : DayRange) (rs : List DayRange) (t : Turn of_day leg end r rs) where
      by_first : leg ≤ k → k < r.legs.to → operated_of (r ∷ rs) k ≡ v.runs r.field d
      unfolding some_of
      by_first h g = rw (covers-first of_day leg end k r rs t h g, idle-before r.legs.to end k rs t.rest g) (sym (or-false (v.runs r.field d)))

      by-others : r.legs.to ≤ k → operated_of (r ∷ rs) k ≡ operated_of rs k
      unfolding some_of
      by-others h = rw (covers-after of_day leg end k r rs t h)

    -- they are known where they say something, and else one is refused
    pub say-known : (l m : DayLegs) (rs : List DayRange) → ranges_say v d l rs ≡ Ok m → fields_known rs ≡ true
    unfolding ranges_say every
    say-known l m [] e = refl
    say-known l m (r ∷ rs) e = go (v.known r.field) e (say-known (with_range (v.runs r.field d) r.legs.from r.legs.to l) m rs)
      where
        go : (b : Bool) → cond b (ranges_say v d (with_range (v.runs r.field d) r.legs.from r.legs.to l) rs) (Err LegFieldUnknown) ≡ Ok m →
            (ranges_say v d (with_range (v.runs r.field d) r.legs.from r.legs.to l) rs ≡ Ok m → fields_known rs ≡ true) → (b && fields_known rs) ≡ true
        go true z ih = ih z
        go false z ih = apart (cc)

    pub say-unknown : (l : DayLegs) (x : Refusal) (rs : List DayRange) → ranges_say v d l rs ≡ Err x → (fields_known rs ≡ false) × (LegFieldUnknown ≡ x)
    unfolding ranges_say every
    say-unknown l x [] e = apart (cc)
    say-unknown l x (r ∷ rs) e = go (v.known r.field) e (say-unknown (with_range (v.runs r.field d) r.legs.from r.legs.to l) x rs)
      where
        go : (b : Bool) → cond b (ranges_say v d (with_range (v.runs r.field d) r.legs.from r.legs.to l) rs) (Err LegFieldUnknown) ≡ Err x →
            (ranges_say v d (with_range (v.runs r.field d) r.legs.from r.legs.to l) rs ≡ Err x → (fields_known rs ≡ false) × (LegFieldUnknown ≡ x)) →
            ((b && fields_known rs) ≡ false) × (LegFieldUnknown ≡ x)
        go true z ih = ih z
        go false z ih = (refl, cc)

    -- f tells which legs are operated, by these ranges from `leg` on
    told-ranges : (f : ℕ → Bool) (leg end : ℕ) (l m : DayLegs) (rs : List DayRange) → in_turn leg end (map of_day rs) ≡ true → ranges_say v d l rs ≡ Ok m →
        ((k : ℕ) → leg ≤ k → f k ≡ operated_of rs k) → Told f leg l → Told f end m
    unfolding in_turn every ranges_say
    told-ranges f leg end l m [] e z h t =
        let y : l ≡ m = cc in
        subst (λ (n : ℕ). Told f n m) (eqb-true leg end e) (subst (λ (x : DayLegs). Told f leg x) y t)
    told-ranges f leg end l m (r ∷ rs) e z h t =
        let w = turn-says of_day leg end r rs e in
        let p = and-true (v.known r.field) (fields_known rs) (say-known l m (r ∷ rs) z) in
        told-ranges f r.legs.to end (with_range (v.runs r.field d) leg r.legs.to l) m rs w.rest (rw (p.0, w.from_is) at z)
        (λ k a. h k (omega (arith, w.some)) ∙ by-others leg end k r rs w a)
        (told-range f leg r.legs.to l w.some t (v.runs r.field d) (λ k a b. h k a ∙ by_first leg end k r rs w a b))

    pub days-told : (n : ℕ) (m : DayLegs) (rs : List DayRange) → in_turn 0 n (map of_day rs) ≡ true → ranges_say v d no_legs rs ≡ Ok m → Told (operated_by v.runs rs d) n m
    days-told n m rs e z = told-ranges (operated_by v.runs rs d) 0 n no_legs m rs e z (λ k a. refl) (told_none (operated_by v.runs rs d))
