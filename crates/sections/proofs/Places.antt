-- The needs of a stop's place, found by the map of BAHNHOF. Assumes nothing.
use mathlib.Core.Path.{◌≡◌, refl, ap, sym, ◌∙◌}
use mathlib.Core.List.{List, [], ◌∷◌, map}
use mathlib.Core.Bool.{Bool, true, false, cond, ◌||◌}
use Prim.Native.Nat.{ℕ, zero, suc, ◌+◌, ◌<◌}
use native.Mathlib.Nat.{zero-add}
use native.Mathlib.Omega.{arith}
use lib.ListN.{length, get_or, length-map}
use lib.Dec.{eqb}
use borrow.Author.Tests.{eq-eqb, eqb-true}
use Rattle.base.specs.Lists.{some_of}
use Rattle.base.proofs.Laws.{tests, clash}
use Rattle.lines.specs.Lines.{lines_of}
use Rattle.map.specs.Inner.Map.{word_values, Mapped, Finds, Distinct, numbers_in}
use Rattle.std.specs.Prelude.{Option, Some, None}
use Rattle.map.proofs.Meaning.{distinct_tail, found_inside, found_number, found-room}
use Rattle.timetable.specs.Delivery.{StopRecord}
use Rattle.timetable.specs.Files.{held_in, stop_of, has_stop}
use Rattle.timetable.specs.Table.{stop_place_from, stop_place}
use Rattle.sections.specs.Inner.SectionMap.{MapOf}
use Rattle.sections.specs.declared.Section.TheVariants.{Stops}
use Rattle.sections.proofs.Held.{stop-numbers}
use Rattle.sections.proofs.Lookups.{has-stop, seen-not, map-seen}

-- no stop has the number
place_none : (k n : ℕ) (stops : List StopRecord) → has_stop n stops ≡ false → stop_place_from k n stops ≡ 0
unfolding some_of stop_place_from
place_none k n [] e = refl
place_none k n (s ∷ stops) e = go (eqb s.number n) e (place_none (k + 1) n stops)
  where
    go : (u : Bool) → (u || has_stop n stops) ≡ false → (has_stop n stops ≡ false → stop_place_from (k + 1) n stops ≡ 0) → cond u k (stop_place_from (k + 1) n stops) ≡ 0
    go true d h = clash (sym d)
    go false d h = h d

-- where no number stands twice, the stop that has it is the first
place_at : (k n : ℕ) (stops : List StopRecord) (i : ℕ)
    → Distinct (map (λ (s : StopRecord). s.number) stops) → i < length stops → get_or (map (λ (s : StopRecord). s.number) stops) i 0 ≡ n → stop_place_from k n stops ≡ k + i
unfolding stop_place_from
place_at k n [] i d l e = absurd (omega arith)
place_at k n (s ∷ stops) zero d l e = rw (eq-eqb s.number n e) (omega arith)
place_at k n (s ∷ stops) (suc i) d l e =
    go (eqb s.number n) refl (place_at (k + 1) n stops i (distinct_tail s.number (map (λ (s : StopRecord). s.number) stops) d) (omega arith) e)
  where
    go : (u : Bool) → eqb s.number n ≡ u → stop_place_from (k + 1) n stops ≡ k + 1 + i → cond u k (stop_place_from (k + 1) n stops) ≡ k + suc i
    go true q v = absurd (d.apart_at 0 (suc i) (omega arith) (omega (arith, length-map stops (λ (s : StopRecord). s.number))) (eqb-true s.number n q ∙ sym e))
    go false q v = v ∙ omega arith

-- ---- for `search places`: r is what the map answers

module _ (f m : List ℕ) (w : MapOf Stops f m) where
  pub stops-mapped : Mapped m
  stops-mapped = record { count = w.count; chained = w.filled.chained }

  module _ (k : ℕ) (r : Option ℕ) (e : Finds k m r) where
    pub place-nowhere : r ≡ None → 0 ≡ stop_place k (held_in stop_of (lines_of f))
    place-nowhere d =
        sym (place_none 0 k (held_in stop_of (lines_of f)) (sym (has-stop false k (lines_of f) (seen-not Stops (lines_of f) m (map-seen Stops f m w) k r e d))))

    module _ (i : ℕ) (d : r ≡ Some i) where
      pub place-small : i < word_values
      place-small = omega (arith, found-room m w.count k i r w.filled.chained (e.among w.count w.filled.chained) d, w.filled.chained.size)

      pub place-there : i ≡ stop_place k (held_in stop_of (lines_of f))
      place-there =
          let stops : List StopRecord = held_in stop_of (lines_of f) in
          let ns : List ℕ = numbers_in w.count m in
          let x = e.among w.count w.filled.chained in
          let a : ns ≡ map (λ (s : StopRecord). s.number) stops = w.filled.numbers_held ∙ stop-numbers (lines_of f) in
          let l : i < length stops = omega (arith, found_inside k i ns r x d, ap length a, length-map stops (λ (s : StopRecord). s.number)) in
          let v : get_or (map (λ (s : StopRecord). s.number) stops) i 0 ≡ k = rw a at (found_number k i ns r x d) in
          let c : Distinct (map (λ (s : StopRecord). s.number) stops) = rw (stop-numbers (lines_of f)) at w.filled.distinct in
          sym (place_at 0 k stops i c l v ∙ zero-add i)

pub ruleset places = (tests, stops-mapped, place-nowhere, place-small, place-there)
