-- The ends of a service's ranges (16), and the words of its *G and *A VE ranges as they are found: the needs of the loop over the ranges. Assumes
-- nothing.
use mathlib.Core.Path.{◌≡◌, refl, sym, ap, ◌∙◌}
use mathlib.Core.List.{List, []}
use mathlib.Core.Bool.{Bool, true, false, cond}
use mathlib.Core.Option.{Option as Maybe, none, some}
use Rattle.std.specs.Prelude.{Option, Some, None, Result, Ok, Err}
use Prim.Native.Nat.{ℕ, ◌+◌, ◌-◌, ◌*◌, ◌≤◌, ◌<◌}
use native.Mathlib.Nat.{sub-zero}
use native.Mathlib.Omega.{arith}
use lib.ListN.{length, drop}
use Rattle.base.proofs.Laws.{tests, apart, len-trans}
use Rattle.words.specs.Words.{write}
use Rattle.words.proofs.Laws.{write-none}
use Rattle.fields.specs.declared.RouteIndex.{RouteIndex}
use Rattle.draft.specs.Inner.Draft.{draft_range, line_back, range_back, ranges_on, ranges_in}
use Rattle.timetable.specs.Delivery.{Legs}
use Rattle.timetable.specs.Offences.{offence_at, given, ◌<|>◌, verdict_by}
use Rattle.timetable.specs.Plan.{is_part}
use Rattle.timetable.specs.Service.{legs_on}
use Rattle.timetable.specs.Checks.{is_none, ends_first}
use Rattle.timetable.specs.Table.{rows_in}
use Rattle.timetable.specs.declared.Call.{Call}
use Rattle.timetable.specs.declared.Offence.{Offence}
use Rattle.timetable.specs.declared.RangeKind.{RangeKind}
use Rattle.timetable.specs.declared.RangeKind.TheVariants.{Category, Days}
use Rattle.timetable.specs.declared.RangeLine.{RangeLine}
use Rattle.timetable.proofs.Rows.{rows_none}
use Rattle.draft.proofs.Steps.{rows-step}
use Rattle.route.specs.Inner.Route.{found_of}
use Rattle.range_words.specs.Inner.Parts.{found_words, part_row, range_gives, part_words}
use Rattle.range_words.proofs.Parts.{unfound, found-legs, part_left, range_inside, part_count, part-start, put-room, put_count, put-again, part-done}
use Rattle.service.specs.Inner.Answers.{PartFound, ends_after, row_by}
use Rattle.service.specs.declared.schedule.RowEnds.{RowEnds}

-- ---- what is said of a range says whether its ends are found

module _ (z : RowEnds) (cs : List Call) (r : RangeLine) where
  row-lost : row_by z cs r ≡ None → is_none (legs_on cs r) ≡ true
  row-lost e = go (is_none (legs_on cs r)) e
    where
      go : (b : Bool) → cond b None (Some (ends_after z cs r)) ≡ None → b ≡ true
      go true e = refl
      go false e = apart (cc)

  row-found : (z' : RowEnds) → row_by z cs r ≡ Some z' → (is_none (legs_on cs r) ≡ false) × (z' ≡ ends_after z cs r)
  row-found z' e = go (is_none (legs_on cs r)) e
    where
      go : (b : Bool) → cond b None (Some (ends_after z cs r)) ≡ Some z' → (b ≡ false) × (z' ≡ ends_after z cs r)
      go true e = apart (cc)
      go false e = (refl, cc)

-- ---- one range, for `search finding`: f is what was found of it

module _ (cs : List Call) (w : List ℕ) (at : ℕ) (x : RangeLine) (d : x ≡ line_back (drop at w)) (f : Option (RouteIndex × RouteIndex)) (e : f ≡ found_of (legs_on cs x)) where
  legs-found : legs_on cs (line_back (drop at w)) ≡ unfound f
  legs-found = ap (legs_on cs) (sym d) ∙ found-legs f (legs_on cs x) e

  module _ (y : f ≡ None) where
    gives_none : (part : RangeKind) → range_gives part cs (line_back (drop at w)) ≡ []
    unfolding unfound
    gives_none part = rw (legs-found ∙ ap unfound y) (go (is_part part (line_back (drop at w))))
      where
        go : (b : Bool) → cond b (found_words part (line_back (drop at w)) none) [] ≡ []
        go true = refl
        go false = refl

    pub row-missing : (z : RowEnds) → None ≡ row_by z cs (line_back (drop at w))
    unfolding unfound
    row-missing z = rw (legs-found ∙ ap unfound y) refl

    pub row-unwritten : (part : RangeKind) (t : List ℕ) (q : ℕ) → t ≡ write t q (range_gives part cs (line_back (drop at w)))
    row-unwritten part t q = rw (gives_none part) (sym (write-none t q))

  module _ (from to : RouteIndex) (y : f ≡ Some (from, to)) where
    gives_row : (part : RangeKind) → part_row part x from.0 to.0 ≡ range_gives part cs (line_back (drop at w))
    unfolding unfound
    gives_row part =
        ap (λ (l : Maybe Legs). cond (is_part part x) (found_words part x l) []) (sym (found-legs f (legs_on cs x) e ∙ ap unfound y))
        ∙ ap (range_gives part cs) d

    pub row_room : (part : RangeKind) (t : List ℕ) (q : ℕ) → q + length (range_gives part cs (line_back (drop at w))) ≤ length t → q + length (part_row part x from.0 to.0) ≤ length t
    row_room part t q h = rw (gives_row part) h

    pub row_put : (part : RangeKind) (t t' : List ℕ) (q : ℕ) → t' ≡ write t q (part_row part x from.0 to.0) → t' ≡ write t q (range_gives part cs (line_back (drop at w)))
    row_put part t t' q v = rw (sym (gives_row part)) v

    pub row_written : (z : RowEnds) (a b : ℕ) → a ≡ z.categories + length (part_row Category x from.0 to.0) → b ≡ z.operating + length (part_row Days x from.0 to.0)
        → Some (record { categories = a; operating = b }) ≡ row_by z cs (line_back (drop at w))
    unfolding unfound
    row_written z a b k l =
        let found : is_none (legs_on cs (line_back (drop at w))) ≡ false = ap is_none (legs-found ∙ ap unfound y) in
        let category : a ≡ z.categories + length (range_gives Category cs (line_back (drop at w))) = k ∙ ap (λ (vs : List ℕ). z.categories + length vs) (gives_row Category) in
        let day : b ≡ z.operating + length (range_gives Days cs (line_back (drop at w))) = l ∙ ap (λ (vs : List ℕ). z.operating + length vs) (gives_row Days) in
        rw (found, category, day) refl

pub ruleset finding = (tests, row-missing, row-unwritten, row_room, row_put, row_written)

-- ---- 16, for `search ended`: the ranges from the i-th of n on, whose words start at `at`; o is what all ranges answer

pub ends-start : (cs : List Call) (w : List ℕ) (n : ℕ) → verdict_by (ends_first cs (rows_in range_back draft_range (n - 0) (drop (draft_range * 0) w))) ≡ verdict_by (ends_first cs (ranges_on n w))
ends-start cs w n = rw (sub-zero n) refl

module _ (cs : List Call) (w : List ℕ) (n i : ℕ) (o : Result (Unit {0}) Offence) (v : verdict_by (ends_first cs (rows_in range_back draft_range (n - i) (drop (draft_range * i) w))) ≡ o) where
  -- x is what was said of the range at hand
  module _ (at : ℕ) (p : at ≡ draft_range * i) (h : i < n) (z : RowEnds) (x : Option RowEnds) (e : x ≡ row_by z cs (line_back (drop at w))) where
    turn : verdict_by (given (is_none (legs_on cs (line_back (drop at w)))) 16 (range_back (drop at w)).0 <|> ends_first cs (rows_in range_back draft_range (n - (i + 1)) (drop (draft_range * (i + 1)) w))) ≡ o
    unfolding ends_first
    turn = ap (λ (xs : List (ℕ × RangeLine)). verdict_by (ends_first cs xs)) (sym (rows-step range_back draft_range n i at w p h)) ∙ v

    pub ends-again : (z' : RowEnds) → x ≡ Some z' → verdict_by (ends_first cs (rows_in range_back draft_range (n - (i + 1)) (drop (draft_range * (i + 1)) w))) ≡ o
    unfolding ◌<|>◌
    ends-again z' y = rw (row-found z cs (line_back (drop at w)) z' (sym e ∙ y)).0 at turn

    pub ends-out : (line : ℕ) (r : Result (Unit {0}) Offence) → x ≡ None → line ≡ (range_back (drop at w)).0 → r ≡ verdict_by (some (offence_at 16 line)) → r ≡ o
    unfolding ◌<|>◌
    ends-out line r y k u = u ∙ ap (λ (l : ℕ). Err (offence_at 16 l)) k ∙ (rw (row-lost z cs (line_back (drop at w)) (sym e ∙ y)) at turn)

  pub ends-done : n ≤ i → Ok tt ≡ o
  unfolding ends_first
  ends-done h = rw (rows_none range_back draft_range n i (drop (draft_range * i) w) h) at v

-- ---- the words of a part, for the same: z are the places so far, z' those after the range at hand

module _ (part : RangeKind) (cs : List Call) (n : ℕ) (w : List ℕ) where
  pub rows-count : 0 + length (part_left part cs n 0 w) ≡ length (part_words part cs (ranges_in n w))
  rows-count = omega (arith, part_count part cs n 0 w)

  pub rows_start : (t : List ℕ) → write t 0 (part_left part cs n 0 w) ≡ write t 0 (part_words part cs (ranges_in n w))
  rows_start t = part-start part cs n 0 w t

  module _ (i at q m : ℕ) (p : at ≡ draft_range * i) (h : i < n) (t t₀ : List ℕ) (len : length t ≡ length t₀) (count : q + length (part_left part cs n i w) ≡ m) (room : m ≤ length t₀) where
    pub rows-room : q + length (range_gives part cs (line_back (drop at w))) ≤ length t
    rows-room = put-room part cs n i q m w at p h (range_gives part cs (line_back (drop at w))) refl t t₀ len count room

    module _ (q' : ℕ) (after : q' ≡ q + length (range_gives part cs (line_back (drop at w)))) where
      next-count : q' + length (part_left part cs n (i + 1) w) ≡ m
      next-count = put_count part cs n i q m w at p h (range_gives part cs (line_back (drop at w))) refl t t₀ len count room q' after

      next-again : (t' r : List ℕ) → t' ≡ write t q (range_gives part cs (line_back (drop at w))) → write t q (part_left part cs n i w) ≡ r
          → write t' q' (part_left part cs n (i + 1) w) ≡ r
      next-again = put-again part cs n i q m w at p h (range_gives part cs (line_back (drop at w))) refl t t₀ len count room q' after

  -- all are written
  pub rows-done : (i q : ℕ) (t t₀ : List ℕ) → n ≤ i → write t q (part_left part cs n i w) ≡ write t₀ 0 (part_words part cs (ranges_in n w)) → PartFound (Ok tt) part cs (ranges_in n w) t₀ t
  rows-done i q t t₀ h v = record { written = λ y. part-done part cs n i q 0 w h t (write t₀ 0 (part_words part cs (ranges_in n w))) v }

module _ (cs : List Call) (n i at m : ℕ) (w : List ℕ) (p : at ≡ draft_range * i) (h : i < n) (z z' : RowEnds) (x : Option RowEnds) (e : x ≡ row_by z cs (line_back (drop at w))) (y : x ≡ Some z')
    (t t₀ : List ℕ) (len : length t ≡ length t₀) (room : m ≤ length t₀) where
  module _ (count : z.categories + length (part_left Category cs n i w) ≡ m) where
    pub category-count : z'.categories + length (part_left Category cs n (i + 1) w) ≡ m
    category-count = next-count Category cs n w i at z.categories m p h t t₀ len count room z'.categories (ap (λ (z : RowEnds). z.categories) (row-found z cs (line_back (drop at w)) z' (sym e ∙ y)).1)

    pub category-again : (t' r : List ℕ) → t' ≡ write t z.categories (range_gives Category cs (line_back (drop at w))) → write t z.categories (part_left Category cs n i w) ≡ r
        → write t' z'.categories (part_left Category cs n (i + 1) w) ≡ r
    category-again = next-again Category cs n w i at z.categories m p h t t₀ len count room z'.categories (ap (λ (z : RowEnds). z.categories) (row-found z cs (line_back (drop at w)) z' (sym e ∙ y)).1)

  module _ (count : z.operating + length (part_left Days cs n i w) ≡ m) where
    pub day-count : z'.operating + length (part_left Days cs n (i + 1) w) ≡ m
    day-count = next-count Days cs n w i at z.operating m p h t t₀ len count room z'.operating (ap (λ (z : RowEnds). z.operating) (row-found z cs (line_back (drop at w)) z' (sym e ∙ y)).1)

    pub day-again : (t' r : List ℕ) → t' ≡ write t z.operating (range_gives Days cs (line_back (drop at w))) → write t z.operating (part_left Days cs n i w) ≡ r
        → write t' z'.operating (part_left Days cs n (i + 1) w) ≡ r
    day-again = next-again Days cs n w i at z.operating m p h t t₀ len count room z'.operating (ap (λ (z : RowEnds). z.operating) (row-found z cs (line_back (drop at w)) z' (sym e ∙ y)).1)

-- nothing is said of them where 16 has an offence
pub rows-unsaid : (r : Result (Unit {0}) Offence) (o : Offence) (part : RangeKind) (cs : List Call) (rs : List RangeLine) (t t' : List ℕ) → r ≡ verdict_by (some o) → PartFound r part cs rs t t'
rows-unsaid r o part cs rs t t' e = record { written = λ y. apart (cc) }

pub ruleset ended = (tests, len-trans, range_inside, ends-start, ends-again, ends-out, ends-done, rows-count, rows_start, rows-room, category-count, category-again, day-count, day-again, rows-done, rows-unsaid)
