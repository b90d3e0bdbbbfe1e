-- What a range gives to a part, the parts written, and that each is the part of the service. Assumes nothing.
use mathlib.Core.Path.{◌≡◌, refl, sym, ap, ◌∙◌}
use mathlib.Core.List.{List, [], ◌∷◌, ◌++◌, append-nil}
use mathlib.Core.Bool.{Bool, true, false, cond}
use mathlib.Core.Option.{Option as Maybe, none, some}
use Rattle.std.specs.Prelude.{Option, Some, None}
use Prim.Native.Nat.{ℕ, ◌+◌, ◌-◌, ◌*◌, ◌≤◌, ◌<◌}
use native.Mathlib.Nat.{add-zero}
use native.Mathlib.Omega.{arith}
use lib.ListN.{length, get_or, drop}
use lib.Seq.{get_or-drop}
use lib.Dec.{eqb}
use borrow.Author.Tests.{eq-eqb, ne_eqb}
use Rattle.base.specs.Lists.{gathered}
use Rattle.base.proofs.Laws.{tests, len-trans}
use Rattle.base.proofs.Lists.{gathered-append}
use Rattle.words.specs.Words.{write}
use Rattle.words.proofs.Laws.{write-none}
use Rattle.fields.specs.declared.RouteIndex.{RouteIndex}
use Rattle.timetable.specs.Delivery.{Legs}
use Rattle.timetable.specs.Plan.{part_number, is_part, of_part}
use Rattle.timetable.specs.Service.{legs_on, with_legs, category_range, day_range, extra_range}
use Rattle.timetable.specs.Table.{rows_in, category_words, day_words, extra_words}
use Rattle.timetable.specs.declared.Call.{Call}
use Rattle.timetable.specs.declared.RangeKind.{RangeKind}
use Rattle.timetable.specs.declared.RangeKind.TheVariants.{Category, Days, Extra}
use Rattle.timetable.specs.declared.RangeLine.{RangeLine}
use Rattle.draft.specs.Inner.Draft.{draft_range, part_back, line_back, ranges_in, part_in}
use Rattle.route.specs.Inner.Route.{found_of}
use Rattle.range_words.specs.Inner.Parts.{range_row_words, part_row, found_words, range_gives, part_words}
use Rattle.range_words.proofs.Rows.{row-turn, no_rows, row-start, run-count, run_room, run-again}

-- ---- a part is the part of the service

-- ranges of a kind X, made of a range line and written
module _ {X : Type 0} (p : RangeKind) (cs : List Call) (made : RangeLine → List X) (words : X → List ℕ) (same : (r : RangeLine) → gathered words (made r) ≡ found_words p r (legs_on cs r)) where
  part-of : (rs : List RangeLine) → gathered words (gathered made (part_in p rs)) ≡ part_words p cs rs
  unfolding gathered
  part-of [] = refl
  part-of (r ∷ rs) =
      ap (gathered words) (gathered-append made (of_part p r) (part_in p rs))
      ∙ gathered-append words (gathered made (of_part p r)) (gathered made (part_in p rs))
      ∙ ap (λ (vs : List ℕ). gathered words (gathered made (of_part p r)) ++ vs) (part-of rs)
      ∙ ap (λ (vs : List ℕ). vs ++ part_words p cs rs) (go (is_part p r))
    where
      go : (b : Bool) → gathered words (gathered made (cond b (r ∷ []) [])) ≡ cond b (found_words p r (legs_on cs r)) []
      go true = ap (gathered words) (append-nil (made r)) ∙ same r
      go false = refl

module _ (cs : List Call) (rs : List RangeLine) where
  pub categories-part : gathered category_words (gathered (category_range cs) (part_in Category rs)) ≡ part_words Category cs rs
  unfolding gathered
  categories-part = part-of Category cs (category_range cs) category_words (λ r. go r (legs_on cs r)) rs
    where
      go : (r : RangeLine) (o : Maybe Legs) → gathered category_words (with_legs (λ (x : Legs). record { name = r.name; legs = x }) o) ≡ found_words Category r o
      go r none = refl
      go r (some g) = refl

  pub days-part : gathered day_words (gathered (day_range cs) (part_in Days rs)) ≡ part_words Days cs rs
  unfolding gathered
  days-part = part-of Days cs (day_range cs) day_words (λ r. go r (legs_on cs r)) rs
    where
      go : (r : RangeLine) (o : Maybe Legs) → gathered day_words (with_legs (λ (x : Legs). record { field = r.field; legs = x }) o) ≡ found_words Days r o
      go r none = refl
      go r (some g) = refl

  pub extras-part : gathered extra_words (gathered (extra_range cs) (part_in Extra rs)) ≡ part_words Extra cs rs
  unfolding gathered
  extras-part = part-of Extra cs (extra_range cs) extra_words (λ r. go r (legs_on cs r)) rs
    where
      go : (r : RangeLine) (o : Maybe Legs) → gathered extra_words (with_legs (λ (x : Legs). record { code = r.name; field = r.field; legs = x }) o) ≡ found_words Extra r o
      go r none = refl
      go r (some g) = refl

-- ---- what a range gives, for `search gives`

-- the legs that were found are those that the answer says
unfoldable pub unfound : Option (RouteIndex × RouteIndex) → Maybe Legs
unfound (Some (from, to)) = some (record { from = from.0; to = to.0 })
unfound None = none

pub found-legs : (f : Option (RouteIndex × RouteIndex)) (o : Maybe Legs) → f ≡ found_of o → o ≡ unfound f
unfolding unfound
found-legs f none k = rw k refl
found-legs f (some g) k = rw k refl

pub drafted-0 : (k : ℕ) → k ≡ 0 → 0 ≡ part_number (part_back k)
drafted-0 k e = rw e refl

pub drafted-1 : (k : ℕ) → k ≡ 1 → 1 ≡ part_number (part_back k)
drafted-1 k e = rw e refl

-- by the word of the range at place p that says its part: a is that part's number, b the number of the part that is written
module _ (part : RangeKind) (cs : List Call) (w : List ℕ) (p a b : ℕ) (e : a ≡ part_number (part_back (get_or w (p + 1) 0))) (d : b ≡ part_number part) where
  part-here : is_part part (line_back (drop p w)) ≡ eqb a b
  part-here = ap (λ (k : ℕ). eqb (part_number (part_back k)) (part_number part)) (get_or-drop p w 1 0) ∙ rw (e, d) refl

  module _ (h : a ≡ b → ⊥) where
    gives-other : range_gives part cs (line_back (drop p w)) ≡ []
    gives-other = rw (part-here ∙ ne_eqb a b h) refl

    pub other_count : (q : ℕ) → q ≡ q + length (range_gives part cs (line_back (drop p w)))
    other_count q = rw gives-other (sym (add-zero q))

    pub other_put : (t : List ℕ) (q : ℕ) → t ≡ write t q (range_gives part cs (line_back (drop p w)))
    other_put t q = rw gives-other (sym (write-none t q))

  -- x is that range, f what was found of it
  module _ (h : a ≡ b) (x : RangeLine) (y : x ≡ line_back (drop p w)) (f : Option (RouteIndex × RouteIndex)) (k : f ≡ found_of (legs_on cs x)) where
    gives-found : range_gives part cs (line_back (drop p w)) ≡ found_words part x (unfound f)
    gives-found =
        let own : is_part part x ≡ true = ap (is_part part) y ∙ (part-here ∙ eq-eqb a b h) in
        ap (range_gives part cs) (sym y) ∙ rw own (ap (found_words part x) (found-legs f (legs_on cs x) k))

    module _ (z : f ≡ None) where
      gives-none : range_gives part cs (line_back (drop p w)) ≡ []
      unfolding unfound
      gives-none = gives-found ∙ ap (λ (f : Option (RouteIndex × RouteIndex)). found_words part x (unfound f)) z

      pub none_count : (q : ℕ) → q ≡ q + length (range_gives part cs (line_back (drop p w)))
      none_count q = rw gives-none (sym (add-zero q))

      pub none_put : (t : List ℕ) (q : ℕ) → t ≡ write t q (range_gives part cs (line_back (drop p w)))
      none_put t q = rw gives-none (sym (write-none t q))

    module _ (from to : RouteIndex) (z : f ≡ Some (from, to)) where
      gives-row : range_gives part cs (line_back (drop p w)) ≡ range_row_words part x from.0 to.0
      unfolding unfound
      gives-row = gives-found ∙ ap (λ (f : Option (RouteIndex × RouteIndex)). found_words part x (unfound f)) z

      pub found_room : (t : List ℕ) (q : ℕ) → q + length (range_gives part cs (line_back (drop p w))) ≤ length t → q + length (range_row_words part x from.0 to.0) ≤ length t
      found_room t q r = rw gives-row at r

      pub found_count : (q r : ℕ) → r ≡ q + length (range_row_words part x from.0 to.0) → r ≡ q + length (range_gives part cs (line_back (drop p w)))
      found_count q r v = rw gives-row v

      pub found_put : (t t' : List ℕ) (q : ℕ) → t' ≡ write t q (range_row_words part x from.0 to.0) → t' ≡ write t q (range_gives part cs (line_back (drop p w)))
      found_put t t' q v = rw gives-row v

pub ruleset gives = (tests, drafted-0, drafted-1, other_count, other_put, none_count, none_put, found_room, found_count, found_put)

-- ---- the words of a row, for `search putting`

module _ (part : RangeKind) (x : RangeLine) (from to : ℕ) (t : List ℕ) (q : ℕ) where
  module _ (e : part ≡ Category) where
    pub category-room : q + length (range_row_words part x from to) ≤ length t → q + 3 ≤ length t
    category-room h = rw e at h

    pub category-count : q + 3 ≡ q + length (range_row_words part x from to)
    category-count = rw e refl

    pub category-put : (t' : List ℕ) → t' ≡ write t q (x.name ∷ from ∷ to ∷ []) → t' ≡ write t q (range_row_words part x from to)
    category-put t' k = rw e k

  module _ (e : part ≡ Days) where
    pub days-room : q + length (range_row_words part x from to) ≤ length t → q + 3 ≤ length t
    days-room h = rw e at h

    pub days-count : q + 3 ≡ q + length (range_row_words part x from to)
    days-count = rw e refl

    pub days-put : (t' : List ℕ) → t' ≡ write t q (x.field ∷ from ∷ to ∷ []) → t' ≡ write t q (range_row_words part x from to)
    days-put t' k = rw e k

  module _ (e : part ≡ Extra) where
    pub extra-room : q + length (range_row_words part x from to) ≤ length t → q + 4 ≤ length t
    extra-room h = rw e at h

    pub extra-count : q + 4 ≡ q + length (range_row_words part x from to)
    extra-count = rw e refl

    pub extra-put : (t' : List ℕ) → t' ≡ write t q (x.name ∷ x.field ∷ from ∷ to ∷ []) → t' ≡ write t q (range_row_words part x from to)
    extra-put t' k = rw e k

pub ruleset putting = (tests, category-room, category-count, category-put, days-room, days-count, days-put, extra-room, extra-count, extra-put)

-- ---- the row of a range that is written only to its own part, for `search rowing`: a and b are the numbers of its part and of that part

module _ (part : RangeKind) (x : RangeLine) (a b : ℕ) (e : a ≡ part_number x.part) (d : b ≡ part_number part) (from to : ℕ) where
  own-here : is_part part x ≡ eqb a b
  own-here = rw (e, d) refl

  module _ (h : a ≡ b → ⊥) where
    no_row : part_row part x from to ≡ []
    no_row = rw (own-here ∙ ne_eqb a b h) refl

    pub other-count : (q : ℕ) → q ≡ q + length (part_row part x from to)
    other-count q = rw no_row (sym (add-zero q))

    pub other-put : (t : List ℕ) (q : ℕ) → t ≡ write t q (part_row part x from to)
    other-put t q = rw no_row (sym (write-none t q))

  module _ (h : a ≡ b) where
    one-row : part_row part x from to ≡ range_row_words part x from to
    one-row = rw (own-here ∙ eq-eqb a b h) refl

    pub own_room : (t : List ℕ) (q : ℕ) → q + length (part_row part x from to) ≤ length t → q + length (range_row_words part x from to) ≤ length t
    own_room t q r = rw one-row at r

    pub own-count : (q r : ℕ) → r ≡ q + length (range_row_words part x from to) → r ≡ q + length (part_row part x from to)
    own-count q r v = rw one-row v

    pub own_put : (t t' : List ℕ) (q : ℕ) → t' ≡ write t q (range_row_words part x from to) → t' ≡ write t q (part_row part x from to)
    own_put t t' q v = rw one-row v

pub ruleset rowing = (tests, other-count, other-put, own_room, own-count, own_put)

-- ---- the loop of `part_into`, for `search puts`

-- the words of the ranges from the i-th of n on
abbrev pub part_left : RangeKind → List Call → ℕ → ℕ → List ℕ → List ℕ
part_left part cs n i w = part_words part cs (rows_in line_back draft_range (n - i) (drop (draft_range * i) w))

-- the words of a range lie in w
pub range_inside : (w : List ℕ) (n i p : ℕ) → draft_range * n ≤ length w → i < n → p ≡ draft_range * i → p + draft_range ≤ length w
range_inside w n i p l h e = omega arith

module _ (part : RangeKind) (cs : List Call) where
  pub part_count : (n q : ℕ) (w : List ℕ) → q + length (part_left part cs n 0 w) ≡ q + length (part_words part cs (ranges_in n w))
  part_count n q w = ap (λ (vs : List ℕ). q + length vs) (row-start line_back draft_range (range_gives part cs) w n)

  pub part-start : (n q : ℕ) (w t : List ℕ) → write t q (part_left part cs n 0 w) ≡ write t q (part_words part cs (ranges_in n w))
  part-start n q w t = ap (write t q) (row-start line_back draft_range (range_gives part cs) w n)

  module _ (n i q m : ℕ) (w : List ℕ) where
    module _ (p : ℕ) (d : p ≡ draft_range * i) (h : i < n) (vs : List ℕ) (k : vs ≡ range_gives part cs (line_back (drop p w))) (t t₀ : List ℕ) (len : length t ≡ length t₀)
        (count : q + length (part_left part cs n i w) ≡ m) (room : m ≤ length t₀) where
      part-turn : part_left part cs n i w ≡ vs ++ part_left part cs n (i + 1) w
      part-turn = row-turn line_back draft_range (range_gives part cs) w n i p d h vs k

      pub put-room : q + length vs ≤ length t
      put-room = run_room vs (part_left part cs n (i + 1) w) (part_left part cs n i w) t t₀ q m part-turn len count room

      module _ (q' : ℕ) (after : q' ≡ q + length vs) where
        pub put_count : q' + length (part_left part cs n (i + 1) w) ≡ m
        put_count = rw after (run-count vs (part_left part cs n (i + 1) w) (part_left part cs n i w) t t₀ q m part-turn len count)

        pub put-again : (t' r : List ℕ) → t' ≡ write t q vs → write t q (part_left part cs n i w) ≡ r → write t' q' (part_left part cs n (i + 1) w) ≡ r
        put-again t' r z v = rw after (run-again vs (part_left part cs n (i + 1) w) (part_left part cs n i w) t t₀ q m part-turn len count room t' r z v)

    module _ (h : n ≤ i) where
      pub part-last : q + length (part_left part cs n i w) ≡ m → q ≡ m
      part-last v = sym (add-zero q) ∙ (rw (no_rows line_back draft_range (range_gives part cs) w n i h) at v)

      pub part-done : (t r : List ℕ) → write t q (part_left part cs n i w) ≡ r → t ≡ r
      part-done t r v = sym (write-none t q) ∙ (rw (no_rows line_back draft_range (range_gives part cs) w n i h) at v)

pub ruleset puts = (tests, len-trans, range_inside, part_count, part-start, put-room, put_count, put-again, part-last, part-done)
