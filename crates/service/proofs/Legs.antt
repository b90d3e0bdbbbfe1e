-- 17 to 19 on the words of a service's *G and *A VE ranges, which are read back as its ranges. Assumes nothing.
use Rattle.std.specs.Prelude.{Result, Ok, Err}
use mathlib.Core.Path.{◌≡◌, refl, sym, ap, ◌∙◌}
use mathlib.Core.List.{List, [], ◌∷◌, map, ◌++◌}
use mathlib.Core.Bool.{Bool, true, false, cond}
use mathlib.Core.Option.{Option, none, some}
use Prim.Native.Nat.{ℕ, ◌-◌, ◌*◌, ◌≤◌}
use native.Mathlib.Omega.{arith}
use lib.ListN.{length, drop, length-append}
use borrow.Author.Tests.{eq-eqb}
use Rattle.base.specs.Lists.{every, count_if, below, gathered}
use Rattle.base.proofs.Laws.{tests}
use Rattle.base.proofs.Loops.{every_one}
use Rattle.words.specs.Words.{write}
use Rattle.words.proofs.Laws.{write-front}
use Rattle.timetable.specs.Layout.{category_size, day_size, most_categories, most_days}
use Rattle.timetable.specs.Delivery.{BitField, Legs as LegsOf, DayRange, Service}
use Rattle.timetable.specs.Offences.{◌<|>◌, offence_at, verdict_by}
use Rattle.timetable.specs.Legs.{covers}
use Rattle.timetable.specs.Plan.{is_part}
use Rattle.timetable.specs.Service.{legs_on}
use Rattle.timetable.specs.Checks.{ends_first, each_once}
use Rattle.timetable.specs.Table.{rows_in, legs_at, category_at, day_at, category_words, day_words}
use Rattle.timetable.specs.declared.Call.{Call}
use Rattle.timetable.specs.declared.Offence.{Offence}
use Rattle.timetable.specs.declared.RangeKind.{RangeKind}
use Rattle.timetable.specs.declared.RangeKind.TheVariants.{Category, Days}
use Rattle.timetable.specs.declared.RangeLine.{RangeLine}
use Rattle.timetable.proofs.Offences.{verdict-fine, verdict-offends}
use Rattle.timetable.proofs.Records.{categories-back, days-back}
use Rattle.cover.specs.Inner.Cover.{legs_in, once_in, in_turn}
use Rattle.cover.proofs.Turn.{turn-once, legs-rows}
use Rattle.cover.proofs.Rows.{categories-once, days-once}
use Rattle.draft.specs.Inner.Draft.{draft_call, draft_range, most_ranges, calls_in, ranges_on, ranges_in, ranges#, part_in, drafted_service}
use Rattle.draft.proofs.Drafts.{ranges-within}
use Rattle.draft.specs.declared.Counts.{Counts}
use Rattle.draft.specs.declared.Drafted.{Drafted}
use Rattle.range_words.specs.Inner.Parts.{range_row_words, found_words, part_words}
use Rattle.range_words.proofs.Parts.{categories-part, days-part}
use Rattle.service.specs.Inner.Answers.{Counted, PartFound, service_in, ranges_first, rows_first, rows_torn, days_first}
use Rattle.service.proofs.Size.{EndsFound, calls_are, categories-are, days-are}

-- ---- room for what is read, and for the words of the *G ranges and of the *A VE ranges

-- the words of a part whose rows have three words each are at most so many for each of its ranges
module _ (p : RangeKind) (cs : List Call) (three : (r : RangeLine) (from to : ℕ) → length (range_row_words p r from to) ≡ 3) where
  part-most : (rs : List RangeLine) → length (part_words p cs rs) ≤ 3 * length (part_in p rs)
  unfolding gathered
  part-most [] = omega arith
  part-most (r ∷ rs) = go (is_part p r) (legs_on cs r) (part-most rs)
    where
      go : (b : Bool) (o : Option LegsOf) → length (part_words p cs rs) ≤ 3 * length (part_in p rs)
          → length (cond b (found_words p r o) [] ++ part_words p cs rs) ≤ 3 * length (cond b (r ∷ []) [] ++ part_in p rs)
      go false o ih = ih
      go true none ih = omega (arith, ih)
      go true (some g) ih = omega (arith, ih, length-append (range_row_words p r g.from g.to) (part_words p cs rs), three r g.from g.to)

module _ (k : Counts) (calls ranges : List ℕ) (h : Counted k calls ranges) where
  pub ranges-most : ranges# k ≤ most_ranges
  ranges-most = ranges-within k h.within

  pub calls-room : draft_call * k.calls ≤ length calls
  calls-room = omega (arith, h.within.calls, h.lent_calls)

  module _ (n : ℕ) (e : n ≡ ranges# k) where
    pub ranges-room : draft_range * n ≤ length ranges
    ranges-room = omega (arith, e, ranges-most, h.lent_ranges)

    module _ (t : List ℕ) (cs : List Call) where
      pub categories-room : length t ≡ category_size * most_categories → length (part_words Category cs (ranges_in n ranges)) ≤ length t
      categories-room l =
          omega (arith, part-most Category cs (λ r from to. refl) (ranges_in n ranges), ap (λ (n : ℕ). length (part_in Category (ranges_in n ranges))) e, h.categories, h.within.categories)

      pub days-room : length t ≡ day_size * most_days → length (part_words Days cs (ranges_in n ranges)) ≤ length t
      days-room l =
          omega (arith, part-most Days cs (λ r from to. refl) (ranges_in n ranges), ap (λ (n : ℕ). length (part_in Days (ranges_in n ranges))) e, h.days, h.within.days)

-- ---- the needs of `ranges_wrong`, for `search parting`: u is what `find_ends` answered, w and w' what it left in the words t and t'

module _ (d : Drafted) (calls ranges : List ℕ) (n : ℕ) (m : n ≡ ranges# d.counts) where
  abbrev cs : List Call
  cs = calls_in d.counts.calls calls

  abbrev rs : List RangeLine
  rs = ranges_in n ranges

  abbrev s : Service
  s = service_in d calls ranges

  categories-written : part_words Category cs rs ≡ gathered category_words s.categories
  unfolding drafted_service
  categories-written = rw m (sym (categories-part cs (ranges_in (ranges# d.counts) ranges)))

  days-written : part_words Days cs rs ≡ gathered day_words s.days
  unfolding drafted_service
  days-written = rw m (sym (days-part cs (ranges_in (ranges# d.counts) ranges)))

  module _ (u : Result (Unit {0}) Offence) (e : u ≡ verdict_by (ends_first (calls_in d.counts.calls calls) (ranges_on n ranges))) where
    ends-said : u ≡ verdict_by (ends_first (calls_in d.counts.calls calls) (ranges_on (ranges# d.counts) ranges))
    ends-said = e ∙ rw m refl

    pub ends-offend : (fields : List BitField) (days : ℕ) (o : Offence) → u ≡ Err o → u ≡ verdict_by (ranges_first fields days d calls ranges)
    unfolding ◌<|>◌
    ends-offend fields days o y = y ∙ rw (verdict-offends (ends_first (calls_in d.counts.calls calls) (ranges_on (ranges# d.counts) ranges)) u ends-said o y) refl

    module _ (h : Counted d.counts calls ranges) (y : u ≡ Ok tt) where
      found : EndsFound d calls ranges
      found = verdict-fine (ends_first (calls_in d.counts.calls calls) (ranges_on (ranges# d.counts) ranges)) u ends-said y

      categories-read : (t w : List ℕ) → w ≡ write t 0 (part_words Category cs rs) → rows_in category_at category_size d.counts.categories w ≡ s.categories
      categories-read t w e =
          ap (rows_in category_at category_size d.counts.categories) (e ∙ write-front t (part_words Category cs rs) ∙ ap (λ (vs : List ℕ). vs ++ drop (length (part_words Category cs rs)) t) categories-written)
          ∙ ap (λ (g : ℕ). rows_in category_at category_size g (gathered category_words s.categories ++ drop (length (part_words Category cs rs)) t)) (sym (categories-are d calls ranges h found))
          ∙ categories-back s.categories (drop (length (part_words Category cs rs)) t)

      days-read : (t w : List ℕ) → w ≡ write t 0 (part_words Days cs rs) → rows_in day_at day_size d.counts.days w ≡ s.days
      days-read t w e =
          ap (rows_in day_at day_size d.counts.days) (e ∙ write-front t (part_words Days cs rs) ∙ ap (λ (vs : List ℕ). vs ++ drop (length (part_words Days cs rs)) t) days-written)
          ∙ ap (λ (g : ℕ). rows_in day_at day_size g (gathered day_words s.days ++ drop (length (part_words Days cs rs)) t)) (sym (days-are d calls ranges h found))
          ∙ days-back s.days (drop (length (part_words Days cs rs)) t)

      pub legs-told : (fields : List BitField) (days : ℕ) (t w t' w' : List ℕ) (r : Result (Unit {0}) Offence)
          → PartFound u Category (calls_in d.counts.calls calls) (ranges_in n ranges) t w
          → PartFound u Days (calls_in d.counts.calls calls) (ranges_in n ranges) t' w'
          → r ≡ verdict_by (rows_first fields days d.line (d.counts.calls - 1) (rows_in category_at category_size d.counts.categories w) (rows_in day_at day_size d.counts.days w'))
          → r ≡ verdict_by (ranges_first fields days d calls ranges)
      unfolding ◌<|>◌
      legs-told fields days t w t' w' r g k z =
          z ∙ rw (found, categories-read t w (g.written y), days-read t' w' (k.written y), calls_are d calls ranges h found) refl

pub ruleset parting = (tests, ranges-most, calls-room, ranges-room, categories-room, days-room, ends-offend, legs-told)

-- ---- the needs of `legs_wrong`, for `search naming`: b is what `each_once` said of the *G ranges, r what is answered

module _ (w : List ℕ) (g legs : ℕ) (b : Bool) (e : b ≡ every (once_in category_size g w) (below legs)) (fields : List BitField) (days line : ℕ) (rs : List DayRange) (r : Result (Unit {0}) Offence) where
  pub legs-then : b ≡ true → r ≡ verdict_by (days_first fields days line legs rs) → r ≡ verdict_by (rows_first fields days line legs (rows_in category_at category_size g w) rs)
  unfolding ◌<|>◌
  legs-then y z = z ∙ rw (sym (categories-once g legs w) ∙ sym e ∙ y) refl

  pub legs-not : b ≡ false → r ≡ verdict_by (some (offence_at 17 line)) → r ≡ verdict_by (rows_first fields days line legs (rows_in category_at category_size g w) rs)
  unfolding ◌<|>◌
  legs-not y z = z ∙ rw (sym (categories-once g legs w) ∙ sym e ∙ y) refl

pub ruleset naming = (tests, legs-then, legs-not)

-- ---- the need of `each_once`, for `search turning`: t is what `in_turn` said

pub turn-each : (w : List ℕ) (n width legs : ℕ) (t : Bool) → t ≡ in_turn 0 legs (legs_in width n w) → t ≡ true → true ≡ every (once_in width n w) (below legs)
turn-each w n width legs t e y =
    let rows : legs_in width n w ≡ map (λ (g : LegsOf). g) (rows_in (legs_at (width - 2)) width n w) = legs-rows (λ (g : LegsOf). g) (legs_at (width - 2)) width (λ v. refl) n w in
    let follow : in_turn 0 legs (map (λ (g : LegsOf). g) (rows_in (legs_at (width - 2)) width n w)) ≡ true = ap (in_turn 0 legs) (sym rows) ∙ sym e ∙ y in
    sym (every_one (once_in width n w) legs 0 (λ k a h. eq-eqb (count_if (covers k) (legs_in width n w)) 1 (turn-once (λ (g : LegsOf). g) 0 legs k (legs_in width n w) follow a (omega arith))))

pub ruleset turning = (tests, turn-each)

-- ---- the needs of `days_wrong`, for `search tearing`: t is what `each_once` said of the *A VE ranges, s what `two_stretches` said

module _ (w : List ℕ) (v legs : ℕ) (t : Bool) (e : t ≡ every (once_in day_size v w) (below legs)) where
  pub once-each : t ≡ true → each_once (λ (r : DayRange). r.legs) legs (rows_in day_at day_size v w) ≡ true
  once-each y = sym (days-once v legs w) ∙ sym e ∙ y

  module _ (fields : List BitField) (days line : ℕ) where
    pub once-not : (r : Result (Unit {0}) Offence) → t ≡ false → r ≡ verdict_by (some (offence_at 18 line)) → r ≡ verdict_by (days_first fields days line legs (rows_in day_at day_size v w))
    unfolding ◌<|>◌
    once-not r y k = k ∙ rw (sym (days-once v legs w) ∙ sym e ∙ y) refl

    module _ (y : t ≡ true) (s : Bool) (f : s ≡ rows_torn fields days legs (rows_in day_at day_size v w)) where
      pub torn-yes : (r : Result (Unit {0}) Offence) → s ≡ true → r ≡ verdict_by (some (offence_at 19 line)) → r ≡ verdict_by (days_first fields days line legs (rows_in day_at day_size v w))
      unfolding ◌<|>◌
      torn-yes r x k = k ∙ rw (once-each y, sym f ∙ x) refl

      pub torn-not : s ≡ false → Ok tt ≡ verdict_by (days_first fields days line legs (rows_in day_at day_size v w))
      unfolding ◌<|>◌
      torn-not x = rw (once-each y, sym f ∙ x) refl

pub ruleset tearing = (tests, once-each, once-not, torn-yes, torn-not)
