-- A service's words as the code writes them: its calls, the parts after them, its head. Assumes nothing.
use mathlib.Core.Path.{◌≡◌, refl, sym, ap, ◌∙◌}
use mathlib.Core.List.{List, [], ◌∷◌, ◌++◌, map}
use Prim.Native.Nat.{ℕ, ◌+◌, ◌-◌, ◌*◌, ◌/◌, ◌≤◌}
use native.Mathlib.Omega.{arith}
use lib.ListN.{length, length-append, length-map}
use Rattle.base.specs.Lists.{gathered}
use Rattle.base.proofs.Laws.{tests}
use Rattle.words.specs.Words.{write}
use Rattle.words.proofs.Laws.{write-write, write-before}
use Rattle.timetable.specs.Layout.{service_head, category_size, day_size, extra_size}
use Rattle.timetable.specs.Delivery.{StopRecord, Service}
use Rattle.timetable.specs.Table.{stop_place, with_stop, pointing, call_words, head_words, service_words}
use Rattle.timetable.specs.declared.Call.{Call}
use Rattle.timetable.specs.declared.Opening.{Opening}
use Rattle.timetable.specs.declared.RangeKind.TheVariants.{Category, Days, Extra}
use Rattle.timetable.specs.declared.RangeLine.{RangeLine}
use Rattle.timetable.proofs.Records.{categories-length, days-length, extras-length, service-length}
use Rattle.draft.specs.Inner.Draft.{draft_call, draft_range, most_ranges, calls_lent, ranges_lent, ranges#, Within, calls_in, ranges_in, drafted_service}
use Rattle.draft.specs.declared.Counts.{Counts}
use Rattle.draft.specs.declared.Drafted.{Drafted}
use Rattle.draft.proofs.Drafts.{ranges-within}
use Rattle.route.proofs.Laws.{length-calls}
use Rattle.range_words.specs.Inner.Parts.{part_words}
use Rattle.range_words.proofs.Parts.{categories-part, days-part, extras-part}
use Rattle.service_words.specs.Inner.Record.{pointed_words, range_words, range_ends, body_of, sizes_by, sizes_of, head_by, placed_in}
use Rattle.service_words.specs.declared.RangeEnds.{RangeEnds}
use Rattle.service_words.specs.declared.Sizes.{Sizes}

-- ---- a service takes as many words with its stops' places as with their numbers

pub pointed-size : (stops : List StopRecord) (s : Service) → length (service_words (pointing stops s)) ≡ length (service_words s)
unfolding pointing
pointed-size stops s = omega (arith, service-length (pointing stops s), service-length s, length-map s.calls (with_stop (λ (n : ℕ). stop_place n stops)))

-- ---- the words of a drafted service, as the table has it

calls-pointed : (stops : List StopRecord) (cs : List Call) → gathered call_words (map (with_stop (λ (n : ℕ). stop_place n stops)) cs) ≡ gathered (pointed_words stops) cs
unfolding gathered
calls-pointed stops [] = refl
calls-pointed stops (c ∷ cs) = ap (λ (vs : List ℕ). pointed_words stops c ++ vs) (calls-pointed stops cs)

module _ (stops : List StopRecord) (o : Opening) (line : ℕ) (cs : List Call) (rs : List RangeLine) where
  abbrev s : Service
  s = pointing stops (drafted_service o line cs rs)

  head-and-body : service_words s ≡ head_words s ++ body_of stops cs rs
  unfolding service_words pointing drafted_service
  head-and-body = rw (calls-pointed stops cs, categories-part cs rs, days-part cs rs, extras-part cs rs) refl

  words_size : length (service_words s) ≡ service_head + length (body_of stops cs rs)
  words_size = ap length head-and-body ∙ length-append (head_words s) (body_of stops cs rs)

  three : (v m : ℕ) → v ≡ 3 * m → v / 3 ≡ m
  three v m e = omega arith

  four : (v m : ℕ) → v ≡ 4 * m → v / 4 ≡ m
  four v m e = omega arith

  calls_count : length s.calls ≡ length cs
  unfolding pointing drafted_service
  calls_count = length-map cs (with_stop (λ (n : ℕ). stop_place n stops))

  categories-count : length (part_words Category cs rs) ≡ category_size * length s.categories
  unfolding pointing drafted_service
  categories-count = ap length (sym (categories-part cs rs)) ∙ categories-length s.categories

  days-count : length (part_words Days cs rs) ≡ day_size * length s.days
  unfolding pointing drafted_service
  days-count = ap length (sym (days-part cs rs)) ∙ days-length s.days

  extras-count : length (part_words Extra cs rs) ≡ extra_size * length s.extras
  unfolding pointing drafted_service
  extras-count = ap length (sym (extras-part cs rs)) ∙ extras-length s.extras

  sizes-told : sizes_by stops cs rs ≡ sizes_of s
  sizes-told =
      rw (
        three (length (part_words Category cs rs)) (length s.categories) categories-count,
        three (length (part_words Days cs rs)) (length s.days) days-count,
        four (length (part_words Extra cs rs)) (length s.extras) extras-count,
        words_size,
        calls_count,
      ) refl

  head-told : head_by (sizes_of s) o line ≡ head_words s
  unfolding pointing drafted_service
  head-told = rw (service-length s) refl

-- ---- the needs of `service_into`, for `search services`

module _ (k : Counts) (h : Within k) where
  pub count-ranges : ranges# k ≤ most_ranges
  count-ranges = ranges-within k h

  pub lent-calls : (calls : List ℕ) → calls_lent ≤ length calls → draft_call * k.calls ≤ length calls
  lent-calls calls l = omega (arith, h.calls)

  pub lent-ranges : (ranges : List ℕ) (n : ℕ) → ranges_lent ≤ length ranges → n ≡ ranges# k → draft_range * n ≤ length ranges
  lent-ranges ranges n l e = omega (arith, count-ranges)

-- the draft d holds n ranges; t is lent, and has room for the words from place q on
module _ (stops : List StopRecord) (d : Drafted) (calls ranges : List ℕ) where
  abbrev held : Service
  held = placed_in stops d calls ranges

  abbrev body : ℕ → List ℕ
  body n = body_of stops (calls_in d.counts.calls calls) (ranges_in n ranges)

  abbrev told : ℕ → Sizes
  told n = sizes_by stops (calls_in d.counts.calls calls) (ranges_in n ranges)

  held-size : (n : ℕ) → n ≡ ranges# d.counts → length (service_words held) ≡ service_head + length (body n)
  held-size n e = words_size stops d.opening d.line (calls_in d.counts.calls calls) (ranges_in (ranges# d.counts) ranges) ∙ ap (λ (m : ℕ). service_head + length (body m)) (sym e)

  module _ (t : List ℕ) (q : ℕ) (room : q + length (service_words held) ≤ length t) where
    pub room-body : (n : ℕ) → n ≡ ranges# d.counts → q + service_head + length (body n) ≤ length t
    room-body n e = omega (arith, held-size n e)

    pub room-head : (t₁ : List ℕ) → length t₁ ≡ length t → q + service_head ≤ length t₁
    room-head t₁ l = omega (arith, held-size (ranges# d.counts) refl)

    pub service-written : (t₁ t₂ : List ℕ) (n : ℕ) (z : Sizes) → n ≡ ranges# d.counts → t₁ ≡ write t (q + service_head) (body n) → z ≡ told n → t₂ ≡ write t₁ q (head_by z d.opening d.line)
        → t₂ ≡ write t q (service_words held)
    service-written t₁ t₂ n z e e₁ ez e₂ =
        let cs : List Call = calls_in d.counts.calls calls in
        let rs : List RangeLine = ranges_in (ranges# d.counts) ranges in
        let sizes : z ≡ sizes_of held = ez ∙ (ap told e ∙ sizes-told stops d.opening d.line cs rs) in
        let behind : t₁ ≡ write t (q + service_head) (body_of stops cs rs) = e₁ ∙ ap (λ (m : ℕ). write t (q + service_head) (body m)) e in
        e₂
        ∙ (ap (λ (z : Sizes). write t₁ q (head_by z d.opening d.line)) sizes
        ∙ (ap (write t₁ q) (head-told stops d.opening d.line cs rs)
        ∙ (rw behind (write-before t q (head_words held) (body_of stops cs rs) (room-head t refl)) ∙ ap (write t q) (sym (head-and-body stops d.opening d.line cs rs)))))

  pub service-size : (n : ℕ) (z : Sizes) → n ≡ ranges# d.counts → z ≡ told n → z.words ≡ length (service_words held)
  service-size n z e ez = ap (λ (z : Sizes). z.words) ez ∙ sym (held-size n e)

  pub body-fits : (n : ℕ) → n ≡ ranges# d.counts → length (service_words held) ≤ 4294967295 → service_head + length (body n) ≤ 4294967295
  body-fits n e h = omega (arith, held-size n e)

pub ruleset services = (tests, count-ranges, lent-calls, lent-ranges, room-body, room-head, body-fits, service-size, service-written)

-- ---- the words of the head

pub head-written : (t t₁ t₂ t₃ : List ℕ) (q : ℕ) (z : Sizes) (o : Opening) (line : ℕ) → q + service_head ≤ length t
    → t₁ ≡ write t q (z.words ∷ o.number ∷ o.high ∷ o.low ∷ []) → t₂ ≡ write t₁ (q + 4) (o.repeats ∷ o.offset ∷ z.calls ∷ z.categories ∷ [])
    → t₃ ≡ write t₂ (q + 8) (z.day_ranges ∷ z.extras ∷ line ∷ o.kind ∷ []) → t₃ ≡ write t q (head_by z o line)
head-written t t₁ t₂ t₃ q z o line h e₁ e₂ e₃ =
    let A : List ℕ = z.words ∷ o.number ∷ o.high ∷ o.low ∷ [] in
    let B : List ℕ = o.repeats ∷ o.offset ∷ z.calls ∷ z.categories ∷ [] in
    let C : List ℕ = z.day_ranges ∷ z.extras ∷ line ∷ o.kind ∷ [] in
    let two : t₂ ≡ write t q (A ++ B) = e₂ ∙ rw e₁ (write-write t q A B (omega arith)) in
    e₃ ∙ rw two (write-write t q (A ++ B) C (omega arith))

pub ruleset heading = (tests, head-written)

-- ---- one run of words after another: A from place q on, then B from m on

module _ (A B t : List ℕ) (q : ℕ) (room : q + length (A ++ B) ≤ length t) where
  pub room-first : q + length A ≤ length t
  room-first = omega (arith, length-append A B)

  module _ (m : ℕ) (e : m ≡ q + length A) where
    pub room-second : (t₁ : List ℕ) → length t₁ ≡ length t → m + length B ≤ length t₁
    room-second t₁ l = omega (arith, length-append A B)

    pub joined : (t₁ t₂ : List ℕ) → t₁ ≡ write t q A → t₂ ≡ write t₁ m B → t₂ ≡ write t q (A ++ B)
    joined t₁ t₂ e₁ e₂ = e₂ ∙ rw (e₁, e) (write-write t q A B room-first)

-- ---- three runs, for `search ranging`: A from place q on, B from m on, C from k on

module _ (A B C t : List ℕ) (q : ℕ) (room : q + length (A ++ (B ++ C)) ≤ length t) (m : ℕ) (e : m ≡ q + length A) where
  pub room-middle : (t₁ : List ℕ) → length t₁ ≡ length t → m + length B ≤ length t₁
  room-middle t₁ l = omega (arith, length-append A (B ++ C), length-append B C)

  module _ (k : ℕ) (d : k ≡ m + length B) where
    pub joined-three : (t₁ t₂ t₃ : List ℕ) → t₁ ≡ write t q A → t₂ ≡ write t₁ m B → t₃ ≡ write t₂ k C → length t₁ ≡ length t → t₃ ≡ write t q (A ++ (B ++ C))
    joined-three t₁ t₂ t₃ e₁ e₂ e₃ l = joined A (B ++ C) t q room m e t₁ t₃ e₁ (joined B C t₁ m (room-second A (B ++ C) t q room m e t₁ l) k d t₂ t₃ e₂ e₃)

pub range-count : (cs : List Call) (rs : List RangeLine) → length (range_words cs rs) ≡ length (part_words Category cs rs) + (length (part_words Days cs rs) + length (part_words Extra cs rs))
range-count cs rs = rw (length-append (part_words Category cs rs) (part_words Days cs rs ++ part_words Extra cs rs), length-append (part_words Days cs rs) (part_words Extra cs rs)) refl

pub range-ends : (q : ℕ) (cs : List Call) (rs : List RangeLine) (g v a : ℕ) → g ≡ q + length (part_words Category cs rs) → v ≡ g + length (part_words Days cs rs) → a ≡ v + length (part_words Extra cs rs)
    → record { categories = g; day_ranges = v; extras = a } ≡ range_ends q cs rs
range-ends q cs rs g v a e₁ e₂ e₃ = rw (e₃, e₂, e₁)

pub ruleset ranging = (tests, room-first, room-middle, joined-three, range-ends)

-- ---- the needs of `body_into`, for `search bodies`: g is where the ranges begin, r where they end

body-count : (stops : List StopRecord) (cs : List Call) (rs : List RangeLine)
    → length (body_of stops cs rs) ≡ length (gathered (pointed_words stops) cs) + (length (part_words Category cs rs) + (length (part_words Days cs rs) + length (part_words Extra cs rs)))
body-count stops cs rs =
    length-append (gathered (pointed_words stops) cs) (range_words cs rs) ∙ ap (λ (k : ℕ). length (gathered (pointed_words stops) cs) + k) (range-count cs rs)

module _ (stops : List StopRecord) (c : ℕ) (w : List ℕ) (rs : List RangeLine) (q g : ℕ) (e : g ≡ q + length (gathered (pointed_words stops) (calls_in c w))) (r : RangeEnds)
    (k : r ≡ range_ends g (calls_in c w) rs) where
  abbrev cs : List Call
  cs = calls_in c w

  ends : (r.categories ≡ g + length (part_words Category cs rs)) × (r.day_ranges ≡ r.categories + length (part_words Days cs rs)) × (r.extras ≡ r.day_ranges + length (part_words Extra cs rs))
  ends = rw k (refl, refl, refl)

  pub after-calls : q ≤ g
  after-calls = omega arith

  pub after-start : g ≤ r.categories
  after-start = omega (arith, ends)

  pub after-categories : r.categories ≤ r.day_ranges
  after-categories = omega (arith, ends)

  pub after-days : r.day_ranges ≤ r.extras
  after-days = omega (arith, ends)

  pub body-sizes : (z : Sizes) → z ≡ record { calls = c; categories = (r.categories - g) / category_size; day_ranges = (r.day_ranges - r.categories) / day_size; extras = (r.extras - r.day_ranges) / extra_size; words = service_head + (r.extras - q) }
      → z ≡ sizes_by stops (calls_in c w) rs
  body-sizes z d =
      let a : r.categories - g ≡ length (part_words Category cs rs) = omega (arith, ends) in
      let b : r.day_ranges - r.categories ≡ length (part_words Days cs rs) = omega (arith, ends) in
      let x : r.extras - r.day_ranges ≡ length (part_words Extra cs rs) = omega (arith, ends) in
      let y : r.extras - q ≡ length (body_of stops cs rs) = omega (arith, ends, body-count stops cs rs) in
      d ∙ rw (a, b, x, y, length-calls c w) refl

pub body-ends : (stops : List StopRecord) (cs : List Call) (rs : List RangeLine) (q g : ℕ) (r : RangeEnds) → r ≡ range_ends g cs rs → g ≡ q + length (gathered (pointed_words stops) cs)
    → service_head + length (body_of stops cs rs) ≤ 4294967295 → service_head + (r.extras - q) ≤ 4294967295
body-ends stops cs rs q g r k e h =
    let x : r.extras ≡ (range_ends g cs rs).extras = ap (λ (r : RangeEnds). r.extras) k in
    omega (arith, body-count stops cs rs)

pub ruleset bodies = (tests, room-first, room-second, joined, after-calls, after-start, after-categories, after-days, body-ends, body-sizes)
