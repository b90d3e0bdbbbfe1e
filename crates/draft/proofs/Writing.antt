-- What a line says, written behind a draft. Assumes nothing.
use mathlib.Core.Path.{◌≡◌, refl, sym, ap, ◌∙◌}
use mathlib.Core.List.{List, [], ◌∷◌, ◌++◌, append-nil}
use mathlib.Core.Bool.{Bool, true, false, cond}
use mathlib.Core.Logic.{⊎_elim}
use denote.Enum.Declared.{tag_of}
use types.Run.{OneOf}
use Prim.Native.Nat.{ℕ, ◌+◌, ◌-◌, ◌*◌, ◌^◌, ◌≤◌, ◌<◌}
use native.Mathlib.Nat.{mul_comm}
use native.Mathlib.Omega.{arith}
use lib.ListN.{length, get_or, take, drop}
use lib.Seq.{get_or-take, get_or-drop}
use Rattle.base.proofs.Laws.{tests}
use Rattle.words.specs.Words.{write}
use Rattle.words.proofs.Laws.{length-write, write-write, drop-write, take-before}
use Rattle.fields.specs.declared.RouteIndex.{RouteIndex}
use Rattle.fields.specs.declared.StopNumber.{StopNumber}
use Rattle.fields.specs.declared.Appearance.{Appearance}
use Rattle.fields.specs.declared.RangeEnd.{RangeEnd}
use Rattle.fields.specs.declared.RangeEnd.TheVariants.{Outer, Index, Stop, NoEnd}
use Rattle.fields.specs.declared.Detail.{Detail}
use Rattle.fields.specs.declared.Detail.TheVariants.{Plain, Nth, Timed, NoDetail}
use Rattle.timetable.specs.Plan.{as_call, as_range, part_number}
use Rattle.timetable.specs.Service.{opened, announced, call_by, holding}
use Rattle.timetable.specs.Table.{rows_in}
use Rattle.timetable.proofs.Rows.{rows_last, rows-within}
use Rattle.timetable.specs.declared.Announced.{Announced}
use Rattle.timetable.specs.declared.Call.{Call}
use Rattle.timetable.specs.declared.CallLine.{CallLine}
use Rattle.timetable.specs.declared.Opening.{Opening}
use Rattle.timetable.specs.declared.End.{End}
use Rattle.timetable.specs.declared.RangeKind.{RangeKind}
use Rattle.timetable.specs.declared.RangeKind.TheVariants.{Category, Days, Extra}
use Rattle.timetable.specs.declared.RangeLine.{RangeLine}
use Rattle.timetable.specs.declared.Told.{Told}
use Rattle.timetable.specs.declared.Told.TheVariants.{Skip, Other, Broken, Opens, Ranges, Calls}
use Rattle.timetable.specs.contracts.Told.{the_type}
use Rattle.draft.specs.Inner.Draft.{draft_call, draft_range, calls_lent, ranges_lent, most_ranges, call_draft, place_tag, place_value, detail_tag, detail_value, end_draft, range_draft, call_back, place_back, detail_back, part_back, range_back, calls_on, ranges_on, on_line, last_of, calls_after, count_calls, count_part, count_ranges, counted, ranges#, Within}
use Rattle.draft.specs.declared.Counts.{Counts}
use Rattle.draft.specs.declared.Code.{Code}

-- ---- a call and a range written are read back

pub call-back : (x : ℕ × Call) (r : List ℕ) → call_back (call_draft x ++ r) ≡ x
call-back x r = refl

place-back : (e : RangeEnd) → place_back (place_tag e) (place_value e) ≡ e
place-back Outer = refl
place-back (Index k) = refl
place-back (Stop n) = refl
place-back NoEnd = refl

detail-back : (d : Detail) → detail_back (detail_tag d) (detail_value d) ≡ d
detail-back Plain = refl
detail-back (Nth k) = refl
detail-back (Timed m) = refl
detail-back NoDetail = refl

part-back : (p : RangeKind) → part_back (part_number p) ≡ p
part-back Category = refl
part-back Days = refl
part-back Extra = refl

pub range-back : (x : ℕ × RangeLine) (r : List ℕ) → range_back (range_draft x ++ r) ≡ x
range-back x r =
    rw (
      part-back x.1.part,
      place-back x.1.ends.from.place,
      detail-back x.1.ends.from.detail,
      place-back x.1.ends.to.place,
      detail-back x.1.ends.to.detail,
    ) refl

-- each is read from its own words
word-own : (w : List ℕ) (k i : ℕ) → i < k → get_or (take k w) i 0 ≡ get_or w i 0
word-own w k i h = get_or-take k w i 0 h

call-own : (w : List ℕ) (k : ℕ) → draft_call ≤ k → call_back (take k w) ≡ call_back w
call-own w k h =
    rw (
      word-own w k 0 (omega arith),
      word-own w k 1 (omega arith),
      word-own w k 2 (omega arith),
      word-own w k 3 (omega arith),
      word-own w k 4 (omega arith),
      word-own w k 5 (omega arith),
      word-own w k 6 (omega arith),
      word-own w k 7 (omega arith),
    ) refl

range-own : (w : List ℕ) (k : ℕ) → draft_range ≤ k → range_back (take k w) ≡ range_back w
range-own w k h =
    rw (
      word-own w k 0 (omega arith),
      word-own w k 1 (omega arith),
      word-own w k 2 (omega arith),
      word-own w k 3 (omega arith),
      word-own w k 4 (omega arith),
      word-own w k 5 (omega arith),
      word-own w k 6 (omega arith),
      word-own w k 7 (omega arith),
      word-own w k 8 (omega arith),
      word-own w k 9 (omega arith),
      word-own w k 10 (omega arith),
      word-own w k 11 (omega arith),
    ) refl

-- ---- a row written behind n rows is one more

module _ {X : Type 0} (f : List ℕ → X) (d : X → List ℕ) (size : ℕ)
    (own : (w : List ℕ) (k : ℕ) → size ≤ k → f (take k w) ≡ f w) (back : (x : X) (r : List ℕ) → f (d x ++ r) ≡ x) where
  row_more : (n : ℕ) (w : List ℕ) (x : X) → size * n ≤ length w → rows_in f size (n + 1) (write w (size * n) (d x)) ≡ rows_in f size n w ++ (x ∷ [])
  row_more n w x h =
      let e : n * size ≡ size * n = mul_comm n size in
      let w' : List ℕ = write w (size * n) (d x) in
      let same : rows_in f size n w' ≡ rows_in f size n w
      = sym (rows-within f size own n (size * n) w' (omega (arith, e)))
      ∙ (ap (rows_in f size n) (take-before w (size * n) (d x) h (size * n) (omega arith))
      ∙ rows-within f size own n (size * n) w (omega (arith, e))) in
      let last : f (drop (n * size) w') ≡ x = rw e (ap f (drop-write w (size * n) (d x) h) ∙ back x (drop (size * n + length (d x)) w)) in
      rows_last f size n w' ∙ rw (same, last) refl

calls-more : (n : ℕ) (w : List ℕ) (x : ℕ × Call) → draft_call * n ≤ length w → calls_on (n + 1) (write w (draft_call * n) (call_draft x)) ≡ calls_on n w ++ (x ∷ [])
calls-more = row_more call_back call_draft draft_call call-own call-back

ranges_more : (n : ℕ) (w : List ℕ) (x : ℕ × RangeLine) → draft_range * n ≤ length w → ranges_on (n + 1) (write w (draft_range * n) (range_draft x)) ≡ ranges_on n w ++ (x ∷ [])
ranges_more = row_more range_back range_draft draft_range range-own range-back

-- ---- counts

calls-kept : (k : Counts) (rs : List RangeLine) → (count_ranges k rs).calls ≡ k.calls
calls-kept k [] = refl
calls-kept k (r ∷ rs) = go r.part
  where
    go : (p : RangeKind) → (count_part k p).calls ≡ k.calls
    go Category = refl
    go Days = refl
    go Extra = refl

ranges-kept : (k : Counts) (cs : List CallLine) → ranges# (count_calls k cs) ≡ ranges# k
ranges-kept k [] = refl
ranges-kept k (c ∷ cs) = refl

part-counts : (k : Counts) (p : RangeKind) → ranges# (count_part k p) ≡ ranges# k + 1
part-counts k Category = omega arith
part-counts k Days = omega arith
part-counts k Extra = omega arith

-- ---- the needs of the codes, of `put_call`, `put_range` and `put_end`, for `search written`

abbrev place_code : RangeEnd → Code
place_code e = record { tag = place_tag e; value = place_value e }

abbrev detail_code : Detail → Code
detail_code d = record { tag = detail_tag d; value = detail_value d }

module _ (e : RangeEnd) where
  pub code-outer : e ≡ Outer → record { tag = 0; value = 0 } ≡ place_code e
  code-outer q = rw q refl

  pub code-index : (k : RouteIndex) → e ≡ Index k → record { tag = 1; value = k.0 } ≡ place_code e
  code-index k q = rw q refl

  pub code-stop : (n : StopNumber) → e ≡ Stop n → record { tag = 2; value = n.0 } ≡ place_code e
  code-stop n q = rw q refl

  pub code-no-end : e ≡ NoEnd → record { tag = 3; value = 0 } ≡ place_code e
  code-no-end q = rw q refl

module _ (d : Detail) where
  pub code-plain : d ≡ Plain → record { tag = 0; value = 0 } ≡ detail_code d
  code-plain q = rw q refl

  pub code-nth : (k : Appearance) → d ≡ Nth k → record { tag = 1; value = k.0 } ≡ detail_code d
  code-nth k q = rw q refl

  pub code-timed : (m : ℕ) → d ≡ Timed m → record { tag = 2; value = m } ≡ detail_code d
  code-timed m q = rw q refl

  pub code-no-detail : d ≡ NoDetail → record { tag = 3; value = 0 } ≡ detail_code d
  code-no-detail q = rw q refl

pub ruleset codes = (tests, code-outer, code-index, code-stop, code-no-end, code-plain, code-nth, code-timed, code-no-detail)

pub codes-put : (t t' : List ℕ) (at : ℕ) (e : End) (p d : Code)
    → p ≡ record { tag = place_tag e.place; value = place_value e.place } → d ≡ record { tag = detail_tag e.detail; value = detail_value e.detail }
    → t' ≡ write t at (p.tag ∷ p.value ∷ d.tag ∷ d.value ∷ []) → t' ≡ write t at (end_draft e)
codes-put t t' at e p d a b v = rw (a, b) at v

module _ (t t' : List ℕ) (at : ℕ) (c : Call) (h : at + draft_call ≤ length t) (e : t' ≡ write t at (c.stop ∷ c.arrival ∷ c.departure ∷ c.flags ∷ [])) where
  abbrev four : List ℕ
  four = c.stop ∷ c.arrival ∷ c.departure ∷ c.flags ∷ []

  pub call-halves : at + 4 + 4 ≤ length t'
  call-halves = rw (e, length-write t at four (omega arith)) (omega arith)

  pub call-put : (t'' : List ℕ) (line : ℕ) → t'' ≡ write t' (at + 4) (c.number ∷ c.high ∷ c.low ∷ line ∷ []) → t'' ≡ write t at (call_draft (line, c))
  call-put t'' line f = f ∙ rw e (write-write t at four (c.number ∷ c.high ∷ c.low ∷ line ∷ []) (omega arith))

pub range-put : (t a b c : List ℕ) (at line p : ℕ) (r : RangeLine) → at + draft_range ≤ length t
    → p ≡ part_number r.part
    → a ≡ write t at (line ∷ p ∷ r.name ∷ r.field ∷ []) → b ≡ write a (at + 4) (end_draft r.ends.from) → c ≡ write b (at + 8) (end_draft r.ends.to)
    → c ≡ write t at (range_draft (line, r))
range-put t a b c at line p r h q x y z =
    let four : List ℕ = line ∷ p ∷ r.name ∷ r.field ∷ [] in
    let from : List ℕ = end_draft r.ends.from in
    let two : b ≡ write t at (four ++ from) = y ∙ rw x (write-write t at four from (omega arith)) in
    let three : c ≡ write t at ((four ++ from) ++ end_draft r.ends.to) = z ∙ rw two (write-write t at (four ++ from) (end_draft r.ends.to) (omega arith)) in
    rw q at three

pub ruleset written = (tests, codes-put, call-halves, call-put, range-put)

-- ---- the needs of `announced_last`, `call_by` and `or_before`, for `search holds`

last-behind : (a : Announced) (cs : List (ℕ × Call)) (c : ℕ × Call) → last_of a (cs ++ (c ∷ [])) ≡ announced c.1
unfolding last_of
last-behind a [] c = refl
last-behind a (b ∷ cs) c = last-behind (announced b.1) cs c

module _ (o : Opening) (c : ℕ) (w : List ℕ) where
  pub last_none : c ≡ 0 → record { number = o.number; high = o.high; low = o.low } ≡ last_of (opened o) (calls_on c w)
  unfolding last_of rows_in
  last_none e = rw e refl

  pub last_some : (c ≡ 0 → ⊥)
      → record { number = get_or w (draft_call * (c - 1) + 4) 0; high = get_or w (draft_call * (c - 1) + 5) 0; low = get_or w (draft_call * (c - 1) + 6) 0 } ≡ last_of (opened o) (calls_on c w)
  last_some n =
      let m : ℕ = c - 1 in
      let p : draft_call * m ≡ m * draft_call = mul_comm draft_call m in
      let s : m + 1 ≡ c = omega arith in
      let e : calls_on c w ≡ calls_on m w ++ (call_back (drop (m * draft_call) w) ∷ []) = rw s at (rows_last call_back draft_call m w) in
      rw (e, last-behind (opened o) (calls_on m w) (call_back (drop (m * draft_call) w)), p, get_or-drop (m * draft_call) w 4 0, get_or-drop (m * draft_call) w 5 0, get_or-drop (m * draft_call) w 6 0) refl

pub ruleset holds = (tests, last_none, last_some)

-- ---- the needs of `draft_call`, `draft_range` and `count_part`, for `search drafted`

module _ (k : Counts) (c : CallLine) where
  pub call-room : (n : ℕ) → Within (count_calls k (c ∷ [])) → calls_lent ≤ n → draft_call * k.calls + draft_call ≤ n
  call-room n w h = omega (arith, w.calls)

  pub call_fits : Within (count_calls k (c ∷ [])) → k.calls + 1 < 2 ^ 32
  call_fits w = omega (arith, w.calls)

  pub calls-behind : (n : ℕ) → Within (count_calls k (c ∷ [])) → calls_lent ≤ n → draft_call * k.calls ≤ n
  calls-behind n w h = omega (arith, call-room n w h)

  -- a held before, x is the call
  pub call-drafted : (o : Opening) (line : ℕ) (w w' : List ℕ) (a : Announced) (x : Call) → Within (count_calls k (c ∷ [])) → calls_lent ≤ length w
      → a ≡ last_of (opened o) (calls_on k.calls w) → x ≡ call_by a c → w' ≡ write w (draft_call * k.calls) (call_draft (line, x))
      → calls_on (k.calls + 1) w' ≡ calls_after o (calls_on k.calls w) line (c ∷ [])
  unfolding on_line calls_after holding
  call-drafted o line w w' a x h l p q v = rw (v, ← p, ← q) (calls-more k.calls w (line, x) (omega (arith, call-room (length w) h l)))

module _ (k : Counts) (r : RangeLine) where
  within-part : (p : RangeKind) → Within (count_part k p) → ranges# k + 1 ≤ most_ranges
  within-part Category w = omega (arith, w.categories, w.days, w.extras)
  within-part Days w = omega (arith, w.categories, w.days, w.extras)
  within-part Extra w = omega (arith, w.categories, w.days, w.extras)

  pub range-room : (c n : ℕ) → c ≡ ranges# k → Within (count_ranges k (r ∷ [])) → ranges_lent ≤ n → draft_range * c + draft_range ≤ n
  range-room c n e w h = omega (arith, e, within-part r.part w)

  pub range-fits : Within (count_ranges k (r ∷ [])) → ranges# k ≤ most_ranges
  range-fits w = omega (arith, within-part r.part w)

  pub range-drafted : (k' : Counts) (line c : ℕ) (w w' : List ℕ) → k' ≡ count_part k r.part → c ≡ ranges# k → Within (count_ranges k (r ∷ [])) → ranges_lent ≤ length w → w' ≡ write w (draft_range * c) (range_draft (line, r))
      → ranges_on (ranges# k') w' ≡ ranges_on (ranges# k) w ++ on_line line (r ∷ [])
  unfolding on_line
  range-drafted k' line c w w' d n h l v = rw (d, part-counts k r.part, v, n) (ranges_more (ranges# k) w (line, r) (omega (arith, range-room (ranges# k) (length w) refl h l)))

pub category-fits : (k : Counts) (p : RangeKind) → p ≡ Category → Within (count_part k p) → k.categories + 1 < 2 ^ 32
category-fits k p e w = let v : Within (count_part k Category) = rw e at w in omega (arith, v.categories)

pub days-fit : (k : Counts) (p : RangeKind) → p ≡ Days → Within (count_part k p) → k.days + 1 < 2 ^ 32
days-fit k p e w = let v : Within (count_part k Days) = rw e at w in omega (arith, v.days)

pub extra-fits : (k : Counts) (p : RangeKind) → p ≡ Extra → Within (count_part k p) → k.extras + 1 < 2 ^ 32
extra-fits k p e w = let v : Within (count_part k Extra) = rw e at w in omega (arith, v.extras)

module _ (k : Counts) (p : RangeKind) where
  pub category-counted : p ≡ Category → record { calls = k.calls; categories = k.categories + 1; days = k.days; extras = k.extras } ≡ count_part k p
  category-counted e = rw e refl

  pub days-counted : p ≡ Days → record { calls = k.calls; categories = k.categories; days = k.days + 1; extras = k.extras } ≡ count_part k p
  days-counted e = rw e refl

  pub extra-counted : p ≡ Extra → record { calls = k.calls; categories = k.categories; days = k.days; extras = k.extras + 1 } ≡ count_part k p
  extra-counted e = rw e refl

pub ruleset parts = (tests, category-fits, days-fit, extra-fits, category-counted, days-counted, extra-counted)

pub ruleset call-drafts = (tests, call-room, calls-behind, call_fits, call-drafted)

pub ruleset range-drafts = (tests, range-room, range-fits, range-drafted)

-- ---- a line that says t, for `search line-drafts`: k counts before it

no_call : (t : Told) → OneOf (0 ∷ 1 ∷ 2 ∷ 3 ∷ 4 ∷ []) (tag_of the_type t) → as_call t ≡ []
no_call Skip e = refl
no_call Other e = refl
no_call (Broken c) e = refl
no_call (Opens o) e = refl
no_call (Ranges r) e = refl
no_call (Calls c) e = absurd (⊎_elim (λ w. omega arith) (⊎_elim (λ w. omega arith) (⊎_elim (λ w. omega arith) (⊎_elim (λ w. omega arith) (λ w. omega arith)))) e)

no-range : (t : Told) → OneOf (0 ∷ 1 ∷ 2 ∷ 3 ∷ 5 ∷ []) (tag_of the_type t) → as_range t ≡ []
no-range Skip e = refl
no-range Other e = refl
no-range (Broken c) e = refl
no-range (Opens o) e = refl
no-range (Ranges r) e = absurd (⊎_elim (λ w. omega arith) (⊎_elim (λ w. omega arith) (⊎_elim (λ w. omega arith) (⊎_elim (λ w. omega arith) (λ w. omega arith)))) e)
no-range (Calls c) e = refl

module _ (k : Counts) (t : Told) where
  -- neither a call nor a range
  module _ (c : as_call t ≡ []) (r : as_range t ≡ []) where
    pub none-counted : k ≡ counted k t
    none-counted = rw (c, r) refl

    pub none-called : (o : Opening) (line : ℕ) (w : List ℕ) → calls_on k.calls w ≡ calls_after o (calls_on k.calls w) line (as_call t)
    unfolding on_line calls_after holding
    none-called o line w = rw (c, append-nil) refl

    pub none-ranged : (line : ℕ) (w : List ℕ) → ranges_on (ranges# k) w ≡ ranges_on (ranges# k) w ++ on_line line (as_range t)
    unfolding on_line
    none-ranged line w = rw (r, append-nil) refl

  -- a call
  module _ (c : CallLine) (e : t ≡ Calls c) where
    pub call-within : Within (counted k t) → Within (count_calls k (c ∷ []))
    call-within w = rw e at w

    pub call-counted : (r : Counts) → r ≡ count_calls k (c ∷ []) → r ≡ counted k t
    call-counted r d = rw e d

    pub call-called : (o : Opening) (line n : ℕ) (w w' : List ℕ) → calls_on n w' ≡ calls_after o (calls_on k.calls w) line (c ∷ []) → calls_on n w' ≡ calls_after o (calls_on k.calls w) line (as_call t)
    call-called o line n w w' v = rw e v

    pub call-ranged : (r : Counts) (line : ℕ) (w : List ℕ) → r ≡ count_calls k (c ∷ []) → ranges_on (ranges# r) w ≡ ranges_on (ranges# k) w ++ on_line line (as_range t)
    unfolding on_line
    call-ranged r line w d = rw (e, d, append-nil) refl

  -- a range
  module _ (x : RangeLine) (e : t ≡ Ranges x) where
    pub range-within : Within (counted k t) → Within (count_ranges k (x ∷ []))
    range-within w = rw e at w

    pub range-counted : (r : Counts) → r ≡ count_ranges k (x ∷ []) → r ≡ counted k t
    range-counted r d = rw e d

    pub range-called : (r : Counts) (o : Opening) (line : ℕ) (w : List ℕ) → r ≡ count_ranges k (x ∷ []) → calls_on r.calls w ≡ calls_after o (calls_on k.calls w) line (as_call t)
    unfolding on_line calls_after holding
    range-called r o line w d = rw (e, d, calls-kept k (x ∷ []), append-nil) refl

    pub range-ranged : (r : Counts) (line : ℕ) (w w' : List ℕ) → ranges_on (ranges# r) w' ≡ ranges_on (ranges# k) w ++ on_line line (x ∷ []) → ranges_on (ranges# r) w' ≡ ranges_on (ranges# k) w ++ on_line line (as_range t)
    range-ranged r line w w' v = rw e v

-- t is neither, by its tag
module _ (k : Counts) (t : Told) (c : OneOf (0 ∷ 1 ∷ 2 ∷ 3 ∷ 4 ∷ []) (tag_of the_type t)) (r : OneOf (0 ∷ 1 ∷ 2 ∷ 3 ∷ 5 ∷ []) (tag_of the_type t)) where
  pub other-counted : k ≡ counted k t
  other-counted = none-counted k t (no_call t c) (no-range t r)

  pub other-called : (o : Opening) (line : ℕ) (w : List ℕ) → calls_on k.calls w ≡ calls_after o (calls_on k.calls w) line (as_call t)
  other-called = none-called k t (no_call t c) (no-range t r)

  pub other-ranged : (line : ℕ) (w : List ℕ) → ranges_on (ranges# k) w ≡ ranges_on (ranges# k) w ++ on_line line (as_range t)
  other-ranged = none-ranged k t (no_call t c) (no-range t r)

pub ruleset line-drafts = (tests, call-within, call-counted, call-called, call-ranged, range-within, range-counted, range-called, range-ranged)

pub ruleset other-drafts = (tests, other-counted, other-called, other-ranged)
