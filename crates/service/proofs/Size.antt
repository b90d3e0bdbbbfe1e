-- A drafted service whose ranges' ends are all found: it has the ranges that are counted, and takes so many words. Assumes nothing.
use mathlib.Core.Path.{◌≡◌, refl, sym, ◌∙◌}
use mathlib.Core.List.{List, [], ◌∷◌, ◌++◌}
use mathlib.Core.Bool.{Bool, true, false, cond}
use mathlib.Core.Option.{Option, none, some}
use Prim.Native.Nat.{ℕ, zero, suc}
use native.Mathlib.Omega.{arith}
use lib.ListN.{length, drop, length-append}
use Rattle.base.specs.Lists.{gathered}
use Rattle.base.proofs.Laws.{clash}
use Rattle.timetable.specs.Layout.{record_size}
use Rattle.timetable.specs.Delivery.{Legs}
use Rattle.timetable.specs.Offences.{given}
use Rattle.timetable.specs.Plan.{is_part}
use Rattle.timetable.specs.Service.{with_legs, legs_on}
use Rattle.timetable.specs.Checks.{is_none, ends_first}
use Rattle.timetable.specs.Table.{rows_in, service_words}
use Rattle.timetable.specs.declared.Call.{Call}
use Rattle.timetable.specs.declared.RangeKind.{RangeKind}
use Rattle.timetable.specs.declared.RangeKind.TheVariants.{Category, Days, Extra}
use Rattle.timetable.specs.declared.RangeLine.{RangeLine}
use Rattle.timetable.proofs.Offences.{then-none, given-none}
use Rattle.timetable.proofs.Records.{service-length}
use Rattle.timetable.proofs.Rows.{length-rows}
use Rattle.draft.specs.Inner.Draft.{call_back, line_back, range_back, draft_call, draft_range, calls_in, ranges_on, ranges_in, ranges#, part_in, drafted_service}
use Rattle.draft.specs.declared.Drafted.{Drafted}
use Rattle.service.specs.Inner.Answers.{Counted, service_in}

-- the ends of every range are found: 16 has no offence
abbrev pub EndsFound : Drafted → List ℕ → List ℕ → Type 0
EndsFound d calls ranges = ends_first (calls_in d.counts.calls calls) (ranges_on (ranges# d.counts) ranges) ≡ none

-- ---- each range whose ends are found is one of the service's

module _ (cs : List Call) where
  module _ {X : Type 0} (made : RangeLine → Legs → X) (p : RangeKind) where
    one-made : (r : RangeLine) (o : Option Legs) → is_none o ≡ false → length (with_legs (made r) o) ≡ 1
    one-made r none e = clash (sym e)
    one-made r (some g) e = refl

    abbrev made_of : RangeLine → List X
    made_of r = with_legs (made r) (legs_on cs r)

    all_made : (n : ℕ) (w : List ℕ) → ends_first cs (ranges_on n w) ≡ none → length (gathered made_of (part_in p (ranges_in n w))) ≡ length (part_in p (ranges_in n w))
    unfolding rows_in ends_first gathered
    all_made zero w e = refl
    all_made (suc n) w e =
        let r : RangeLine = line_back w in
        let t : (given (is_none (legs_on cs r)) 16 (range_back w).0 ≡ none) × (ends_first cs (ranges_on n (drop draft_range w)) ≡ none) =
        then-none (given (is_none (legs_on cs r)) 16 (range_back w).0) (ends_first cs (ranges_on n (drop draft_range w))) e in
        go r (is_part p r) (given-none (is_none (legs_on cs r)) 16 (range_back w).0 t.0) (part_in p (ranges_in n (drop draft_range w))) (all_made n (drop draft_range w) t.1)
      where
        go : (r : RangeLine) (b : Bool) → is_none (legs_on cs r) ≡ false → (rs : List RangeLine) → length (gathered made_of rs) ≡ length rs
            → length (gathered made_of (cond b (r ∷ []) [] ++ rs)) ≡ length (cond b (r ∷ []) [] ++ rs)
        go r true h rs ih = omega (arith, length-append (made_of r) (gathered made_of rs), one-made r (legs_on cs r) h, ih)
        go r false h rs ih = ih

-- ---- so it has as many of them as are counted

module _ (d : Drafted) (calls ranges : List ℕ) (h : Counted d.counts calls ranges) (f : EndsFound d calls ranges) where
  abbrev cs : List Call
  cs = calls_in d.counts.calls calls

  abbrev rs : List RangeLine
  rs = ranges_in (ranges# d.counts) ranges

  pub categories-are : length (service_in d calls ranges).categories ≡ d.counts.categories
  unfolding drafted_service
  categories-are = all_made cs (λ (r : RangeLine) (x : Legs). record { name = r.name; legs = x }) Category (ranges# d.counts) ranges f ∙ h.categories

  pub days-are : length (service_in d calls ranges).days ≡ d.counts.days
  unfolding drafted_service
  days-are = all_made cs (λ (r : RangeLine) (x : Legs). record { field = r.field; legs = x }) Days (ranges# d.counts) ranges f ∙ h.days

  extras-are : length (service_in d calls ranges).extras ≡ d.counts.extras
  unfolding drafted_service
  extras-are = all_made cs (λ (r : RangeLine) (x : Legs). record { code = r.name; field = r.field; legs = x }) Extra (ranges# d.counts) ranges f ∙ h.extras

  pub calls_are : length (service_in d calls ranges).calls ≡ d.counts.calls
  unfolding drafted_service
  calls_are = length-rows (λ (u : List ℕ). (call_back u).1) draft_call d.counts.calls calls

  pub size_is : length (service_words (service_in d calls ranges)) ≡ record_size d.counts.calls d.counts.categories d.counts.days d.counts.extras
  size_is = service-length (service_in d calls ranges) ∙ rw (calls_are, categories-are, days-are, extras-are) refl
