-- A draft and the lines that it holds: its service is theirs, and its checks are the service's. Assumes nothing.
use mathlib.Core.Path.{◌≡◌, refl, sym, ap, ◌∙◌, subst}
use mathlib.Core.List.{List, []}
use mathlib.Core.Option.{Option, none, some}
use Prim.Native.Nat.{ℕ}
use lib.ListN.{length}
use Rattle.base.proofs.Laws.{tests}
use Rattle.lines.specs.Lines.{Line}
use Rattle.timetable.specs.Delivery.{BitField, StopRecord, CategoryClass}
use Rattle.timetable.specs.Offences.{◌<|>◌, first}
use Rattle.timetable.specs.Service.{first_line, calls_of, service_of}
use Rattle.timetable.specs.Checks.{own_offence, service_checks, service_first}
use Rattle.timetable.specs.Table.{service_words}
use Rattle.timetable.specs.declared.Offence.{Offence}
use Rattle.timetable.specs.declared.RangeLine.{RangeLine}
use Rattle.timetable.specs.declared.RangeKind.TheVariants.{Category, Days, Extra}
use Rattle.draft.proofs.Drafts.{draft-calls, draft-ranges, draft-service}
use Rattle.draft.specs.Inner.Draft.{DraftOf, part_in}
use Rattle.draft.specs.declared.Counts.{Counts}
use Rattle.draft.specs.declared.Drafted.{Drafted}
use Rattle.reading.specs.Inner.Reading.{service_lines_at, ServiceRead, ReadAs}
use Rattle.std.specs.Prelude.{Result, Ok, Err}
use Rattle.reading.specs.declared.Taken.{Taken}
use Rattle.service.specs.Inner.Answers.{CheckedAs, Counted, service_in, draft_first, check_by}

-- ---- what the words lent hold is what the lines say

module _ {ls : List Line} {k : Counts} {calls ranges : List ℕ} (d : DraftOf ls k calls ranges) where
  counted : Counted k calls ranges
  counted = record {
    within = d.within;
    lent_calls = d.lent_calls;
    lent_ranges = d.lent_ranges;
    categories = ap (λ (rs : List RangeLine). length (part_in Category rs)) (draft-ranges ls k calls ranges d) ∙ ap (λ (k : Counts). k.categories) d.counts;
    days = ap (λ (rs : List RangeLine). length (part_in Days rs)) (draft-ranges ls k calls ranges d) ∙ ap (λ (k : Counts). k.days) d.counts;
    extras = ap (λ (rs : List RangeLine). length (part_in Extra rs)) (draft-ranges ls k calls ranges d) ∙ ap (λ (k : Counts). k.extras) d.counts;
  }

module _ {f : List ℕ} {at n : ℕ} {d : Drafted} {calls ranges : List ℕ} (r : ServiceRead f at n d calls ranges) where
  abbrev ls : List Line
  ls = service_lines_at f at n

  own_number : d.line ≡ (first_line ls).no
  own_number = r.line ∙ sym r.own_line

  service-is : service_in d calls ranges ≡ service_of ls
  service-is = rw (own_number, ← r.opening) (draft-service ls d.counts calls ranges r.draft)

  checks-are : (fields : List BitField) (days : ℕ) → draft_first fields days d calls ranges ≡ service_checks fields days ls
  unfolding service_checks
  checks-are fields days =
      let c : d.counts.calls ≡ length (calls_of ls) = sym (ap (λ (k : Counts). k.calls) r.draft.counts) in
      rw (service-is, r.draft.called, r.draft.ranged, draft-calls ls d.counts calls ranges r.draft, own_number, c) refl

  module _ (fields : List BitField) (stops : List StopRecord) (classes : List CategoryClass) (days : ℕ) (clean : first (own_offence fields stops classes) [] ls ≡ none) where
    checked : (o : Option Offence) → service_first fields stops classes days ls ≡ o → CheckedAs fields stops classes days f at n (check_by o (service_in d calls ranges) d)
    checked none e = (e, record { size = ap (λ s. length (service_words s)) service-is; services = r.services; past = r.past; next = r.next })
    checked (some o) e = e

    first-is : service_first fields stops classes days ls ≡ draft_first fields days d calls ranges
    unfolding service_first ◌<|>◌
    first-is = rw clean (sym (checks-are fields days))

-- ---- the needs of `check_service`, for `search serving`: x is what reading answered

module _ (fields : List BitField) (stops : List StopRecord) (classes : List CategoryClass) (f : List ℕ) (at n : ℕ) (calls ranges : List ℕ) (x : Result Drafted Offence) (e : ReadAs fields stops classes f at n x calls ranges) where
  pub read-refused : (days : ℕ) (o : Offence) → x ≡ Err o → CheckedAs fields stops classes days f at n (Err o)
  unfolding service_first ◌<|>◌
  read-refused days o y = rw (subst (λ (x : Result Drafted Offence). ReadAs fields stops classes f at n x calls ranges) y e) refl

  module _ (d : Drafted) (y : x ≡ Ok d) where
    as-service : ReadAs fields stops classes f at n (Ok d) calls ranges
    as-service = subst (λ (x : Result Drafted Offence). ReadAs fields stops classes f at n x calls ranges) y e

    pub read-counted : Counted d.counts calls ranges
    read-counted = counted as-service.1.draft

    pub read-checked : (days : ℕ) (r : Result Taken Offence) → r ≡ check_by (draft_first fields days d calls ranges) (service_in d calls ranges) d → CheckedAs fields stops classes days f at n r
    read-checked days r v =
        let s = as-service.1 in
        subst (CheckedAs fields stops classes days f at n) (sym v) (checked s fields stops classes days as-service.0 (draft_first fields days d calls ranges) (first-is s fields stops classes days as-service.0))

pub ruleset serving = (tests, read-refused, read-counted, read-checked)
