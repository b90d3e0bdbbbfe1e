-- "14, 15, 16 (each by line), 17, 18, 19": which answer each check leaves. Assumes nothing.
use mathlib.Core.Path.{◌≡◌, refl, sym, ◌∙◌}
use mathlib.Core.List.{List}
use mathlib.Core.Option.{none}
use Prim.Native.Nat.{ℕ, ◌≤◌, ◌<◌}
use borrow.Author.Tests.{lt-ltb, le-ltb}
use Rattle.base.proofs.Laws.{tests}
use Rattle.timetable.specs.Layout.{record_size}
use Rattle.timetable.specs.Delivery.{BitField}
use Rattle.timetable.specs.Offences.{◌<|>◌, offence_at, verdict_by}
use Rattle.timetable.specs.Checks.{times_first, ends_first, legs_first}
use Rattle.timetable.specs.declared.Offence.{Offence}
use Rattle.timetable.proofs.Offences.{then-none, verdict-fine, verdict-offends}
use Rattle.draft.specs.Inner.Draft.{calls_on, calls_in, ranges_on, ranges#}
use Rattle.draft.specs.declared.Drafted.{Drafted}
use Rattle.service.specs.Inner.Answers.{Counted, service_in, ranges_first, draft_first, check_by}
use Rattle.std.specs.Prelude.{Ok, Err, Result}
use Rattle.service.proofs.Size.{EndsFound, size_is}
use Rattle.service.proofs.Legs.{calls-room}

-- ---- 14, 15, and what is left, for `search drafting`: v and u are what the checks of times and of ranges answered

module _ (fields : List BitField) (days : ℕ) (d : Drafted) (calls ranges : List ℕ) where
  pub draft-short : (o : Offence) → d.counts.calls < 2 → o ≡ offence_at 14 d.line → Err o ≡ check_by (draft_first fields days d calls ranges) (service_in d calls ranges) d
  unfolding ◌<|>◌
  draft-short o h e = rw (lt-ltb d.counts.calls 2 h, e) refl

  module _ (two : 2 ≤ d.counts.calls) (v : Result (Unit {0}) Offence) (e : v ≡ verdict_by (times_first d.counts.calls 0 0 (calls_on d.counts.calls calls))) where
    pub draft-times : (o : Offence) → v ≡ Err o → Err o ≡ check_by (draft_first fields days d calls ranges) (service_in d calls ranges) d
    unfolding ◌<|>◌
    draft-times o y = rw (le-ltb d.counts.calls 2 two, verdict-offends (times_first d.counts.calls 0 0 (calls_on d.counts.calls calls)) v e o y) refl

    module _ (y : v ≡ Ok tt) (u : Result (Unit {0}) Offence) (f : u ≡ verdict_by (ranges_first fields days d calls ranges)) where
      pub draft-ranges : (o : Offence) → u ≡ Err o → Err o ≡ check_by (draft_first fields days d calls ranges) (service_in d calls ranges) d
      unfolding ◌<|>◌
      draft-ranges o z =
          rw (
            le-ltb d.counts.calls 2 two,
            verdict-fine (times_first d.counts.calls 0 0 (calls_on d.counts.calls calls)) v e y,
            verdict-offends (ranges_first fields days d calls ranges) u f o z,
          ) refl

      pub draft-takes : (z : ℕ) → Counted d.counts calls ranges → u ≡ Ok tt → z ≡ record_size d.counts.calls d.counts.categories d.counts.days d.counts.extras
          → Ok (record { words = z; end = d.end; no = d.no }) ≡ check_by (draft_first fields days d calls ranges) (service_in d calls ranges) d
      unfolding ◌<|>◌
      draft-takes z h x k =
          let none_of : ranges_first fields days d calls ranges ≡ none = verdict-fine (ranges_first fields days d calls ranges) u f x in
          let found : EndsFound d calls ranges = (then-none (ends_first (calls_in d.counts.calls calls) (ranges_on (ranges# d.counts) ranges)) (legs_first fields days d.line (service_in d calls ranges)) none_of).0 in
          rw (
            le-ltb d.counts.calls 2 two,
            verdict-fine (times_first d.counts.calls 0 0 (calls_on d.counts.calls calls)) v e y,
            none_of,
            k ∙ sym (size_is d calls ranges h found),
          ) refl

pub ruleset drafting = (tests, calls-room, draft-short, draft-times, draft-ranges, draft-takes)
