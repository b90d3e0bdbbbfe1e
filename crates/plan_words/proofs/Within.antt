-- Of a file without an offence: nothing stands before the first service, and none of them has more calls or ranges than it may, nor a line with a broken
-- form. Assumes nothing.
use mathlib.Core.Path.{◌≡◌, refl}
use mathlib.Core.List.{List, [], ◌∷◌}
use mathlib.Core.Bool.{true}
use mathlib.Core.Option.{none}
use Prim.Native.Nat.{ℕ}
use lib.Dec.{leb}
use borrow.Author.Tests.{le-leb, leb-true}
use Rattle.base.specs.Lists.{every}
use Rattle.base.proofs.Loops.{and-true}
use Rattle.lines.specs.Lines.{Line}
use Rattle.timetable.specs.Layout.{most_calls, most_categories, most_days, most_extras}
use Rattle.timetable.specs.Delivery.{BitField, StopRecord, CategoryClass}
use Rattle.timetable.specs.Service.{blocks}
use Rattle.timetable.specs.Checks.{head_first, service_first, services_first, plan_first}
use Rattle.timetable.proofs.Offences.{then-none}
use Rattle.draft.specs.Inner.Draft.{counts_of, Within}
use Rattle.draft.specs.declared.Counts.{Counts}
use Rattle.reading.specs.Inner.Reading.{Sound}
use Rattle.reading.proofs.Checking.{own-sound}
use Rattle.plan_words.specs.Inner.Services.{counts_within, all_sound}

-- ---- the test and what it says

module _ (k : Counts) where
  pub within-holds : Within k → counts_within k ≡ true
  within-holds h = rw (le-leb k.calls most_calls h.calls, le-leb k.categories most_categories h.categories, le-leb k.days most_days h.days, le-leb k.extras most_extras h.extras) refl

  pub within-says : counts_within k ≡ true → Within k
  within-says e =
      let a = and-true (leb k.calls most_calls) _ e in
      let b = and-true (leb k.categories most_categories) _ a.1 in
      let c = and-true (leb k.days most_days) _ b.1 in
      record {
        calls = leb-true k.calls most_calls a.0;
        categories = leb-true k.categories most_categories b.0;
        days = leb-true k.days most_days c.0;
        extras = leb-true k.extras most_extras c.1;
      }

-- ---- all services

module _ (fields : List BitField) (stops : List StopRecord) (classes : List CategoryClass) (n : ℕ) where
  all-sound : (bs : List (List Line)) → services_first fields stops classes n bs ≡ none → all_sound bs ≡ true
  unfolding services_first service_first all_sound every
  all-sound [] e = refl
  all-sound (b ∷ bs) e =
      let o = then-none (service_first fields stops classes n b) (services_first fields stops classes n bs) e in
      let s : Sound b = own-sound fields stops classes b (then-none _ _ o.0).0 in
      rw (within-holds (counts_of b) s.within, s.formed) (all-sound bs o.1)

  module _ (ls : List Line) (e : plan_first fields stops classes n ls ≡ none) where
    pub head-none : head_first ls ≡ none
    unfolding plan_first
    head-none = (then-none (head_first ls) _ e).0

    pub plan-sound : all_sound (blocks ls) ≡ true
    unfolding plan_first
    plan-sound = all-sound (blocks ls) (then-none (head_first ls) _ e).1
