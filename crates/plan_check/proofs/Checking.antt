-- The services of FPLAN checked one after the other: what is left to be checked answers what the whole answers. Assumes nothing.
use mathlib.Core.Path.{◌≡◌, refl, sym, ap, ◌∙◌}
use mathlib.Core.List.{List, ◌∷◌}
use mathlib.Core.Option.{Option, none, some}
use Prim.Native.Nat.{ℕ, ◌+◌, ◌-◌, ◌^◌, ◌≤◌, ◌<◌}
use native.Mathlib.Nat.{add-zero}
use native.Mathlib.Omega.{arith}
use lib.ListN.{length}
use Rattle.base.specs.Lists.{gathered}
use Rattle.base.proofs.Laws.{tests, len-trans}
use Rattle.lines.specs.Lines.{Line, lines_of, lines_at, cut_at}
use Rattle.timetable.specs.Delivery.{BitField, StopRecord, CategoryClass}
use Rattle.timetable.specs.Offences.{◌<|>◌, checked_by}
use Rattle.timetable.specs.Service.{blocks}
use Rattle.timetable.specs.Checks.{head_first, service_first, services_first, plan_first}
use Rattle.timetable.specs.declared.Offence.{Offence}
use Rattle.reading.specs.Inner.Reading.{service_lines_at, Boundary, HeadClear, HeadAs}
use Rattle.reading.specs.Inner.Services.{ServiceTaken, block_words}
use Rattle.std.specs.Prelude.{Result, Ok, Err}
use Rattle.reading.specs.declared.Taken.{Taken}
use Rattle.reading.proofs.Heads.{after, service-here, services-none}
use Rattle.reading.proofs.Sizes.{words-fit, count_fits}
use Rattle.reading.proofs.Services.{next-boundary, next-less, next-count, head_clear, head-next}
use Rattle.service.specs.Inner.Answers.{CheckedAs}

-- ---- the loop of `check_services`, for `search checking`: c is what was said of the service at place `at`

module _ (fields : List BitField) (stops : List StopRecord) (classes : List CategoryClass) (days : ℕ) where
  first-cons : (b : List Line) (bs : List (List Line)) → services_first fields stops classes days (b ∷ bs) ≡ (service_first fields stops classes days b <|> services_first fields stops classes days bs)
  unfolding services_first
  first-cons b bs = refl

  module _ (f : List ℕ) (at n : ℕ) (c : Result Taken Offence) (k : CheckedAs fields stops classes days f at n c) where
    -- its offence comes before those of later services
    pub refused-here : (o : Offence) (x : Option Offence) (a b : ℕ) → c ≡ Err o → Boundary f at n → at < length f → services_first fields stops classes days (blocks (lines_at f at n)) ≡ x
        → Err o ≡ checked_by x a b
    unfolding ◌<|>◌
    refused-here o x a b e s h v =
        let q : service_first fields stops classes days (service_lines_at f at n) ≡ some o = rw e at k in
        let p : services_first fields stops classes days (blocks (lines_at f at n)) ≡ some o
        = ap (services_first fields stops classes days) (service-here f at n s h) ∙ (first-cons (service_lines_at f at n) (blocks (after f (cut_at f at n))) ∙ rw q refl) in
        rw (sym v ∙ p) refl

    module _ (t : Taken) (e : c ≡ Ok t) where
      fine : (service_first fields stops classes days (service_lines_at f at n) ≡ none) × ServiceTaken f at n t.words t.end t.no
      fine = rw e at k

      pub took-boundary : Boundary f t.end t.no
      took-boundary = next-boundary f at n t.words t.end t.no fine.1

      pub took-less : at < length f → length f - t.end < length f - at
      took-less h = next-less f at n t.words t.end t.no fine.1 h

      pub clean-next : (x : Option Offence) → services_first fields stops classes days (blocks (lines_at f at n)) ≡ x → services_first fields stops classes days (blocks (lines_at f t.end t.no)) ≡ x
      unfolding ◌<|>◌
      clean-next x v = rw (fine.1.services, first-cons (service_lines_at f at n) (blocks (lines_at f t.end t.no)), fine.0) at v

      module _ (words all : ℕ) (v : words + length (block_words (blocks (lines_at f at n))) ≡ all) where
        pub words-next : words + t.words + length (block_words (blocks (lines_at f t.end t.no))) ≡ all
        words-next = next-count f at n t.words t.end t.no fine.1 words all v

        pub words_small : all < 2 ^ 32 → words + t.words < 2 ^ 32
        words_small h = omega (arith, words-next)

      module _ (count all : ℕ) (v : count + length (blocks (lines_at f at n)) ≡ all) where
        pub count_next : count + 1 + length (blocks (lines_at f t.end t.no)) ≡ all
        count_next = omega (arith, v, ap length fine.1.services)

        pub count_small : all < 2 ^ 32 → count + 1 < 2 ^ 32
        count_small h = omega (arith, count_next)

-- all services fit
module _ (f : List ℕ) (at n : ℕ) (s : Boundary f at n) where
  pub all_words : length (block_words (blocks (lines_at f at n))) < 2 ^ 32
  all_words = omega (arith, words-fit f at n s.short)

  pub all-services : length (blocks (lines_at f at n)) < 2 ^ 32
  all-services = omega (arith, count_fits f at n s.short)

pub all-checked : (fields : List BitField) (stops : List StopRecord) (classes : List CategoryClass) (days : ℕ) (f : List ℕ) (at n : ℕ) (o : Option Offence) (count words all-count all_words : ℕ) → length f ≤ at
    → count + length (blocks (lines_at f at n)) ≡ all-count → words + length (block_words (blocks (lines_at f at n))) ≡ all_words
    → services_first fields stops classes days (blocks (lines_at f at n)) ≡ o → Ok (count, words) ≡ checked_by o all-count all_words
unfolding block_words gathered services_first
all-checked fields stops classes days f at n o count words N W h p q v =
    let a : count ≡ N = sym (add-zero count) ∙ (rw (services-none f at n h) at p) in
    let b : words ≡ W = sym (add-zero words) ∙ (rw (services-none f at n h) at q) in
    let z : services_first fields stops classes days (blocks (lines_at f at n)) ≡ none = rw (services-none f at n h) refl in
    rw (sym v ∙ z, a, b) refl

pub ruleset checking = (tests, refused-here, took-boundary, took-less, clean-next, words-next, words_small, count_next, count_small, all_words, all-services, all-checked, len-trans)

-- ---- from the first line on, for `search planning`

module _ (fields : List BitField) (stops : List StopRecord) (classes : List CategoryClass) (days : ℕ) (f : List ℕ) (h : Result (ℕ × ℕ) Offence) where
  pub stray-first : (o : Offence) (a b : ℕ) → h ≡ Err o → HeadAs f h → Err o ≡ checked_by (plan_first fields stops classes days (lines_of f)) a b
  unfolding plan_first ◌<|>◌
  stray-first o a b e d =
      let q : head_first (lines_of f) ≡ some o = rw e at d in
      rw q refl

  pub then-services : (at n : ℕ) (r : Result (ℕ × ℕ) Offence) → h ≡ Ok (at, n) → HeadAs f h
      → r ≡ checked_by (services_first fields stops classes days (blocks (lines_at f at n))) (length (blocks (lines_at f at n))) (length (block_words (blocks (lines_at f at n))))
      → r ≡ checked_by (plan_first fields stops classes days (lines_of f)) (length (blocks (lines_of f))) (length (block_words (blocks (lines_of f))))
  unfolding plan_first ◌<|>◌
  then-services at n r e d k =
      let c : HeadClear f at n = head_clear f h at n e d in
      rw (c.clean, c.services) k

pub ruleset planning = (tests, head-next, stray-first, then-services)
