-- Bit field numbers changed one-to-one: document 02, No. 14, its second half, proved; specs/Rename.antt says what is changed. Assumes nothing.
use mathlib.Core.Path.{◌≡◌, refl, sym, ap, ◌∙◌, subst}
use mathlib.Core.List.{List}
use Prim.Native.Nat.{ℕ}
use lib.ListN.{length, get_elem?}
use Rattle.timetable.specs.Delivery.{Files, Service}
use Rattle.timetable.specs.Load.{delivered, loaded, written}
use Rattle.timetable.specs.Questions.{day_asked}
use Rattle.timetable.specs.declared.Loaded.TheVariants.{Accepted}
use Rattle.isolation.specs.Rename.{OneToOne, renamed, AnswersAlike, Renaming}
use Rattle.isolation.proofs.Tables.{Alike, ServiceAlike, walks-alike, days-alike, stops-alike}
use Rattle.isolation.proofs.Changed.{Everywhere}
use Rattle.isolation.proofs.Again.{extended, inside, everywhere, renamed-extended, loaded-same, knows-now, bare-now}

-- ---- for a change that is one-to-one on all numbers

module _ (σ : ℕ → ℕ) (g : Everywhere σ) (f : Files) where
  pub again : Alike σ (delivered (renamed σ f)) (delivered f)
  unfolding delivered renamed
  again = record { period = refl; fields = knows-now σ g f; stops = refl; interchanges = refl; classes = refl }

  pub services-again : (i : ℕ) → ServiceAlike σ (delivered (renamed σ f)) (delivered f) i
  services-again i = ap (λ (ss : List Service). get_elem? ss i) (bare-now σ g f)

-- ---- for one that is one-to-one on numbers of six digits

module _ (σ : ℕ → ℕ) (o : OneToOne σ) (f : Files) where
  -- "it is again accepted, given the same table and helper room": load answers the same, refusals as well
  pub renamed-loaded : (room helper : ℕ) → loaded (renamed σ f) room helper ≡ loaded f room helper
  renamed-loaded room helper = ap (λ (h : Files). loaded h room helper) (renamed-extended σ o f) ∙ loaded-same (extended σ) (everywhere σ o) f room helper

  module _ (t t' : List ℕ) (helper helper' u u' : ℕ) (a : loaded f (length t) helper ≡ Accepted u) (a' : loaded (renamed σ f) (length t') helper' ≡ Accepted u') where
    abbrev ρ : ℕ → ℕ
    ρ = extended σ

    abbrev new : Files
    new = renamed ρ f

    accepted-new : loaded new (length t') helper' ≡ Accepted u'
    accepted-new = ap (λ (h : Files). loaded h (length t') helper') (sym (renamed-extended σ o f)) ∙ a'

    answers-new : AnswersAlike σ (written f t helper) (written new t' helper')
    answers-new =
        let g = everywhere σ o in
        let h = again ρ g f in
        record {
          walks = λ i. walks-alike ρ new f t' t helper' helper u' u accepted-new a h i (services-again ρ g f i);
          days = λ day month year m l. ap (day_asked (written new t' helper') day month year) (sym (inside σ o m l)) ∙ days-alike ρ new f t' t helper' helper u' u accepted-new a h day month year m;
          stops = stops-alike ρ new f t' t helper' helper u' u accepted-new a h;
        }

    -- "and all walks answer alike", wherever the two tables are
    pub renamed-alike : AnswersAlike σ (written f t helper) (written (renamed σ f) t' helper')
    renamed-alike = subst (λ (h : Files). AnswersAlike σ (written f t helper) (written h t' helper')) (sym (renamed-extended σ o f)) answers-new

-- "if one delivery's bit field numbers are changed one-to-one, in BITFELD and in every place of FPLAN, with 000000 kept, it is again accepted, given the same
-- table and helper room, and all walks answer alike. The day question by number is exempt."
pub renamed-again : Renaming
renamed-again σ o f t helper u a =
    let a' = renamed-loaded σ o f (length t) helper ∙ a in
    (a', renamed-alike σ o f t t helper helper u u a a')
