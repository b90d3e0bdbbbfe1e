-- Two deliveries alike, but for bit field numbers and the lines that open services: what their tables answer. Assumes nothing.
use mathlib.Core.Path.{◌≡◌, refl, sym, ap, ◌∙◌}
use mathlib.Core.List.{List, [], ◌∷◌, map}
use Prim.Native.Nat.{ℕ, zero, suc}
use lib.ListN.{length, get_elem?}
use Rattle.std.specs.Prelude.{Result, Ok, Err}
use Rattle.calendar.specs.Calendar.{day_of}
use Rattle.timetable.specs.Delivery.{Files, Period, Service, Delivery}
use Rattle.timetable.specs.Load.{delivered, loaded, written}
use Rattle.timetable.specs.StopNames.{stop_name_in, stop_name_asked}
use Rattle.timetable.specs.View.{View, view_of, service_by, interchange_at_stop, class_for}
use Rattle.timetable.specs.Questions.{dated_by, date_of, day_by, day_in, day_asked, interchange_in, interchange_asked, between_in, between_asked, Journey, journey, walk_of, walked_by, rows_by}
use Rattle.timetable.specs.declared.Loaded.TheVariants.{Accepted}
use Rattle.timetable.specs.declared.refusal.Refusal.{Refusal}
use Rattle.whole_runs.proofs.Accepted.{asked-accepted, walk-accepted, day-accepted}
use Rattle.isolation.specs.Alike.{WalksAlike, StopsAlike}
use Rattle.isolation.proofs.Lines.{bare}
use Rattle.isolation.proofs.Days.{service_for, Knows}
use Rattle.isolation.proofs.Walks.{found_by, ViewsAlike, journey-alike}

-- what d knows of σ b is what e knows of b; all but the services is the same
pub record Alike (σ : ℕ → ℕ) (d e : Delivery) : Type 0 where
  pub period : d.period ≡ e.period
  pub fields : Knows σ d.fields e.fields
  pub stops : d.stops ≡ e.stops
  pub interchanges : d.interchanges ≡ e.interchanges
  pub classes : d.classes ≡ e.classes

-- the i-th service is the same, but for its opening line's number and its bit field numbers
abbrev pub ServiceAlike : (ℕ → ℕ) → Delivery → Delivery → ℕ → Type 0
ServiceAlike σ d e i = get_elem? (map bare d.services) i ≡ get_elem? (map (service_for σ 0) e.services) i

-- ---- by views

found_map : (f : Service → Service) (ss : List Service) (i : ℕ) → found_by f (service_by (get_elem? ss i)) ≡ service_by (get_elem? (map f ss) i)
found_map f [] i = refl
found_map f (s ∷ ss) zero = refl
found_map f (s ∷ ss) (suc i) = found_map f ss i

module _ (σ : ℕ → ℕ) (d e : Delivery) (h : Alike σ d e) where
  pub views-alike : ViewsAlike σ (view_of d) (view_of e)
  unfolding interchange_at_stop
  views-alike = record { period = h.period; known = h.fields.known; runs = h.fields.runs; times = λ stop. rw h.interchanges }

  pub found_alike : (i : ℕ) → ServiceAlike σ d e i → found_by bare ((view_of d).service i) ≡ found_by (service_for σ 0) ((view_of e).service i)
  found_alike i q = found_map bare d.services i ∙ (ap service_by q ∙ sym (found_map (service_for σ 0) e.services i))

  journey-same : (i : ℕ) → ServiceAlike σ d e i → (r day month year : ℕ) → journey (view_of d) i r day month year ≡ journey (view_of e) i r day month year
  journey-same i q = journey-alike σ (view_of d) (view_of e) views-alike i (found_alike i q)

  day-same : (day month year b : ℕ) → day_in (view_of d) day month year (σ b) ≡ day_in (view_of e) day month year b
  unfolding day_in
  day-same day month year b = ap (λ (p : Period). day_by (view_of d) (σ b) (dated_by p (day_of day month year))) h.period ∙ go (date_of (view_of e) day month year)
    where
      go : (on : Result ℕ Refusal) → day_by (view_of d) (σ b) on ≡ day_by (view_of e) b on
      go (Err refusal) = refl
      go (Ok k) = rw (h.fields.known b, h.fields.runs b k)

  interchange-same : (n a b : ℕ) → interchange_in (view_of d) n a b ≡ interchange_in (view_of e) n a b
  unfolding interchange_in interchange_at_stop
  interchange-same n a b = rw (h.stops, h.interchanges)

  between-same : (n a b : ℕ) → between_in (view_of d) n a b ≡ between_in (view_of e) n a b
  unfolding between_in interchange_at_stop class_for
  between-same n a b = rw (h.stops, h.interchanges, h.classes)

  name-same : (bahnhof : List ℕ) (stop language type : ℕ) → stop_name_in (view_of d) bahnhof stop language type ≡ stop_name_in (view_of e) bahnhof stop language type
  unfolding stop_name_in
  name-same bahnhof stop language type = rw h.stops

-- ---- the tables of two accepted deliveries

walks-by : (w v : List ℕ) (i : ℕ) → ((r day month year : ℕ) → walk_of w i r day month year ≡ walk_of v i r day month year) → WalksAlike w v i
walks-by w v i e = record {
  answers = λ r day month year room. ap (λ (j : Journey). walked_by j room) (e r day month year);
  rows = λ r day month year lent. ap (λ (j : Journey). rows_by j lent) (e r day month year);
}

module _ (σ : ℕ → ℕ) (f g : Files) (t t' : List ℕ) (helper helper' u u' : ℕ) (a : loaded f (length t) helper ≡ Accepted u) (a' : loaded g (length t') helper' ≡ Accepted u') (h : Alike σ (delivered f) (delivered g)) where
  pub walks-alike : (i : ℕ) → ServiceAlike σ (delivered f) (delivered g) i → WalksAlike (written f t helper) (written g t' helper') i
  walks-alike i q = walks-by (written f t helper) (written g t' helper') i
      (λ r day month year. walk-accepted f t helper u a i r day month year ∙ (journey-same σ (delivered f) (delivered g) h i q r day month year ∙ sym (walk-accepted g t' helper' u' a' i r day month year)))

  pub days-alike : (day month year b : ℕ) → day_asked (written f t helper) day month year (σ b) ≡ day_asked (written g t' helper') day month year b
  days-alike day month year b = day-accepted f t helper u a day month year (σ b) ∙ (day-same σ (delivered f) (delivered g) h day month year b ∙ sym (day-accepted g t' helper' u' a' day month year b))

  pub stops-alike : StopsAlike (written f t helper) (written g t' helper')
  unfolding interchange_asked between_asked stop_name_asked
  stops-alike = record {
    interchange = λ n a₁ b.
        asked-accepted Err (λ (v : View). interchange_in v n a₁ b) f t helper u a
        ∙ (interchange-same σ (delivered f) (delivered g) h n a₁ b ∙ sym (asked-accepted Err (λ (v : View). interchange_in v n a₁ b) g t' helper' u' a'));
    between = λ n a₁ b.
        asked-accepted Err (λ (v : View). between_in v n a₁ b) f t helper u a
        ∙ (between-same σ (delivered f) (delivered g) h n a₁ b ∙ sym (asked-accepted Err (λ (v : View). between_in v n a₁ b) g t' helper' u' a'));
    stop_name = λ bahnhof stop language type.
        asked-accepted Err (λ (v : View). stop_name_in v bahnhof stop language type) f t helper u a
        ∙ (name-same σ (delivered f) (delivered g) h bahnhof stop language type ∙ sym (asked-accepted Err (λ (v : View). stop_name_in v bahnhof stop language type) g t' helper' u' a'));
  }
