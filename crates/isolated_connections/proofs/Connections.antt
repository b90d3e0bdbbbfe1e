-- Connections go by runs, interchange times and classes, so that what holds of these in isolation holds of them. Assumes nothing.
use mathlib.Core.Path.{◌≡◌, refl, sym, ap, ◌∙◌}
use mathlib.Core.List.{List, [], ◌∷◌}
use mathlib.Core.Bool.{Bool, cond, ◌&&◌}
use mathlib.Core.Option.{Option, none, some}
use Prim.Native.Nat.{ℕ, ◌+◌}
use lib.ListN.{length}
use lib.Dec.{eqb, leb}
use Rattle.std.specs.Prelude.{Result, Ok, Err}
use Rattle.base.specs.Lists.{All, nil, cons}
use Rattle.calendar.specs.Calendar.{day_of}
use Rattle.timetable.specs.Delivery.{Files, Period, Service, Delivery}
use Rattle.timetable.specs.Load.{delivered, loaded, written}
use Rattle.timetable.specs.View.{View, view_of, class_for}
use Rattle.timetable.specs.Run.{RunFound, no_run, at_rest, a_run, run_of}
use Rattle.timetable.specs.Questions.{dated_by, date_of}
use Rattle.timetable.specs.declared.Call.{Call}
use Rattle.timetable.specs.declared.Loaded.TheVariants.{Accepted}
use Rattle.timetable.specs.declared.refusal.Refusal.{Refusal}
use Rattle.whole_runs.proofs.Accepted.{asked-accepted}
use Rattle.timetable.specs.declared.refusal.Refusal.TheVariants.{PartsNotWhole}
use Rattle.connections.specs.Connection.{Staged, ConnectionAnswer, bad_part, parts_of, whole_parts, row_call, stage_between, stage_by, stage_dated, stage_of, change_to, changed_to, onward, parts_after, parts_hold, connection_in, no_connection, connection_asked}
use Rattle.connections.specs.declared.Part.{Part}
use Rattle.connections.specs.declared.Stage.{Stage}
use Rattle.isolation.specs.Edit.{Edited, place}
use Rattle.isolation.specs.Rename.{OneToOne, renamed}
use Rattle.isolation.proofs.Lines.{bare}
use Rattle.isolation.proofs.Days.{service_for}
use Rattle.isolation.proofs.Walks.{found_by, run_for, ViewsAlike, run-alike}
use Rattle.isolation.proofs.Tables.{Alike, ServiceAlike, views-alike, found_alike}
use Rattle.isolation.proofs.Isolated.{same, deliveries-alike, service-alike}
use Rattle.isolation.proofs.Again.{extended, everywhere, renamed-extended}
use Rattle.isolation.proofs.Renamed.{again, services-again, renamed-loaded}
use Rattle.isolated_connections.specs.Connections.{Without, IsolatedConnections, RenamedConnections}

-- ---- a stage shows neither the number of the service's opening line nor that of a bit field

stage-bare : (k : ℕ) (p : Part) (x : RunFound) → stage_by k p (run_for bare x) ≡ stage_by k p x
stage-bare k p (no_run refusal) = refl
stage-bare k p at_rest = refl
stage-bare k p (a_run x) = between (row_call x p.board) (row_call x p.alight)
  where
    between : (b a : Option Call) → stage_between (bare x.service) x.late k p b a ≡ stage_between x.service x.late k p b a
    between none a = refl
    between (some b) none = refl
    between (some b) (some a) = refl

stage-for : (σ : ℕ → ℕ) (k : ℕ) (p : Part) (x : RunFound) → stage_by k p (run_for (service_for σ 0) x) ≡ stage_by k p x
stage-for σ k p (no_run refusal) = refl
stage-for σ k p at_rest = refl
stage-for σ k p (a_run x) = between (row_call x p.board) (row_call x p.alight)
  where
    between : (b a : Option Call) → stage_between (service_for σ 0 x.service) x.late k p b a ≡ stage_between x.service x.late k p b a
    between none a = refl
    between (some b) none = refl
    between (some b) (some a) = refl

-- ---- two views whose bit fields, times and classes are alike

module _ (σ : ℕ → ℕ) (v u : View) (h : ViewsAlike σ v u) (listed : (c : ℕ) → v.listed c ≡ u.listed c) (class : (c : ℕ) → v.class c ≡ u.class c) where
  abbrev SameService : ℕ → Type 0
  SameService i = found_by bare (v.service i) ≡ found_by (service_for σ 0) (u.service i)

  stage-dated : (p : Part) → SameService p.service → (on : Result ℕ Refusal) → stage_dated v p on ≡ stage_dated u p on
  stage-dated p q (Err refusal) = refl
  stage-dated p q (Ok k) =
      sym (stage-bare k p (run_of v p.service p.repeat k))
      ∙ (ap (stage_by k p) (run-alike σ v u h p.service q p.repeat k) ∙ stage-for σ k p (run_of u p.service p.repeat k))

  stage-alike : (p : Part) → SameService p.service → stage_of v p ≡ stage_of u p
  unfolding stage_of
  stage-alike p q = ap (λ (d : Period). stage_dated v p (dated_by d (day_of p.day p.month p.year))) h.period ∙ stage-dated p q (date_of u p.day p.month p.year)

  change-alike : (s t : Stage) → change_to v s t ≡ change_to u s t
  unfolding change_to
  change-alike s t = rw (h.times t.from, listed s.arriving, listed t.departing, class s.arriving, class t.departing)

  changed-alike : (s : Stage) (x : Staged) → changed_to v s x ≡ changed_to u s x
  changed-alike s (Err refusal) = refl
  changed-alike s (Ok t) = change-alike s t

  onward-alike : (n : ℕ) (x : Staged) (a b : Stage → ConnectionAnswer) → ((s : Stage) → a s ≡ b s) → onward n x a ≡ onward n x b
  onward-alike n (Err refusal) a b e = refl
  onward-alike n (Ok s) a b e = e s

  parts-alike : (s : Stage) (n : ℕ) (ps : List Part) → All (λ (p : Part). SameService p.service) ps → parts_after v s n ps ≡ parts_after u s n ps
  unfolding parts_after
  parts-alike s n [] nil = refl
  parts-alike s n (p ∷ ps) (cons q qs) =
      ap (λ (x : Staged). onward n x (λ (t : Stage). parts_after v t (n + 1) ps)) (ap (changed_to v s) (stage-alike p q) ∙ changed-alike s (stage_of u p))
      ∙ onward-alike n (changed_to u s (stage_of u p)) (λ (t : Stage). parts_after v t (n + 1) ps) (λ (t : Stage). parts_after u t (n + 1) ps) (λ t. parts-alike t (n + 1) ps qs)

  hold-alike : (ps : List Part) → All (λ (p : Part). SameService p.service) ps → parts_hold v ps ≡ parts_hold u ps
  hold-alike [] nil = refl
  hold-alike (p ∷ ps) (cons q qs) =
      ap (λ (x : Staged). onward 1 x (λ (t : Stage). parts_after v t 2 ps)) (stage-alike p q)
      ∙ onward-alike 1 (stage_of u p) (λ (t : Stage). parts_after v t 2 ps) (λ (t : Stage). parts_after u t 2 ps) (λ t. parts-alike t 2 ps qs)

  connection-alike : (ws : List ℕ) → All (λ (p : Part). SameService p.service) (parts_of ws) → connection_in v ws ≡ connection_in u ws
  unfolding connection_in
  connection-alike ws q = ap (λ (a : ConnectionAnswer). cond (whole_parts (length ws)) a (bad_part PartsNotWhole 0)) (hold-alike (parts_of ws) q)

-- ---- of deliveries, and of their tables

all-to : {X : Type 0} (P Q : X → Type 0) → ((x : X) → P x → Q x) → (xs : List X) → All P xs → All Q xs
all-to P Q e [] nil = nil
all-to P Q e (x ∷ xs) (cons h hs) = cons (e x h) (all-to P Q e xs hs)

every-part : {X : Type 0} (Q : X → Type 0) → ((x : X) → Q x) → (xs : List X) → All Q xs
every-part Q e [] = nil
every-part Q e (x ∷ xs) = cons (e x) (every-part Q e xs)

module _ (σ : ℕ → ℕ) (d e : Delivery) (h : Alike σ d e) where
  delivered-alike : (ws : List ℕ) → All (λ (p : Part). ServiceAlike σ d e p.service) (parts_of ws) → connection_in (view_of d) ws ≡ connection_in (view_of e) ws
  unfolding class_for
  delivered-alike ws q =
      connection-alike σ (view_of d) (view_of e) (views-alike σ d e h) (λ c. rw h.classes) (λ c. rw h.classes) ws
      (all-to (λ (p : Part). ServiceAlike σ d e p.service) (λ (p : Part). found_by bare ((view_of d).service p.service) ≡ found_by (service_for σ 0) ((view_of e).service p.service))
      (λ p. found_alike σ d e h p.service) (parts_of ws) q)

  tables-alike : (f g : Files) → delivered f ≡ d → delivered g ≡ e → (t t' : List ℕ) (helper helper' u u' : ℕ) → loaded f (length t) helper ≡ Accepted u → loaded g (length t') helper' ≡ Accepted u'
      → (ws : List ℕ) → All (λ (p : Part). ServiceAlike σ d e p.service) (parts_of ws) → connection_asked (written f t helper) ws ≡ connection_asked (written g t' helper') ws
  unfolding connection_asked
  tables-alike f g x y t t' helper helper' u u' a a' ws q =
      asked-accepted no_connection (λ (v : View). connection_in v ws) f t helper u a
      ∙ (ap (λ (z : Delivery). connection_in (view_of z) ws) x ∙ (delivered-alike ws q ∙ (sym (ap (λ (z : Delivery). connection_in (view_of z) ws) y)
      ∙ sym (asked-accepted no_connection (λ (v : View). connection_in v ws) g t' helper' u' a'))))

pub isolated-connections : IsolatedConnections
isolated-connections f g e t t' helper helper' u u' a a' ws q =
    tables-alike same (delivered f) (delivered g) (deliveries-alike f g e) f g refl refl t t' helper helper' u u' a a' ws
    (all-to (λ (p : Part). p.service ≡ place e → ⊥) (λ (p : Part). ServiceAlike same (delivered f) (delivered g) p.service) (λ p. service-alike f g e p.service) (parts_of ws) q)

pub renamed-connections : RenamedConnections
renamed-connections σ o f t helper u a ws =
    let ρ = extended σ in
    let g = everywhere σ o in
    let new : delivered (renamed σ f) ≡ delivered (renamed (extended σ) f) = ap delivered (renamed-extended σ o f) in
    tables-alike (extended σ) (delivered (renamed (extended σ) f)) (delivered f) (again (extended σ) g f) (renamed σ f) f new refl t t helper helper u u (renamed-loaded σ o f (length t) helper ∙ a) a ws
    (every-part (λ (p : Part). ServiceAlike (extended σ) (delivered (renamed (extended σ) f)) (delivered f) p.service) (λ p. services-again (extended σ) g f p.service) (parts_of ws))
