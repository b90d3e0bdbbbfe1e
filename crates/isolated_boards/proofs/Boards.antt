-- Boards go by runs, so that what holds of these in isolation holds of them. Assumes nothing.
use mathlib.Core.Path.{◌≡◌, refl, sym, ap, ◌∙◌}
use mathlib.Core.List.{List, [], ◌∷◌, ◌++◌, map}
use mathlib.Core.Bool.{Bool, cond}
use mathlib.Core.Option.{some}
use Prim.Native.Nat.{ℕ, ◌+◌, ◌≤◌, ◌<◌}
use lib.ListN.{length, drop, get_elem?, length-map}
use Rattle.std.specs.Prelude.{Result, Ok, Err}
use Rattle.base.specs.Lists.{gathered, below}
use Rattle.base.proofs.Laws.{apart}
use Rattle.calendar.specs.Calendar.{day_of}
use Rattle.timetable.specs.Delivery.{Files, Period, Service, Delivery}
use Rattle.timetable.specs.Files.{has_stop}
use Rattle.timetable.specs.Load.{delivered, loaded, written}
use Rattle.timetable.specs.Table.{table_words, services#}
use Rattle.timetable.specs.View.{View, view_of}
use Rattle.timetable.specs.Run.{Course, Run, RunFound, no_run, at_rest, a_run, run_of, course_on}
use Rattle.timetable.specs.Questions.{dated_by, date_of}
use Rattle.timetable.specs.declared.Call.{Call}
use Rattle.timetable.specs.declared.Loaded.TheVariants.{Accepted}
use Rattle.timetable.specs.declared.refusal.Refusal.{Refusal}
use Rattle.whole_runs.proofs.Accepted.{written_is, asked-accepted}
use Rattle.sort.specs.Rows.{sorted_rows}
use Rattle.board.specs.Board.{Departure, IsDeparture, Among, IsBoard, call_departures, leaves, place_departures, found_departures, service_departures, board_of}
use Rattle.board.specs.Question.{BoardFound, refused, board, board_on, board_in, board_asked}
use Rattle.isolation.specs.Edit.{Edited, place}
use Rattle.isolation.specs.Rename.{OneToOne, renamed}
use Rattle.isolation.proofs.Lines.{bare}
use Rattle.isolation.proofs.Days.{service_for}
use Rattle.isolation.proofs.Walks.{found_by, run_for, ViewsAlike, course-on, course-bare, run-alike}
use Rattle.isolation.proofs.Tables.{Alike, ServiceAlike, views-alike, found_alike}
use Rattle.isolation.proofs.Isolated.{same, swapped, same_place, deliveries-alike, service-alike}
use Rattle.isolation.proofs.Again.{extended, everywhere, renamed-extended, services-count}
use Rattle.isolation.proofs.Renamed.{again, services-again, renamed-loaded}
use Rattle.isolated_boards.specs.Boards.{IsolatedBoards, RenamedBoards}

gathered-by : {X Y : Type 0} (f g : X → List Y) → ((x : X) → f x ≡ g x) → (xs : List X) → gathered f xs ≡ gathered g xs
unfolding gathered
gathered-by f g e [] = refl
gathered-by f g e (x ∷ xs) = rw (e x, gathered-by f g e xs)

-- ---- a departure of a service that is the same, but for its opening line's number and its bit field numbers

abbrev with-service : (Service → Service) → Run → Run
with-service f x = record { service = f x.service; late = x.late; start = x.start; legs = x.legs }

module _ (σ : ℕ → ℕ) (v u : View) (h : ViewsAlike σ v u) where
  departs : (n k from to : ℕ) (x : Departure) → found_by bare (v.service x.service) ≡ found_by (service_for σ 0) (u.service x.service) → IsDeparture v n k from to x → IsDeparture u n k from to x
  departs n k from to x q d = go (run_of u x.service x.repeat k) refl (ap (run_for bare) (sym d.runs) ∙ run-alike σ v u h x.service q x.repeat k)
    where
      go : (a : RunFound) → run_of u x.service x.repeat k ≡ a → run_for bare (a_run d.run) ≡ run_for (service_for σ 0) a → IsDeparture u n k from to x
      go (no_run refusal) e p = apart (cc)
      go at_rest e p = apart (cc)
      go (a_run y) e p =
          let r : ◌≡◌ {A = Run} (with-service bare d.run) (with-service (service_for σ 0) y) = cc in
          let c : d.run.service.calls ≡ y.service.calls = ap (λ (z : Run). z.service.calls) r in
          let late : d.run.late ≡ y.late = ap (λ (z : Run). z.late) r in
          let start : d.run.start ≡ y.start = ap (λ (z : Run). z.start) r in
          let legs : d.run.legs ≡ y.legs = ap (λ (z : Run). z.legs) r in
          record {
            run = y;
            runs = e;
            from = rw (sym start) d.from;
            before = rw (sym start, sym legs) d.before;
            call = d.call;
            there = rw (sym c) d.there;
            stop = d.stop;
            boards = d.boards;
            time = rw (sym late) d.time;
            first = d.first;
            last = d.last;
          }

  -- ---- all departures of such a service, and of all services

  abbrev SameService : ℕ → Type 0
  SameService i = found_by bare (v.service i) ≡ found_by (service_for σ 0) (u.service i)

  place-by : (w : View) (n k from to i : ℕ) (s : Service) (c : Course) → course_on w s k ≡ c → (p : ℕ)
      → place_departures w n k from to i s p ≡ cond (leaves c p) (call_departures n from to i s.opening p (get_elem? s.calls p)) []
  place-by w n k from to i s c e p = ap (λ (c : Course). cond (leaves c p) (call_departures n from to i s.opening p (get_elem? s.calls p)) []) e

  found-departs : (n k from to i : ℕ) (a b : Result Service Refusal) → found_by bare a ≡ found_by (service_for σ 0) b → found_departures v n k from to i a ≡ found_departures u n k from to i b
  found-departs n k from to i (Err x) (Err y) q = refl
  found-departs n k from to i (Err x) (Ok z) q = apart (cc)
  found-departs n k from to i (Ok s) (Err y) q = apart (cc)
  found-departs n k from to i (Ok s) (Ok z) q =
      let x : bare s ≡ service_for σ 0 z = cc in
      gathered-by (place_departures v n k from to i s) (place_departures v n k from to i (bare s)) (λ p. place-by v n k from to i s (course_on v (bare s) k) (sym (course-bare σ v u h s k)) p) (below (length s.calls))
      ∙ (ap (λ (y : Service). gathered (place_departures v n k from to i y) (below (length y.calls))) x
      ∙ gathered-by (place_departures v n k from to i (service_for σ 0 z)) (place_departures u n k from to i z) (λ p. place-by v n k from to i (service_for σ 0 z) (course_on u z k) (course-on σ v u h 0 z k) p) (below (length z.calls)))

  service-departs : (n k from to i : ℕ) → SameService i → service_departures v n k from to i ≡ service_departures u n k from to i
  unfolding service_departures
  service-departs n k from to i q = found-departs n k from to i (v.service i) (u.service i) q

  board-alike : ((i : ℕ) → SameService i) → (services n k from to : ℕ) → board_of v services n k from to ≡ board_of u services n k from to
  unfolding board_of
  board-alike q services n k from to = ap sorted_rows (gathered-by (service_departures v n k from to) (service_departures u n k from to) (λ i. service-departs n k from to i (q i)) (below services))

  on_alike : ((i : ℕ) → SameService i) → ((n : ℕ) → v.stop n ≡ u.stop n) → (services : ℕ) (own : Bool) (n from to : ℕ) (on : Result ℕ Refusal) → board_on v services own n from to on ≡ board_on u services own n from to on
  on_alike q stop services own n from to (Err refusal) = refl
  on_alike q stop services own n from to (Ok k) = rw (stop n, board-alike q services n k from to)

  in-alike : ((i : ℕ) → SameService i) → ((n : ℕ) → v.stop n ≡ u.stop n) → (services : ℕ) (own : Bool) (n day month year from to : ℕ)
      → board_in v services own n day month year from to ≡ board_in u services own n day month year from to
  unfolding board_in
  in-alike q stop services own n day month year from to =
      ap (λ (d : Period). board_on v services own n from to (dated_by d (day_of day month year))) h.period ∙ on_alike q stop services own n from to (date_of u day month year)

-- ---- an edit

kept : (f g : Files) (e : Edited f g) (n k from to : ℕ) (before after : List Departure) → IsBoard (view_of (delivered f)) n k from to before → IsBoard (view_of (delivered g)) n k from to after
    → (x : Departure) → (x.service ≡ place e → ⊥) → Among x before → Among x after
kept f g e n k from to before after b a x other m =
    let d = deliveries-alike f g e in
    a.every x (departs same (view_of (delivered f)) (view_of (delivered g)) (views-alike same (delivered f) (delivered g) d) n k from to x
    (found_alike same (delivered f) (delivered g) d x.service (service-alike f g e x.service other)) (b.only x m))

pub isolated-boards : IsolatedBoards
isolated-boards f g e n k from to before after b a x other = (kept f g e n k from to before after b a x other, kept g f (swapped f g e) n k from to after before a b x (λ q. other (q ∙ same_place f g e)))

-- ---- a renaming

-- the header says how many services there are
counted : (f : Files) (t : List ℕ) (helper u : ℕ) → loaded f (length t) helper ≡ Accepted u → services# (written f t helper) ≡ length (delivered f).services
unfolding table_words
counted f t helper u a = ap services# (written_is f t helper u a)

pub renamed-boards : RenamedBoards
unfolding board_asked
renamed-boards σ o f t helper u a own n day month year from to =
    let ρ = extended σ in
    let g = everywhere σ o in
    let new = renamed (extended σ) f in
    let a' = ap (λ (x : Files). loaded x (length t) helper) (sym (renamed-extended σ o f)) ∙ (renamed-loaded σ o f (length t) helper ∙ a) in
    let d = again (extended σ) g f in
    let count : services# (written new t helper) ≡ services# (written f t helper) = counted new t helper u a' ∙ (services-count (extended σ) g f ∙ sym (counted f t helper u a)) in
    ap (λ (x : Files). board_asked (written x t helper) own n day month year from to) (renamed-extended σ o f)
    ∙ (asked-accepted refused (λ (v : View). board_in v (services# (written new t helper)) own n day month year from to) new t helper u a'
    ∙ (ap (λ (k : ℕ). board_in (view_of (delivered new)) k own n day month year from to) count
    ∙ (in-alike (extended σ) (view_of (delivered new)) (view_of (delivered f)) (views-alike (extended σ) (delivered new) (delivered f) d)
    (λ i. found_alike (extended σ) (delivered new) (delivered f) d i (services-again (extended σ) g f i)) (λ k. rw d.stops)
    (services# (written f t helper)) own n day month year from to
    ∙ sym (asked-accepted refused (λ (v : View). board_in v (services# (written f t helper)) own n day month year from to) f t helper u a))))
