-- Of an accepted delivery no run's walk is refused (demand 3), so its boards are complete (`accepted-complete`): each run that a service of its own text has rests on the
-- date, or each of its departures from the stop within the two times is on the board that `ask_board` lists. Assumes nothing.
use mathlib.Core.Path.{◌≡◌, refl, ap, ◌∙◌}
use mathlib.Core.List.{List, []}
use mathlib.Core.Bool.{Bool, true, false}
use mathlib.Core.Option.{Option, none, some}
use Prim.Native.Nat.{ℕ, ◌+◌, ◌-◌, ◌≤◌, ◌<◌}
use native.Mathlib.Omega.{arith}
use lib.ListN.{length, get_elem?}
use lib.Seq.{get_or-take}
use borrow.Author.Tests.{le-leb, lt-ltb}
use Rattle.std.specs.Prelude.{Result, Ok, Err}
use Rattle.base.proofs.Laws.{clash}
use Rattle.calendar.specs.Calendar.{day_of}
use Rattle.std.specs.Prelude.{Some}
use Rattle.timetable.specs.Delivery.{Files, Service}
use Rattle.timetable.specs.Load.{loaded, written, delivered}
use Rattle.timetable.specs.Runs.{has_run}
use Rattle.timetable.specs.Table.{used_words, services#, used, table_of, is_table}
use Rattle.timetable.specs.View.{service_by, view_of}
use Rattle.timetable.specs.Run.{no_run, run_of}
use Rattle.timetable.specs.Questions.{date_of, dated_run, refused, rows_along, journey, walk_of}
use Rattle.timetable.specs.declared.Loaded.TheVariants.{Accepted}
use Rattle.timetable.specs.declared.refusal.Refusal.{Refusal}
use Rattle.table.proofs.Says.{table-says}
use Rattle.table.proofs.JustTable.{used-just, used-same}
use Rattle.index.specs.Index.{view_in}
use Rattle.index.proofs.Agrees.{view-plain}
use Rattle.whole_runs.proofs.Accepted.{table_is, table-holds}
use Rattle.whole_runs.proofs.Demand3.{demand3}
use Rattle.board.proofs.Meaning.{Served}
use Rattle.board.proofs.Complete.{Told, complete}
use Rattle.board_agrees.proofs.Table.{served-shown}

-- a table shows its services
pub table-served : (w : List ℕ) → is_table w ≡ true → Served (view_of (table_of w)) (services# w)
table-served w t =
    let e : view_in (used w) [] ≡ view_of (table_of w) = view-plain (used w) [] (used-just w t) refl ∙ ap view_of (used-same w t) in
    let s : services# (used w) ≡ services# w = get_or-take (used_words w) w 6 0 (omega (arith, (table-says w t).used_low)) in
    rw (e, s) at (served-shown (used w) [])

is_service : Result Service Refusal → Bool
is_service (Err refusal) = false
is_service (Ok s) = true

service_or : Service → Result Service Refusal → Service
service_or d (Err refusal) = d
service_or d (Ok s) = s

found_some : (o : Option Service) (s : Service) → service_by o ≡ Ok s → o ≡ some s
unfolding is_service service_or
found_some none s e = clash (ap is_service e)
found_some (some x) s e = ap some (ap (service_or s) e)

module _ (f : Files) (t : List ℕ) (helper u : ℕ) (e : loaded f (length t) helper ≡ Accepted u) where
  abbrev w : List ℕ
  w = written f t helper

  module _ (d m y day : ℕ) (q : day_of d m y ≡ Some day) (from : (delivered f).period.start ≤ day) (until : day < (delivered f).period.start + (delivered f).period.n) where
    abbrev k : ℕ
    k = day - (delivered f).period.start

    on_day : date_of (view_of (delivered f)) d m y ≡ Ok (day - (delivered f).period.start)
    on_day = rw (q, le-leb (delivered f).period.start day from, lt-ltb day ((delivered f).period.start + (delivered f).period.n) until)

    walk_is : (i r : ℕ) (refusal : Refusal) → run_of (view_of (delivered f)) i r (day - (delivered f).period.start) ≡ no_run refusal → walk_of (written f t helper) i r d m y ≡ refused refusal
    unfolding walk_of journey
    walk_is i r refusal g =
        rw (table_is f t helper u e, table-holds f t helper u e)
        (ap (λ (x : Result ℕ Refusal). rows_along (view_of (delivered f)) (dated_run (view_of (delivered f)) i r x)) on_day ∙ ap (rows_along (view_of (delivered f))) g)

    never : (i r : ℕ) (s : Service) → (view_of (delivered f)).service i ≡ Ok s → has_run s.opening r ≡ true → (refusal : Refusal) → run_of (view_of (delivered f)) i r (day - (delivered f).period.start) ≡ no_run refusal → ⊥
    never i r s g h refusal b =
        (demand3 f t helper u e i r d m y day s (record { service = found_some (get_elem? (delivered f).services i) s g; repeat = h; date = q; from = from; until = until })).never_refused refusal (walk_is i r refusal b)

    served : Served (view_of (delivered f)) (services# (written f t helper))
    served =
        let z = table-served (written f t helper) (table_is f t helper u e) in
        rw (table-holds f t helper u e) at z

    pub accepted-complete : (n first last i r : ℕ) (s : Service) → get_elem? (delivered f).services i ≡ some s → has_run s.opening r ≡ true
        → Told (view_of (delivered f)) n (day - (delivered f).period.start) first last (services# (written f t helper)) i r
    accepted-complete n first last i r s g h = complete (view_of (delivered f)) n (day - (delivered f).period.start) first last (services# (written f t helper)) served never i r s (ap service_by g) h
