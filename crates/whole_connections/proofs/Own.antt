-- A part of an accepted delivery that is a stage boards and alights at rows of the delivery's own text: `stage-own`; so do the parts of a connection that
-- holds: `holds-own`. Assumes nothing.
use mathlib.Core.Path.{◌≡◌, refl, sym, ap, ◌∙◌, subst}
use mathlib.Core.List.{List, [], ◌∷◌}
use mathlib.Core.Bool.{Bool, true, false, cond, ◌&&◌}
use mathlib.Core.Option.{Option, none, some}
use Prim.Native.Nat.{ℕ, zero, suc, ◌+◌, ◌-◌, ◌<◌, ◌≤◌}
use native.Mathlib.Omega.{arith}
use lib.ListN.{length, get_or, get_elem?}
use lib.Dec.{ltb, leb}
use borrow.Author.Tests.{ltb-true, leb-true}
use Rattle.std.specs.Prelude.{Ok, Err, Some, None}
use Rattle.base.specs.Lists.{All, nil, cons, find, count_if}
use Rattle.base.proofs.Laws.{apart}
use Rattle.base.proofs.Loops.{and-true}
use Rattle.calendar.specs.Calendar.{day_of}
use Rattle.std.specs.Prelude.{Option as Optional, Some, None}
use Rattle.timetable.specs.Delivery.{Files, Period, CategoryRange, Service, Delivery}
use Rattle.timetable.specs.Legs.{covers}
use Rattle.timetable.specs.Load.{delivered, loaded, written}
use Rattle.timetable.specs.Runs.{has_run, lateness}
use Rattle.timetable.specs.View.{View, view_of, service_by}
use Rattle.timetable.specs.Run.{Course, runs_along, name_by, category_on, Run, RunFound, no_run, at_rest, a_run, run_along, run_by, run_of, service_course}
use Rattle.timetable.specs.Questions.{dated_by, date_of, Journey, refused, idle, rows, rows_along, dated_run, journey, walk_of}
use Rattle.timetable.specs.declared.Call.{Call}
use Rattle.timetable.specs.declared.Loaded.TheVariants.{Accepted}
use Rattle.timetable.specs.declared.refusal.Refusal.TheVariants.{OutsidePeriod}
use Rattle.whole_runs.specs.Rows.{row_word, flag, no_call, call_no, Row, Stretched, RunsNowhere}
use Rattle.whole_runs.specs.Promise.{Asked, Demand3, Outcome, not_running, runs, OwnRun}
use Rattle.whole_runs.specs.Classes.{OwnClass}
use Rattle.whole_runs.proofs.Accepted.{walk-accepted, asked-accepted}
use Rattle.whole_runs.proofs.Demand3.{demand3}
use Rattle.connections.specs.Connection.{moment, connection_in, no_connection, connection_asked}
use Rattle.connections.specs.Promise.{IsStage, Proposed}
use Rattle.connections.specs.declared.Part.{Part}
use Rattle.connections.specs.declared.Stage.{Stage}
use Rattle.connections.proofs.Accepts.{accepted-is}
use Rattle.whole_connections.specs.Promise.{OwnPart}
use Rattle.whole_connections.proofs.Course.{one-start, course-along}

-- ---- a date in the period

pub record OnDay (p : Period) (t : Optional ℕ) (k : ℕ) : Type 0 where
  pub day : ℕ
  pub is : t ≡ Some day
  pub from : p.start ≤ day
  pub until : day < p.start + p.n
  pub at : day - p.start ≡ k

pub date-on : (p : Period) (t : Optional ℕ) (k : ℕ) → dated_by p t ≡ Ok k → OnDay p t k
date-on p None k e = apart (cc)
date-on p (Some day) k e = go (leb p.start day && ltb day (p.start + p.n)) refl e
  where
    go : (t : Bool) → (leb p.start day && ltb day (p.start + p.n)) ≡ t → cond t (Ok (day - p.start)) (Err OutsidePeriod) ≡ Ok k → OnDay p (Some day) k
    go false q e = apart (cc)
    go true q e =
        let (a, b) = and-true (leb p.start day) (ltb day (p.start + p.n)) q in
        record { day = day; is = refl; from = leb-true p.start day a; until = ltb-true day (p.start + p.n) b; at = cc }

-- ---- the run of a service

pub record RunOf (d : Delivery) (i r k : ℕ) (x : Run) : Type 0 where
  pub there : get_elem? d.services i ≡ some x.service
  pub late : x.late ≡ lateness x.service.opening r
  pub course : service_course (view_of d) x.service r k ≡ runs_along x.start x.legs

pub run-says : (d : Delivery) (i r k : ℕ) (x : Run) → run_of (view_of d) i r k ≡ a_run x → RunOf d i r k x
unfolding run_of
run-says d i r k x = found (get_elem? d.services i) refl
  where
    along : (s : Service) → get_elem? d.services i ≡ some s → (c : Course) → service_course (view_of d) s r k ≡ c → run_along s (lateness s.opening r) c ≡ a_run x → RunOf d i r k x
    along s e (Err refusal) q h = apart (cc)
    along s e (Ok None) q h = apart (cc)
    along s e (Ok (Some y)) q h =
        let z : record { service = s; late = lateness s.opening r; start = y.start; legs = y.legs } ≡ x = cc in
        subst (RunOf d i r k) z (record { there = e; late = refl; course = q })

    found : (o : Option Service) → get_elem? d.services i ≡ o → run_by (view_of d) (service_by o) r k ≡ a_run x → RunOf d i r k x
    found none e h = apart (cc)
    found (some s) e h = along s e (service_course (view_of d) s r k) refl h

-- ---- what stands in lists

elem_at : {X : Type 0} (l : List X) (i : ℕ) (x z : X) → get_elem? l i ≡ some x → get_or l i z ≡ x
elem_at [] i x z e = apart (cc)
elem_at (y ∷ l) zero x z e = cc
elem_at (y ∷ l) (suc i) x z e = elem_at l i x z e

-- the one that passes a test is the one that is found
found-says : {X : Type 0} (p : X → Bool) (say : X → ℕ) (u : ℕ) (xs : List X) → count_if p xs ≡ 1 → All (λ x. p x ≡ true → u ≡ say x) xs → (y : X) × (find p xs ≡ some y) × (u ≡ say y)
unfolding count_if find
found-says p say u [] e g = absurd (omega arith)
found-says p say u (x ∷ xs) e (cons a g) = go (p x) refl e (λ e. found-says p say u xs e g)
  where
    go : (t : Bool) → p x ≡ t → cond t 1 0 + count_if p xs ≡ 1 → (count_if p xs ≡ 1 → (y : _) × (find p xs ≡ some y) × (u ≡ say y)) → (y : _) × (cond t (some x) (find p xs) ≡ some y) × (u ≡ say y)
    go true q e more = (x, refl, a q)
    go false q e more = more (omega (arith, e))

-- the category that a row shows
row-category : {d : Delivery} {s : Service} {delay n q leg : ℕ} {c : Call} {w : ℕ → ℕ} → Row d s delay n q leg c w → q < n → w 7 ≡ category_on s leg
row-category {s = s} {leg = leg} {w = w} x h =
    let (g, e, z) = found-says (λ (g : CategoryRange). covers leg g.legs) (λ (g : CategoryRange). g.name) (w 7) s.categories (x.one_category h) (x.category h) in
    z ∙ sym (ap name_by e)

-- ---- an accepted delivery

-- the rows of a walk that lists some
listed : {d : Delivery} {s : Service} {r k : ℕ} {j : Journey} → Outcome d s r k j → (ws : List ℕ) → j ≡ rows ws → Stretched d s r k ws
listed (not_running x) ws e = apart (cc)
listed {d} {s} {r} {k} (runs {ws = v} x) ws e = let z : v ≡ ws = cc in subst (Stretched d s r k) z x

module _ (f : Files) (t : List ℕ) (helper u : ℕ) (e : loaded f (length t) helper ≡ Accepted u) where
  abbrev w : List ℕ
  w = written f t helper

  abbrev d : Delivery
  d = delivered f

  -- what demand 3 is asked of a part
  pub part-asks : (p : Part) (k : ℕ) (s : Service) → date_of (view_of d) p.day p.month p.year ≡ Ok k → get_elem? d.services p.service ≡ some s → has_run s.opening p.repeat ≡ true
      → (day : ℕ) × Asked f p.service p.repeat p.day p.month p.year s day × (day - d.period.start ≡ k)
  part-asks p k s on there has =
      let o = date-on d.period (day_of p.day p.month p.year) k on in
      (o.day, record { service = there; repeat = has; date = o.is; from = o.from; until = o.until }, o.at)

  -- the walk of a part
  pub part-walks : (p : Part) (k : ℕ) (x : RunFound) → date_of (view_of d) p.day p.month p.year ≡ Ok k → run_of (view_of d) p.service p.repeat k ≡ x
      → walk_of w p.service p.repeat p.day p.month p.year ≡ rows_along (view_of d) x
  unfolding journey
  part-walks p k x on is = walk-accepted f t helper u e p.service p.repeat p.day p.month p.year ∙ rw (on, is)

  module _ (p : Part) (s : Stage) (i : IsStage (view_of d) p s) where
    run : RunOf d p.service p.repeat i.k i.run
    run = run-says d p.service p.repeat i.k i.run i.runs

    -- by the rows of its walk, which are along the same stretch
    module _ (day : ℕ) (at : day - d.period.start ≡ i.k) (ws : List ℕ) (x : Stretched d i.run.service p.repeat (day - d.period.start) ws) (own : OwnRun f p.service i.run.service (day - d.period.start)) where
      same : (x.start ≡ i.run.start) × (x.legs ≡ i.run.legs)
      same =
          one-start d i.run.service i.k x.start x.legs i.run.start i.run.legs
          (rw at at x.unbroken)
          (course-along d i.run.service p.repeat i.k i.run.start i.run.legs run.course).1

      -- row q is that of call c
      row_at : (q c : ℕ) (y : Call) → x.start + q ≡ c → q ≤ x.legs → get_elem? i.run.service.calls c ≡ some y → Row d i.run.service i.run.late x.legs q c y (row_word ws q)
      row_at q c y z l g =
          let n : call_no i.run.service c ≡ y = elem_at i.run.service.calls c y no_call g in
          let a : Row d i.run.service (lateness i.run.service.opening p.repeat) x.legs q (x.start + q) (call_no i.run.service (x.start + q)) (row_word ws q) = x.row q l in
          rw (sym run.late, z, n) at a

      first : x.start ≤ p.board
      first = omega (arith, same.0, i.first)

      last : p.alight ≤ x.start + x.legs
      last = omega (arith, same.0, same.1, i.last)

      boarding : Row d i.run.service i.run.late x.legs (p.board - x.start) p.board i.boarding (row_word ws (p.board - x.start))
      boarding = row_at (p.board - x.start) p.board i.boarding (omega (arith, first)) (omega (arith, first, last, i.order)) i.boards

      alighting : Row d i.run.service i.run.late x.legs (p.alight - x.start) p.alight i.alighting (row_word ws (p.alight - x.start))
      alighting = row_at (p.alight - x.start) p.alight i.alighting (omega (arith, first, i.order)) (omega (arith, first, last, i.order)) i.alights

      leaves : p.board - x.start < x.legs
      leaves = omega (arith, first, last, i.order)

      reaches : 1 ≤ p.alight - x.start
      reaches = omega (arith, first, i.order)

      departing-is : s.departing ≡ row_word ws (p.board - x.start) 7
      departing-is = i.departing ∙ sym (row-category boarding leaves)

      -- the row before that of the alighting call
      arriving-is : s.arriving ≡ row_word ws (p.alight - x.start - 1) 7
      arriving-is =
          let z : x.start + (p.alight - x.start - 1) ≡ p.alight - 1 = omega (arith, first, i.order) in
          let l : p.alight - x.start - 1 < x.legs = omega (arith, first, last, i.order) in
          i.arriving ∙ ap (category_on i.run.service) (sym z) ∙ sym (row-category (x.row (p.alight - x.start - 1) (omega arith)) l)

      rows-own : (a : Asked f p.service p.repeat p.day p.month p.year i.run.service day) → walk_of w p.service p.repeat p.day p.month p.year ≡ rows ws → OwnPart f w p s
      rows-own a walks =
          record {
            service = i.run.service;
            day = day;
            asks = a;
            ws = ws;
            lists = walks;
            stretch = x;
            own = own;
            first = first;
            order = i.order;
            last = last;
            may_board = (boarding.departing leaves).1 ∙ i.may_board;
            may_alight = (alighting.arriving reaches).1 ∙ i.may_alight;
            from = i.from ∙ sym boarding.stop;
            departs = i.departs ∙ rw (at, boarding.departure leaves);
            departing = departing-is;
            to = i.to ∙ sym alighting.stop;
            arrives = i.arrives ∙ rw (at, alighting.arrival reaches);
            arriving = arriving-is;
            departing_class = rw departing-is (own.classed x (p.board - x.start) leaves);
            arriving_class = rw arriving-is (own.classed x (p.alight - x.start - 1) (omega (arith, first, last, i.order)));
          }

    pub stage-own : OwnPart f w p s
    stage-own =
        let (day, a, at) = part-asks p i.k i.run.service i.on_day run.there (course-along d i.run.service p.repeat i.k i.run.start i.run.legs run.course).0 in
        let h = demand3 f t helper u e p.service p.repeat p.day p.month p.year day i.run.service a in
        let walks = part-walks p i.k (a_run i.run) i.on_day i.runs in
        rows-own day at _ (listed h.outcome _ walks) h.own a walks

  -- of a connection that holds: it is one (`Proposed`, by the delivery), and each of its stages is of the delivery's own text
  pub holds-own : (ws : List ℕ) → connection_asked w ws ≡ Ok tt → Proposed (view_of d) ws × ((p : Part) (s : Stage) → IsStage (view_of d) p s → OwnPart f w p s)
  unfolding connection_asked
  holds-own ws h = (accepted-is (view_of d) ws (sym (asked-accepted no_connection (λ (v : View). connection_in v ws) f t helper u e) ∙ h), stage-own)
