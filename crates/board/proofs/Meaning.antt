-- There is one board (`one-board`), and `board_of` is it (`board-is`). Assumes nothing.
use mathlib.Core.Path.{◌≡◌, refl, ap, ◌∙◌, sym}
use mathlib.Core.List.{List, [], ◌∷◌}
use mathlib.Core.Logic.{inl, inr}
use mathlib.Core.Bool.{Bool, true, false, cond, not, ◌&&◌}
use mathlib.Core.Option.{Option, none, some}
use Prim.Native.Nat.{ℕ, zero, suc, ◌+◌, ◌≤◌, ◌<◌}
use native.Mathlib.Omega.{arith}
use lib.ListN.{length, get_elem?}
use lib.Dec.{leb, eqb}
use borrow.Author.Tests.{lt-ltb, le-leb, eq-eqb, ltb-true, leb-true, eqb-true}
use Rattle.std.specs.Prelude.{Result, Ok, Err, Some, None}
use Rattle.base.specs.Lists.{gathered, below}
use Rattle.base.proofs.Laws.{clash}
use Rattle.base.proofs.Loops.{and-true}
use Rattle.timetable.specs.Delivery.{Service}
use Rattle.timetable.specs.Runs.{has_run, lateness, opening_sound}
use Rattle.timetable.specs.View.{View}
use Rattle.timetable.specs.Run.{Course, runs_along, Run, RunFound, no_run, at_rest, a_run, run_along, run_by, run_of, course_on, service_course}
use Rattle.timetable.specs.declared.Call.{Call}
use Rattle.timetable.specs.declared.Opening.{Opening}
use Rattle.timetable.specs.declared.refusal.Refusal.{Refusal}
use Rattle.timetable.specs.declared.refusal.Refusal.TheVariants.{NoSuchRun}
use Rattle.timetable.specs.declared.refusal.Refusal.{Refusal}
use Rattle.spans.specs.Spans.{runs#}
use Rattle.spans.proofs.Meaning.{has-below, and_both}
use Rattle.board.specs.Board.{Departure, boardable, IsDeparture, Among, IsBoard, departure_of, run_departure, runs_from, call_departures, leaves, place_departures, found_departures, service_departures, board_of}
use Rattle.board.proofs.Among.{Distinct, gathered-among, among-gathered, distinct-gathered}
use Rattle.board.proofs.Ascending.{one-ascending, among-sorted, sorted-among, sorted-ascending}

-- "each once": there is only one board
pub one-board : (v : View) (n k t u : ℕ) (es fs : List Departure) → IsBoard v n k t u es → IsBoard v n k t u fs → es ≡ fs
one-board v n k t u es fs a b = one-ascending es fs a.ordered b.ordered (λ x m. b.every x (a.only x m)) (λ x m. a.every x (b.only x m))

-- what a view shows: so many services, each with an opening line as a table has it
pub record Served (v : View) (services : ℕ) : Type 0 where
  pub most : (i : ℕ) (s : Service) → v.service i ≡ Ok s → i < services
  pub sound : (i : ℕ) (s : Service) → v.service i ≡ Ok s → opening_sound s.opening ≡ true

-- ---- from a place of a service's route

module _ (t u i : ℕ) (o : Opening) (p d : ℕ) where
  pub record Leaving (e : Departure) : Type 0 where
    pub repeat : ℕ
    pub there : repeat < runs# o
    pub is : e ≡ departure_of i o p d repeat
    pub first : t ≤ d + lateness o repeat
    pub last : d + lateness o repeat ≤ u

  one-run : (r : ℕ) (e : Departure) → Among e (run_departure t u i o p d r) → (e ≡ departure_of i o p d r) × (t ≤ d + lateness o r) × (d + lateness o r ≤ u)
  unfolding Among
  one-run r e = go (leb t (d + lateness o r) && leb (d + lateness o r) u) refl
    where
      go : (b : Bool) → (leb t (d + lateness o r) && leb (d + lateness o r) u) ≡ b → Among e (cond b (departure_of i o p d r ∷ []) []) → (e ≡ departure_of i o p d r) × (t ≤ d + lateness o r) × (d + lateness o r ≤ u)
      go true q (inl z) =
          let a = and-true (leb t (d + lateness o r)) _ q in
          (z, leb-true t (d + lateness o r) a.0, leb-true (d + lateness o r) u a.1)
      go true q (inr z) = absurd z
      go false q z = absurd z

  run-distinct : (r : ℕ) → Distinct (run_departure t u i o p d r)
  unfolding Distinct Among
  run-distinct r = go (leb t (d + lateness o r) && leb (d + lateness o r) u)
    where
      go : (b : Bool) → Distinct (cond b (departure_of i o p d r ∷ []) [])
      go true = ((λ m. m), Prim.tt)
      go false = Prim.tt

  pub runs-among : (e : Departure) → Among e (runs_from t u i o p d) → Leaving e
  unfolding runs_from
  runs-among e h =
      let g = gathered-among (run_departure t u i o p d) (runs# o) 0 e h in
      let l = one-run g.number e g.one in
      record { repeat = g.number; there = omega (arith, g.high); is = l.0; first = l.1; last = l.2 }

  pub among-runs : (r : ℕ) → r < runs# o → t ≤ d + lateness o r → d + lateness o r ≤ u → Among (departure_of i o p d r) (runs_from t u i o p d)
  unfolding runs_from Among
  among-runs r h a b =
      among-gathered (run_departure t u i o p d) (runs# o) 0 r (departure_of i o p d r) (omega arith) (omega arith)
      (rw (le-leb t (d + lateness o r) a, le-leb (d + lateness o r) u b) (inl refl))

  pub runs-distinct : Distinct (runs_from t u i o p d)
  unfolding runs_from
  runs-distinct =
      distinct-gathered (run_departure t u i o p d) (λ (e : Departure). e.repeat) run-distinct
      (λ r e m. ap (λ (e : Departure). e.repeat) (one-run r e m).0) (runs# o) 0

module _ (n t u i : ℕ) (o : Opening) (p : ℕ) where
  -- it leaves from a call at the stop, where boarding is allowed
  pub record Boarding (c : Option Call) (e : Departure) : Type 0 where
    pub call : Call
    pub there : c ≡ some call
    pub stop : call.stop ≡ n
    pub boards : boardable call ≡ true
    pub leaving : Leaving t u i o p call.departure e

  pub call-among : (c : Option Call) (e : Departure) → Among e (call_departures n t u i o p c) → Boarding c e
  unfolding Among
  call-among none e h = absurd h
  call-among (some c) e h = go (eqb c.stop n && boardable c) refl h
    where
      go : (b : Bool) → (eqb c.stop n && boardable c) ≡ b → Among e (cond b (runs_from t u i o p c.departure) []) → Boarding (some c) e
      go true q m =
          let a = and-true (eqb c.stop n) _ q in
          record { call = c; there = refl; stop = eqb-true c.stop n a.0; boards = a.1; leaving = runs-among t u i o p c.departure e m }
      go false q m = absurd m

  pub call-distinct : (c : Option Call) → Distinct (call_departures n t u i o p c)
  unfolding Distinct
  call-distinct none = Prim.tt
  call-distinct (some c) = go (eqb c.stop n && boardable c)
    where
      go : (b : Bool) → Distinct (cond b (runs_from t u i o p c.departure) [])
      go true = runs-distinct t u i o p c.departure
      go false = Prim.tt

module _ (v : View) (n k t u i : ℕ) (s : Service) where
  pub record Placed (p : ℕ) (e : Departure) : Type 0 where
    pub goes : leaves (course_on v s k) p ≡ true
    pub boarding : Boarding n t u i s.opening p (get_elem? s.calls p) e

  pub place-among : (p : ℕ) (e : Departure) → Among e (place_departures v n k t u i s p) → Placed p e
  unfolding Among
  place-among p e h = go (leaves (course_on v s k) p) refl h
    where
      go : (b : Bool) → leaves (course_on v s k) p ≡ b → Among e (cond b (call_departures n t u i s.opening p (get_elem? s.calls p)) []) → Placed p e
      go true q m = record { goes = q; boarding = call-among n t u i s.opening p (get_elem? s.calls p) e m }
      go false q m = absurd m

  place-distinct : (p : ℕ) → Distinct (place_departures v n k t u i s p)
  unfolding Distinct
  place-distinct p = go (leaves (course_on v s k) p)
    where
      go : (b : Bool) → Distinct (cond b (call_departures n t u i s.opening p (get_elem? s.calls p)) [])
      go true = call-distinct n t u i s.opening p (get_elem? s.calls p)
      go false = Prim.tt

  pub places-distinct : Distinct (found_departures v n k t u i (Ok s))
  places-distinct =
      distinct-gathered (place_departures v n k t u i s) (λ (e : Departure). e.place) place-distinct
      (λ p e m. ap (λ (e : Departure). e.place) (place-among p e m).boarding.leaving.is) (length s.calls) 0

-- ---- of a service

module _ (v : View) (n k t u i : ℕ) where
  pub service-distinct : Distinct (service_departures v n k t u i)
  unfolding service_departures Distinct
  service-distinct = go (v.service i)
    where
      go : (f : Result Service Refusal) → Distinct (found_departures v n k t u i f)
      go (Err refusal) = Prim.tt
      go (Ok s) = places-distinct v n k t u i s

  pub record Offered (e : Departure) : Type 0 where
    pub service : Service
    pub found : v.service i ≡ Ok service
    pub place : ℕ
    pub placed : Placed v n k t u i service place e

  pub service-among : (e : Departure) → Among e (service_departures v n k t u i) → Offered e
  unfolding service_departures Among
  service-among e h = go (v.service i) refl h
    where
      go : (f : Result Service Refusal) → v.service i ≡ f → Among e (found_departures v n k t u i f) → Offered e
      go (Err refusal) q m = absurd m
      go (Ok s) q m =
          let g = gathered-among (place_departures v n k t u i s) (length s.calls) 0 e m in
          record { service = s; found = q; place = g.number; placed = place-among v n k t u i s g.number e g.one }

  service-is : (e : Departure) → Among e (service_departures v n k t u i) → e.service ≡ i
  service-is e h = ap (λ (e : Departure). e.service) (service-among e h).placed.boarding.leaving.is

-- ---- a departure of the definition

-- a run along a stretch
along-run : (v : View) (i r k : ℕ) (s : Service) (a m : ℕ) → v.service i ≡ Ok s → has_run s.opening r ≡ true → course_on v s k ≡ runs_along a m
    → run_of v i r k ≡ a_run (record { service = s; late = lateness s.opening r; start = a; legs = m })
unfolding run_of service_course
along-run v i r k s a m q h c = rw (q, h, c)

pub offered-departure : (v : View) (n k t u i services : ℕ) (e : Departure) → Served v services → Offered v n k t u i e → IsDeparture v n k t u e
offered-departure v n k t u i services e z f =
    let s = f.service in
    let b = f.placed.boarding in
    let l = b.leaving in
    go (course_on v s k) refl f.placed.goes
  where
    go : (c : Course) → course_on v f.service k ≡ c → leaves c f.place ≡ true → IsDeparture v n k t u e
    go (Ok (Some y)) q g =
        let a = y.start in
        let m = y.legs in
        let s = f.service in
        let b = f.placed.boarding in
        let l = b.leaving in
        let x = and-true (leb a f.place) _ g in
        let run : has_run s.opening l.repeat ≡ true = has-below s.opening (z.sound i s f.found) l.repeat ∙ lt-ltb l.repeat (runs# s.opening) l.there in
        rw l.is
        (record {
          run = record { service = s; late = lateness s.opening l.repeat; start = a; legs = m };
          runs = along-run v i l.repeat k s a m f.found run q;
          from = leb-true a f.place x.0;
          before = ltb-true f.place (a + m) x.1;
          call = b.call;
          there = b.there;
          stop = b.stop;
          boards = b.boards;
          time = refl;
          first = l.first;
          last = l.last;
        })
    go (Ok None) q g = clash g
    go (Err refusal) q g = clash g

-- what a run is: a service, and its course
pub record Ran (v : View) (i r k : ℕ) (x : Run) : Type 0 where
  pub found : v.service i ≡ Ok x.service
  pub has : has_run x.service.opening r ≡ true
  pub late : x.late ≡ lateness x.service.opening r
  pub course : course_on v x.service k ≡ runs_along x.start x.legs

is_run : RunFound → Bool
is_run (no_run refusal) = false
is_run at_rest = false
is_run (a_run x) = true

run_or : Run → RunFound → Run
run_or d (no_run refusal) = d
run_or d at_rest = d
run_or d (a_run x) = x

pub run-told : (v : View) (i r k : ℕ) (x : Run) → run_of v i r k ≡ a_run x → Ran v i r k x
unfolding run_of service_course run_or is_run
run-told v i r k x = by-service (v.service i) refl
  where
    by-course : (s : Service) (c : Course) → v.service i ≡ Ok s → has_run s.opening r ≡ true → course_on v s k ≡ c → run_along s (lateness s.opening r) c ≡ a_run x → Ran v i r k x
    by-course s (Ok (Some y)) f h c e =
        let z : record { service = s; late = lateness s.opening r; start = y.start; legs = y.legs } ≡ x = ap (run_or x) e in
        rw (← z) (record { found = f; has = h; late = refl; course = c })
    by-course s (Ok None) f h c e = clash (ap is_run e)
    by-course s (Err refusal) f h c e = clash (ap is_run e)

    by-run : (s : Service) (t : Bool) → v.service i ≡ Ok s → has_run s.opening r ≡ t → run_along s (lateness s.opening r) (cond (not t) (Err NoSuchRun) (course_on v s k)) ≡ a_run x → Ran v i r k x
    by-run s true f h e = by-course s (course_on v s k) f h refl e
    by-run s false f h e = clash (ap is_run e)

    by-service : (f : Result Service Refusal) → v.service i ≡ f → run_by v f r k ≡ a_run x → Ran v i r k x
    by-service (Err refusal) f e = clash (ap is_run e)
    by-service (Ok s) f e = by-run s (has_run s.opening r) f refl e

is_some : Option Call → Bool
is_some none = false
is_some (some c) = true

within : (c : Call) (l : List Call) (p : ℕ) → get_elem? l p ≡ some c → p < length l
unfolding is_some
within c [] zero e = clash (ap is_some e)
within c [] (suc p) e = clash (ap is_some e)
within c (x ∷ l) zero e = omega arith
within c (x ∷ l) (suc p) e = omega (arith, within c l p e)

departure-offered : (v : View) (n k t u services : ℕ) (e : Departure) → Served v services → IsDeparture v n k t u e → Among e (gathered (service_departures v n k t u) (below services))
unfolding service_departures
departure-offered v n k t u services e z d =
    let x = d.run in
    let s = x.service in
    let o = s.opening in
    let g = run-told v e.service e.repeat k x d.runs in
    let time : e.time ≡ d.call.departure + lateness o e.repeat = d.time ∙ ap (λ (l : ℕ). d.call.departure + l) g.late in
    let is : e ≡ departure_of e.service o e.place d.call.departure e.repeat = λ j. record { time = time j; service = e.service; repeat = e.repeat; place = e.place } in
    let run : e.repeat < runs# o = ltb-true e.repeat (runs# o) (sym (has-below o (z.sound e.service s g.found) e.repeat) ∙ g.has) in
    let own : Among (departure_of e.service o e.place d.call.departure e.repeat) (runs_from t u e.service o e.place d.call.departure)
    = among-runs t u e.service o e.place d.call.departure e.repeat run (omega (arith, d.first, time)) (omega (arith, d.last, time)) in
    let call : call_departures n t u e.service o e.place (some d.call) ≡ runs_from t u e.service o e.place d.call.departure
    = rw (eq-eqb d.call.stop n d.stop, d.boards) refl in
    let goes : leaves (course_on v s k) e.place ≡ true
    = rw g.course (and_both _ _ (le-leb x.start e.place d.from) (lt-ltb e.place (x.start + x.legs) d.before)) in
    let place : place_departures v n k t u e.service s e.place ≡ runs_from t u e.service o e.place d.call.departure
    = rw (goes, d.there) call in
    let there : Among e (place_departures v n k t u e.service s e.place) = rw place (rw (← is) at own) in
    let all : Among e (found_departures v n k t u e.service (Ok s))
    = among-gathered (place_departures v n k t u e.service s) (length s.calls) 0 e.place e (omega arith) (omega (arith, within d.call s.calls e.place d.there)) there in
    among-gathered (service_departures v n k t u) services 0 e.service e (omega arith) (omega (arith, z.most e.service s g.found))
    (rw g.found all)

-- the board of the definition is the board
pub board-is : (v : View) (n k t u services : ℕ) → Served v services → IsBoard v n k t u (board_of v services n k t u)
unfolding board_of
board-is v n k t u services z =
    let all : List Departure = gathered (service_departures v n k t u) (below services) in
    record {
      ordered = sorted-ascending all (distinct-gathered (service_departures v n k t u) (λ (e : Departure). e.service) (λ i. service-distinct v n k t u i) (λ i e m. service-is v n k t u i e m) services 0);
      only = λ e m.
          let g = gathered-among (service_departures v n k t u) services 0 e (among-sorted e all m) in
          offered-departure v n k t u g.number services e z (service-among v n k t u g.number e g.one);
      every = λ e d. sorted-among e all (departure-offered v n k t u services e z d);
    }

-- so what is a board is this one
pub board-only : (v : View) (n k t u services : ℕ) (es : List Departure) → Served v services → IsBoard v n k t u es → es ≡ board_of v services n k t u
board-only v n k t u services es z b = one-board v n k t u es (board_of v services n k t u) b (board-is v n k t u services z)
