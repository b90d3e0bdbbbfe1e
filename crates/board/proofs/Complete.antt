-- Where no run's walk is refused the board is complete (`complete`): a run that a service has rests that day, or each of its departures is on the board. Of an accepted
-- delivery no walk is refused (demand 3). Assumes nothing.
use mathlib.Core.Path.{◌≡◌, refl}
use mathlib.Core.Bool.{true}
use mathlib.Core.Option.{some}
use Prim.Native.Nat.{ℕ, ◌+◌, ◌≤◌, ◌<◌}
use lib.ListN.{get_elem?}
use Rattle.std.specs.Prelude.{Ok}
use Rattle.timetable.specs.Delivery.{Service}
use Rattle.timetable.specs.declared.refusal.Refusal.{Refusal}
use Rattle.timetable.specs.Runs.{has_run}
use Rattle.timetable.specs.View.{View}
use Rattle.timetable.specs.Run.{Run, RunFound, no_run, at_rest, a_run, run_of}
use Rattle.timetable.specs.declared.Call.{Call}
use Rattle.board.specs.Board.{boardable, Among, board_of}
use Rattle.board.proofs.Meaning.{Served, board-is}

module _ (v : View) (n k t u services : ℕ) where
  -- what is said of run r of the i-th service
  pub data Told (i r : ℕ) : Type 0 where
    rests : run_of v i r k ≡ at_rest → Told i r
    listed : (x : Run) → run_of v i r k ≡ a_run x
        → ((p : ℕ) (c : Call) → x.start ≤ p → p < x.start + x.legs → get_elem? x.service.calls p ≡ some c → c.stop ≡ n → boardable c ≡ true
        → t ≤ c.departure + x.late → c.departure + x.late ≤ u
        → Among (record { time = c.departure + x.late; service = i; repeat = r; place = p }) (board_of v services n k t u)) → Told i r

  pub complete : Served v services → ((i r : ℕ) (s : Service) → v.service i ≡ Ok s → has_run s.opening r ≡ true → (refusal : Refusal) → run_of v i r k ≡ no_run refusal → ⊥)
      → (i r : ℕ) (s : Service) → v.service i ≡ Ok s → has_run s.opening r ≡ true → Told i r
  complete z never i r s e h = go (run_of v i r k) refl
    where
      go : (f : RunFound) → run_of v i r k ≡ f → Told i r
      go (no_run refusal) q = absurd (never i r s e h refusal q)
      go at_rest q = rests q
      go (a_run x) q =
          listed x q
          (λ p c a b g st bo f l.
          (board-is v n k t u services z).every (record { time = c.departure + x.late; service = i; repeat = r; place = p })
          (record { run = x; runs = q; from = a; before = b; call = c; there = g; stop = st; boards = bo; time = refl; first = f; last = l }))
