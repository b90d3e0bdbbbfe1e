-- How many departures there can be: at most as many from a call as a service has runs. Assumes nothing.
use mathlib.Core.Path.{◌≡◌, refl, ap, ◌∙◌, sym}
use mathlib.Core.List.{List, [], ◌∷◌}
use mathlib.Core.Bool.{Bool, true, false}
use Prim.Native.Nat.{ℕ, ◌+◌, ◌-◌, ◌*◌, ◌≤◌}
use native.Mathlib.Nat.{mul-suc}
use native.Mathlib.Omega.{arith}
use lib.ListN.{length, drop, length-append}
use Rattle.std.specs.Prelude.{Result, Ok, Err}
use Rattle.base.specs.Lists.{gathered}
use Rattle.base.proofs.Lists.{length-map-upto}
use Rattle.base.proofs.Laws.{clash, by-ltb}
use Rattle.timetable.specs.Delivery.{Service}
use Rattle.timetable.specs.Layout.{service_head, call_size}
use Rattle.timetable.specs.Runs.{opening_sound}
use Rattle.timetable.specs.Table.{stops#, services#, call_at, opening_at, service_at, with_stops}
use Rattle.timetable.specs.declared.Opening.{Opening}
use Rattle.timetable.specs.declared.refusal.Refusal.{Refusal}
use Rattle.table.proofs.Says.{record-says}
use Rattle.index.specs.Index.{record_place_in, record_in, view_in}
use Rattle.index.proofs.Records.{record-refused, record-service, record-sound}
use Rattle.spans.specs.Spans.{most_runs, first_run, end_run}
use Rattle.spans.proofs.Meaning.{end-few}
use Rattle.board.specs.Board.{departure_of, runs_from}
use Rattle.board_runs.specs.Batch.{record_of, departures_in}
use Rattle.board_runs.proofs.Interval.{runs-in-a-row}
use Rattle.board_runs.proofs.Given.{none-past}
use Rattle.board_runs.proofs.Quiet.{record-few}

-- every service that words and an index show has an opening line as a table has it
pub opening-shown : (w x : List ℕ) (i : ℕ) (s : Service) → (view_in w x).service i ≡ Ok s → opening_sound s.opening ≡ true
unfolding service_at
opening-shown w x i s e = go (record_in w x i) refl
  where
    is_service : Result Service Refusal → Bool
    is_service (Err refusal) = false
    is_service (Ok s) = true

    service_or : Service → Result Service Refusal → Service
    service_or d (Err refusal) = d
    service_or d (Ok s) = s

    go : (r : Result ℕ Refusal) → r ≡ record_in w x i → opening_sound s.opening ≡ true
    go (Err refusal) q = clash (ap is_service (sym (record-refused w x i (Err refusal) q refusal refl) ∙ e))
    go (Ok p) q =
        let f = record-service w x i (Ok p) q p refl (drop p w) refl in
        let z : with_stops (view_in w x).shown (service_at (drop p w)) ≡ s = ap (service_or s) (sym f ∙ e) in
        rw (← z) (record-says (stops# w) (drop p w) (record-sound w x i (Ok p) q p refl (drop p w) refl)).1.opening

runs-few : (t u i : ℕ) (o : Opening) (p d : ℕ) → opening_sound o ≡ true → length (runs_from t u i o p d) ≤ most_runs
runs-few t u i o p d s =
    let e : length (runs_from t u i o p d) ≡ end_run o d u - first_run o d t
    = ap length (sym (runs-in-a-row t u i o p d s)) ∙ length-map-upto (departure_of i o p d) (end_run o d u - first_run o d t) (first_run o d t) in
    omega (arith, e, end-few o s d u)

pub call-few : (m : Bool) (w x : List ℕ) (n k t u i p : ℕ) → length (departures_in m w x n k t u i p) ≤ most_runs
call-few m w x n k t u i p =
    by-ltb (λ (b : Bool). length (departures_in m w x n k t u i p) ≤ most_runs) i (services# w)
    (λ l. record-few w x t u i p (record_place_in w x i) l refl most_runs (λ o h. runs-few t u i (opening_at (record_of w x i)) p (call_at (drop (service_head + call_size * p) (record_of w x i))).departure o.opening) m n k)
    (λ l. rw (none-past w x n k t u i p m l) (omega arith))

pub gathered-few : {X Y : Type 0} (f : X → List Y) (m : ℕ) → ((x : X) → length (f x) ≤ m) → (l : List X) → length (gathered f l) ≤ m * length l
unfolding gathered
gathered-few f m h [] = omega arith
gathered-few f m h (x ∷ l) = omega (arith, length-append (f x) (gathered f l), h x, gathered-few f m h l, mul-suc m (length l))
