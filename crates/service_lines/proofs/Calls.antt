-- The needs of the functions on a record's calls, for `search calls`. Assumes nothing.
use mathlib.Core.Path.{◌≡◌, refl, ap, ◌∙◌}
use mathlib.Core.List.{List}
use mathlib.Core.Bool.{Bool, true, false, not}
use Prim.Native.Nat.{ℕ, ◌+◌, ◌-◌, ◌*◌, ◌≤◌, ◌<◌}
use native.Mathlib.Omega.{arith}
use lib.ListN.{length, drop}
use Rattle.base.specs.Lists.{every}
use Rattle.base.proofs.Laws.{tests}
use Rattle.base.proofs.Loops.{and-true}
use Rattle.timetable.specs.Delivery.{StopRecord}
use Rattle.timetable.specs.Layout.{service_head, call_size}
use Rattle.timetable.specs.Table.{rows_in, call_at, calls#, stops#, stop_number_at, table_of, call_sound}
use Rattle.timetable.specs.declared.Call.{Call}
use Rattle.timetable.proofs.Rows.{rows_left, rows-again, rows_out, rows-done}
use Rattle.table.specs.JustTable.{JustTable}
use Rattle.timetable.specs.View.{View}
use Rattle.table.proofs.JustTable.{just-header}
use Rattle.index.specs.Index.{view_in}
use Rattle.index.specs.Inner.Ready.{Ready}
use Rattle.index.proofs.Agrees.{view-plain}
use Rattle.table.proofs.Says.{head-word, record-says, record-sized, call-says}
use Rattle.writable.specs.Writable.{call_writable}
use Rattle.service_lines.specs.Inner.Record.{shown_call, call_rows, Standing}
use Rattle.service_lines.proofs.Left.{rounds}

-- a call c was read at p, and n is its stop's number
module _ (w s : List ℕ) (p : ℕ) (c : Call) (e : c ≡ call_at (drop p s)) where
  pub place-low : call_sound (stops# w) (call_at (drop p s)) ≡ true → c.stop < stops# w
  place-low h = rw e (call-says (stops# w) (call_at (drop p s)) h).0

  pub call-is : (n : ℕ) → n ≡ stop_number_at (table_of w).stops c.stop
      → record { stop = n; arrival = c.arrival; departure = c.departure; flags = c.flags; number = c.number; high = c.high; low = c.low } ≡ shown_call (table_of w).stops (drop p s)
  call-is n f = rw (f, e)

pub ruleset call = (tests, place-low, call-is)

-- the number of the stop at a place, by an empty index x
module _ (w x : List ℕ) (h : JustTable w) (z : length x ≡ 0) where
  pub none-ready : Ready w x
  none-ready = record { head = just-header w h; ends = h.ends; sized = λ k. absurd (k z) }

  pub number-shown : (place n : ℕ) → n ≡ (view_in w x).shown place → n ≡ stop_number_at (table_of w).stops place
  number-shown place n e = e ∙ ap (λ (v : View). v.shown place) (view-plain w x h z)

pub ruleset shown = (tests, none-ready, number-shown)

-- ---- the loop over them: k are left from p on

module _ (w s : List ℕ) (h : Standing w s) where
  pub calls-just : JustTable w
  calls-just = h.just

  pub calls-head : (i : ℕ) → i < service_head → i < length s
  calls-head i l = head-word s (record-sized (stops# w) s h.sound) i l

  pub calls-start : service_head + call_size * calls# s ≤ length s
  calls-start = omega (arith, (record-says (stops# w) s h.sound).0.inside)

  pub calls-sound : every (call_sound (stops# w)) (rows_in call_at call_size (calls# s) (drop service_head s)) ≡ true
  calls-sound = (record-says (stops# w) s h.sound).1.calls

pub calls-all : (stops : List StopRecord) (s : List ℕ) → every call_writable (rows_in (shown_call stops) call_size (calls# s) (drop service_head s)) ≡ every call_writable (call_rows stops s)
unfolding call_rows
calls-all stops s = refl

module _ (n : ℕ) (s : List ℕ) (p k : ℕ) (h : 0 < k) (v : every (call_sound n) (rows_in call_at call_size k (drop p s)) ≡ true) where
  both : (call_sound n (call_at (drop p s)) ≡ true) × (every (call_sound n) (rows_in call_at call_size (k - 1) (drop (p + call_size) s)) ≡ true)
  unfolding every
  both = and-true (call_sound n (call_at (drop p s))) _ (rw (rows_left call_at call_size k p s h) at v)

  pub sound-now : call_sound n (call_at (drop p s)) ≡ true
  sound-now = both.0

  pub sound-left : (j : ℕ) → j + 1 ≡ k → every (call_sound n) (rows_in call_at call_size j (drop (p + call_size) s)) ≡ true
  sound-left j o =
      let d : k - 1 ≡ j = omega arith in
      rw d at both.1

-- c is the call at p with its stop's number, x says whether it can be written
module _ (stops : List StopRecord) (s : List ℕ) (p k : ℕ) (r x : Bool) (c : Call) (h : 0 < k) (d : c ≡ shown_call stops (drop p s)) (e : x ≡ call_writable c) (v : every call_writable (rows_in (shown_call stops) call_size k (drop p s)) ≡ r) where
  pub calls-again : (j : ℕ) → j + 1 ≡ k → not x ≡ false → every call_writable (rows_in (shown_call stops) call_size j (drop (p + call_size) s)) ≡ r
  calls-again j o n =
      let f : k - 1 ≡ j = omega arith in
      rw f at (rows-again call_writable (shown_call stops) call_size s p k r x h (e ∙ ap call_writable d) v n)

  pub calls-out : not x ≡ true → false ≡ r
  calls-out = rows_out call_writable (shown_call stops) call_size s p k r x h (e ∙ ap call_writable d) v

pub calls-done : (stops : List StopRecord) (s : List ℕ) (k : ℕ) (r : Bool) → k ≤ 0 → every call_writable (rows_in (shown_call stops) call_size k s) ≡ r → true ≡ r
calls-done stops s k r = rows-done call_writable (shown_call stops) call_size s k r

pub ruleset calls = (tests, rounds, calls-just, calls-head, calls-start, calls-sound, calls-all, sound-now, sound-left, calls-again, calls-out, calls-done)
