-- The calls of a service, as they are written one after the other. Assumes nothing.
use mathlib.Core.Path.{◌≡◌, refl, sym, ap, ◌∙◌}
use mathlib.Core.List.{List, [], ◌∷◌, ◌++◌}
use Prim.Native.Nat.{ℕ, ◌+◌, ◌-◌, ◌*◌, ◌≤◌, ◌<◌}
use native.Mathlib.Nat.{add-zero}
use native.Mathlib.Omega.{arith}
use lib.ListN.{length, drop}
use Rattle.base.specs.Lists.{gathered}
use Rattle.base.proofs.Laws.{tests, len-trans}
use Rattle.words.specs.Words.{write}
use Rattle.words.proofs.Laws.{write-none, write-write, length-write}
use Rattle.timetable.specs.Layout.{call_size}
use Rattle.timetable.specs.Delivery.{StopRecord}
use Rattle.timetable.specs.Table.{stop_place, rows_in}
use Rattle.timetable.specs.declared.Call.{Call}
use Rattle.draft.specs.Inner.Draft.{draft_call, call_back, calls_in}
use Rattle.range_words.proofs.Rows.{row-turn, no_rows, row-start, run-count, run_room, run-again}
use Rattle.service_words.specs.Inner.Record.{placed_call, pointed_words}

-- ---- the needs of `put_call`, for `search called`: four words, and three behind them

module _ (t u : List ℕ) (q stop : ℕ) (c : Call) (room : q + call_size ≤ length t) (e : u ≡ write t q (stop ∷ c.arrival ∷ c.departure ∷ c.flags ∷ [])) where
  abbrev four : List ℕ
  four = stop ∷ c.arrival ∷ c.departure ∷ c.flags ∷ []

  pub call-rest : q + 4 + 3 ≤ length u
  call-rest = rw (e, length-write t q four (omega arith)) (omega arith)

  pub seven-put : (v : List ℕ) → v ≡ write u (q + 4) (c.number ∷ c.high ∷ c.low ∷ []) → v ≡ write t q (placed_call stop c)
  seven-put v f = f ∙ rw e (write-write t q four (c.number ∷ c.high ∷ c.low ∷ []) (omega arith))

pub ruleset called = (tests, call-rest, seven-put)

-- ---- the loop of `calls_into`, for `search calling`

-- the words of the calls from the i-th of c on
abbrev pub calls_left : List StopRecord → ℕ → ℕ → List ℕ → List ℕ
calls_left stops c i w = gathered (pointed_words stops) (rows_in (λ (u : List ℕ). (call_back u).1) draft_call (c - i) (drop (draft_call * i) w))

-- the words of a call lie in w
pub call_inside : (w : List ℕ) (c i p : ℕ) → draft_call * c ≤ length w → i < c → p ≡ draft_call * i → p + draft_call ≤ length w
call_inside w c i p l h e = omega arith

pub calls_count : (stops : List StopRecord) (c q : ℕ) (w : List ℕ) → q + length (calls_left stops c 0 w) ≡ q + length (gathered (pointed_words stops) (calls_in c w))
calls_count stops c q w = ap (λ (vs : List ℕ). q + length vs) (row-start (λ (u : List ℕ). (call_back u).1) draft_call (pointed_words stops) w c)

pub calls-start : (stops : List StopRecord) (c q : ℕ) (w t : List ℕ) → write t q (calls_left stops c 0 w) ≡ write t q (gathered (pointed_words stops) (calls_in c w))
calls-start stops c q w t = ap (write t q) (row-start (λ (u : List ℕ). (call_back u).1) draft_call (pointed_words stops) w c)

module _ (stops : List StopRecord) (c i q m : ℕ) (w : List ℕ) where
  module _ (p : ℕ) (f : p ≡ draft_call * i) (h : i < c) (t t₀ : List ℕ) (len : length t ≡ length t₀) (count : q + length (calls_left stops c i w) ≡ m) (room : m ≤ length t₀) where
    abbrev own : List ℕ
    own = pointed_words stops (call_back (drop p w)).1

    abbrev others : List ℕ
    others = calls_left stops c (i + 1) w

    call-turn : calls_left stops c i w ≡ own ++ others
    call-turn = row-turn (λ (u : List ℕ). (call_back u).1) draft_call (pointed_words stops) w c i p f h own refl

    pub call-room : q + call_size ≤ length t
    call-room = run_room own others (calls_left stops c i w) t t₀ q m call-turn len count room

    pub call-count : q + call_size + length (calls_left stops c (i + 1) w) ≡ m
    call-count = run-count own others (calls_left stops c i w) t t₀ q m call-turn len count

    -- `stop` is the place of the call's stop
    pub call-again : (call : Call) (stop : ℕ) (t' r : List ℕ) → call ≡ (call_back (drop p w)).1 → stop ≡ stop_place call.stop stops → t' ≡ write t q (placed_call stop call)
        → write t q (calls_left stops c i w) ≡ r → write t' (q + call_size) (calls_left stops c (i + 1) w) ≡ r
    call-again call stop t' r d e z v =
        let here : t' ≡ write t q own = z ∙ (ap (λ (k : ℕ). write t q (placed_call k call)) e ∙ ap (λ (x : Call). write t q (pointed_words stops x)) d) in
        run-again own others (calls_left stops c i w) t t₀ q m call-turn len count room t' r here v

  module _ (h : c ≤ i) where
    pub calls_last : q + length (calls_left stops c i w) ≡ m → q ≡ m
    calls_last v = sym (add-zero q) ∙ (rw (no_rows (λ (u : List ℕ). (call_back u).1) draft_call (pointed_words stops) w c i h) at v)

    pub calls-done : (t r : List ℕ) → write t q (calls_left stops c i w) ≡ r → t ≡ r
    calls-done t r v = sym (write-none t q) ∙ (rw (no_rows (λ (u : List ℕ). (call_back u).1) draft_call (pointed_words stops) w c i h) at v)

pub ruleset calling = (tests, len-trans, call_inside, calls_count, calls-start, call-room, call-count, call-again, calls_last, calls-done)
