-- The times of a service's calls (15): the needs of the functions that check one call, and of the loop over the calls. Assumes nothing.
use Rattle.std.specs.Prelude.{Result, Ok, Err}
use mathlib.Core.Path.{◌≡◌, refl, sym, ap, ◌∙◌}
use mathlib.Core.List.{List}
use mathlib.Core.Bool.{Bool, true, false, not, ◌&&◌, ◌||◌}
use mathlib.Core.Option.{some}
use Prim.Native.Nat.{ℕ, ◌+◌, ◌-◌, ◌*◌, ◌≤◌, ◌<◌}
use native.Mathlib.Nat.{sub-zero}
use native.Mathlib.Omega.{arith}
use lib.ListN.{length, drop}
use lib.Dec.{eqb}
use Rattle.base.proofs.Laws.{tests}
use Rattle.draft.specs.Inner.Draft.{draft_call, call_back, calls_on}
use Rattle.timetable.specs.Offences.{offence_at, given, ◌<|>◌, verdict_by}
use Rattle.timetable.specs.Ranges.{has_arrival, has_departure}
use Rattle.timetable.specs.Checks.{times_stated, not_below, later, times_rise, last_stated, times_first}
use Rattle.timetable.specs.Table.{rows_in}
use Rattle.timetable.specs.declared.Call.{Call}
use Rattle.timetable.proofs.Rows.{rows_none}
use Rattle.draft.proofs.Steps.{rows-step}
use Rattle.timetable.specs.declared.Offence.{Offence}

-- ---- one call, for `search fitting`: two tests, one after the other

module _ (a b s : Bool) (e : s ≡ a) where
  pub and_then : (r : Bool) → r ≡ b → s ≡ true → r ≡ (a && b)
  and_then r d y = rw (sym e ∙ y) d

  pub and-not : s ≡ false → s ≡ (a && b)
  and-not y = rw (sym e ∙ y) y

-- f and g say which times of the call are stated
module _ (call : Call) (f g s r : Bool) (e : f ≡ has_arrival call) (d : g ≡ has_departure call) where
  module _ (c i : ℕ) (k : s ≡ (eqb i 0 || f)) (l : r ≡ (eqb (i + 1) c || g)) where
    pub stated-then : s ≡ true → r ≡ times_stated c i call
    stated-then y = and_then _ _ s (rw e at k) r (rw d at l) y

    pub stated-not : s ≡ false → s ≡ times_stated c i call
    stated-not y = and-not _ _ s (rw e at k) y

  module _ (before m : ℕ) (k : s ≡ not_below f call.arrival before) (j : m ≡ later f call.arrival before) (l : r ≡ not_below g call.departure m) where
    pub rise-then : s ≡ true → r ≡ times_rise before call
    rise-then y = and_then _ _ s (rw e at k) r (rw (d, j, e) at l) y

    pub rise-not : s ≡ false → s ≡ times_rise before call
    rise-not y = and-not _ _ s (rw e at k) y

pub ruleset fitting = (tests, and_then, and-not, stated-then, stated-not, rise-then, rise-not)

-- ---- the loop of `times_wrong`, for `search timed`: the calls from the i-th of c on, whose words start at `at`; o is what all calls answer

pub times-start : (w : List ℕ) (c : ℕ) → verdict_by (times_first c 0 0 (rows_in call_back draft_call (c - 0) (drop (draft_call * 0) w))) ≡ verdict_by (times_first c 0 0 (calls_on c w))
times-start w c = rw (sub-zero c) refl

module _ (w : List ℕ) (c i before : ℕ) (o : Result (Unit {0}) Offence) (v : verdict_by (times_first c i before (rows_in call_back draft_call (c - i) (drop (draft_call * i) w))) ≡ o) where
  -- t says whether the times of the call at hand fit
  module _ (at : ℕ) (p : at ≡ draft_call * i) (h : i < c) (call : Call) (d : call ≡ (call_back (drop at w)).1) (t : Bool) (f : t ≡ (times_stated c i call && times_rise before call)) where
    abbrev rest : ℕ → Result (Unit {0}) Offence
    rest m = verdict_by (times_first c (i + 1) m (rows_in call_back draft_call (c - (i + 1)) (drop (draft_call * (i + 1)) w)))

    turn : verdict_by (given (not t) 15 (call_back (drop at w)).0 <|> times_first c (i + 1) (last_stated before call) (rows_in call_back draft_call (c - (i + 1)) (drop (draft_call * (i + 1)) w))) ≡ o
    unfolding times_first
    turn =
        ap (λ (t : Bool). verdict_by (given (not t) 15 (call_back (drop at w)).0 <|> times_first c (i + 1) (last_stated before call) (rows_in call_back draft_call (c - (i + 1)) (drop (draft_call * (i + 1)) w)))) f
        ∙ ap (λ (x : Call). verdict_by (given (not (times_stated c i x && times_rise before x)) 15 (call_back (drop at w)).0 <|> times_first c (i + 1) (last_stated before x) (rows_in call_back draft_call (c - (i + 1)) (drop (draft_call * (i + 1)) w)))) d
        ∙ ap (λ (xs : List (ℕ × Call)). verdict_by (times_first c i before xs)) (sym (rows-step call_back draft_call c i at w p h))
        ∙ v

    pub times-again : (m : ℕ) → not t ≡ false → m ≡ last_stated before call → verdict_by (times_first c (i + 1) m (rows_in call_back draft_call (c - (i + 1)) (drop (draft_call * (i + 1)) w))) ≡ o
    unfolding ◌<|>◌
    times-again m y z = ap rest z ∙ (rw y at turn)

    pub times-out : (line : ℕ) (r : Result (Unit {0}) Offence) → not t ≡ true → line ≡ (call_back (drop at w)).0 → r ≡ verdict_by (some (offence_at 15 line)) → r ≡ o
    unfolding ◌<|>◌
    times-out line r y z k = k ∙ ap (λ (l : ℕ). Err (offence_at 15 l)) z ∙ (rw y at turn)

  pub times-done : c ≤ i → Ok tt ≡ o
  unfolding times_first
  times-done h = rw (rows_none call_back draft_call c i (drop (draft_call * i) w) h) at v

-- the words of a call lie in w
pub call_inside : (w : List ℕ) (c i at : ℕ) → draft_call * c ≤ length w → i < c → at ≡ draft_call * i → at + draft_call ≤ length w
call_inside w c i at l h e = omega arith

pub ruleset timed = (tests, call_inside, times-start, times-again, times-out, times-done)
