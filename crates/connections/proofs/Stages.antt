-- A stage and a change, a ruleset for each function: `stages`, `changes`, `nexts`. Assumes nothing.
use mathlib.Core.Path.{◌≡◌, refl, sym, ap, ◌∙◌}
use mathlib.Core.List.{List}
use mathlib.Core.Bool.{Bool, true, false, cond, not, ◌&&◌}
use Prim.Native.Nat.{ℕ, ◌+◌}
use native.Mathlib.Omega.{arith}
use lib.ListN.{drop}
use lib.Dec.{leb, eqb}
use borrow.Author.Tests.{not-true, not-false}
use Rattle.std.specs.Prelude.{Result, Ok, Err}
use Rattle.base.proofs.Laws.{tests, apart}
use Rattle.timetable.specs.View.{View}
use Rattle.timetable.specs.Run.{run_of}
use Rattle.timetable.specs.Questions.{date_of, minutes_for}
use Rattle.timetable.specs.declared.refusal.Refusal.{Refusal}
use Rattle.index.specs.Index.{record_in, view_in}
use Rattle.index.proofs.Records.{record-refused, record-service, record-sound, record-within}
use Rattle.index.proofs.Shows.{day-low}
use Rattle.course.specs.Inner.Rows.{shown_by}
use Rattle.timetable.specs.declared.refusal.Refusal.TheVariants.{CategoryUnlisted, OtherStop, WaitTooShort}
use Rattle.connections.specs.declared.Part.{Part}
use Rattle.connections.specs.declared.Stage.{Stage}
use Rattle.connections.specs.Inner.Stages.{stage_in, change_answer}
use Rattle.connections.specs.Connection.{Staged, stage_by, stage_dated, stage_of, change_to, changed_to}

-- ---- two tests in a row: x answers the first, y the second

module _ (a b x : Bool) (e : x ≡ a) where
  pub both-no : not x ≡ true → false ≡ (a && b)
  both-no n = rw (sym e ∙ not-true x n)

  pub both_yes : not x ≡ false → (y : Bool) → y ≡ b → y ≡ (a && b)
  both_yes n y f = rw (sym e ∙ not-false x n) f

pub ruleset boths = (tests, both-no, both_yes)

-- ---- a part; on is the day that its date is

module _ (v : View) (p : Part) (on : Result ℕ Refusal) (e : on ≡ date_of v p.day p.month p.year) where
  pub stage-undated : (refusal : Refusal) → on ≡ Err refusal → Err refusal ≡ stage_of v p
  unfolding stage_of
  stage-undated refusal g = sym (ap (stage_dated v p) (sym e ∙ g))

  pub stage-dated : (k : ℕ) → on ≡ Ok k → (r : Staged) → r ≡ stage_by k p (run_of v p.service p.repeat k) → r ≡ stage_of v p
  unfolding stage_of
  stage-dated k g r f = f ∙ sym (ap (stage_dated v p) (sym e ∙ g))

pub ruleset stages = (tests, day-low, stage-undated, stage-dated)

-- ---- on day k; r is the record of the service

module _ (w x : List ℕ) (p : Part) (k : ℕ) (r : Result ℕ Refusal) (e : r ≡ record_in w x p.service) where
  pub on-refused : (refusal : Refusal) → r ≡ Err refusal → Err refusal ≡ stage_by k p (run_of (view_in w x) p.service p.repeat k)
  unfolding run_of
  on-refused refusal g = rw (record-refused w x p.service r e refusal g)

  pub on-record : (q : ℕ) → r ≡ Ok q → (s : List ℕ) → s ≡ drop q w → (y : Staged) → y ≡ stage_in (view_in w x) s p k → y ≡ stage_by k p (run_of (view_in w x) p.service p.repeat k)
  unfolding run_of shown_by
  on-record q g s d y f = f ∙ rw (record-service w x p.service r e q g s d)

pub ruleset records = (tests, record-sound, record-within, on-refused, on-record)

-- ---- a change from s to t: b says whether both categories are listed, m is the interchange time, z says whether the wait is long enough, n is what the change is
-- refused for

-- three tests in their order
pub refusal-49 : (same listed long : Bool) → not same ≡ true → Err OtherStop ≡ change_answer same listed long
refusal-49 same listed long o = rw (not-true same o)

module _ (same listed long : Bool) (h : not same ≡ false) where
  pub refusal-38 : not listed ≡ true → Err CategoryUnlisted ≡ change_answer same listed long
  refusal-38 o = rw (not-false same h, not-true listed o)

  pub refusal-50 : not listed ≡ false → not long ≡ true → Err WaitTooShort ≡ change_answer same listed long
  refusal-50 i o = rw (not-false same h, not-false listed i, not-true long o)

  pub refusal-none : not listed ≡ false → not long ≡ false → Ok tt ≡ change_answer same listed long
  refusal-none i o = rw (not-false same h, not-false listed i, not-false long o)

pub ruleset refusals = (tests, refusal-49, refusal-38, refusal-50, refusal-none)

module _ (v : View) (s t : Stage) (b : Bool) (f : b ≡ (v.listed s.arriving && v.listed t.departing)) (m : ℕ) (g : m ≡ minutes_for (v.times t.from) (v.class s.arriving) (v.class t.departing)) (z : Bool) (h : z ≡ leb (s.arrives + m) t.departs) (n : Result (Unit {0}) Refusal) (e : n ≡ change_answer (eqb s.to t.from) b z) where
  abbrev answer_by : Bool → Bool → Bool → Staged
  answer_by a c d = cond a (cond c (cond d (Ok t) (Err WaitTooShort)) (Err CategoryUnlisted)) (Err OtherStop)

  by_answer : (a c d : Bool) (r : Result (Unit {0}) Refusal) → r ≡ change_answer a c d → ((x : Refusal) → r ≡ Err x → answer_by a c d ≡ Err x) × ((x : Unit {0}) → r ≡ Ok x → answer_by a c d ≡ Ok t)
  by_answer true true true r q = (λ x o. apart (cc), λ x o. refl)
  by_answer true true false r q = (λ x o. cc, λ x o. apart (cc))
  by_answer true false d r q = (λ x o. cc, λ x o. apart (cc))
  by_answer false c d r q = (λ x o. cc, λ x o. apart (cc))

  long-is : leb (s.arrives + minutes_for (v.times t.from) (v.class s.arriving) (v.class t.departing)) t.departs ≡ z
  long-is = ap (λ (i : ℕ). leb (s.arrives + i) t.departs) (sym g) ∙ sym h

  pub change-refused : (x : Refusal) → n ≡ Err x → Err x ≡ change_to v s t
  unfolding change_to
  change-refused x o = rw (sym f, long-is) (sym ((by_answer (eqb s.to t.from) b z n e).0 x o))

  pub change-right : (x : Unit {0}) → n ≡ Ok x → Ok t ≡ change_to v s t
  unfolding change_to
  change-right x o = rw (sym f, long-is) (sym ((by_answer (eqb s.to t.from) b z n e).1 x o))

pub ruleset changes = (tests, change-refused, change-right)

-- ---- the next part after a stage s: y is what its stage is, x what was answered

module _ (v : View) (s : Stage) (y x : Staged) (e : x ≡ y) where
  pub next-refused : (refusal : Refusal) → x ≡ Err refusal → Err refusal ≡ changed_to v s y
  next-refused refusal g = rw (sym e ∙ g)

  pub next-changed : (t : Stage) → x ≡ Ok t → (r : Staged) → r ≡ change_to v s t → r ≡ changed_to v s y
  next-changed t g r f = rw (sym e ∙ g) f

pub ruleset nexts = (tests, next-refused, next-changed)
