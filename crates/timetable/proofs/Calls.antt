-- The calls that the lines of a service hold: as many as its schedule lines, each by its own line. Assumes nothing.
use mathlib.Core.Path.{◌≡◌, refl, sym, ap, ◌∙◌}
use mathlib.Core.List.{List, [], ◌∷◌, ◌++◌, map}
use Prim.Native.Nat.{ℕ, suc, ◌+◌}
use lib.ListN.{length, length-append, length-map}
use Rattle.base.specs.Lists.{All, nil, cons, gathered}
use Rattle.lines.specs.Lines.{Line}
use Rattle.timetable.specs.Plan.{told_in, tolds, as_call, said_on}
use Rattle.timetable.specs.Service.{opening_of, opened, announced, call_by, holding, called_on, calls_of}
use Rattle.timetable.specs.declared.Announced.{Announced}
use Rattle.timetable.specs.declared.Call.{Call}
use Rattle.timetable.specs.declared.CallLine.{CallLine}
use Rattle.timetable.proofs.Lines.{said_more, said-on}

-- ---- how many

holding-length : (a : Announced) (xs : List (ℕ × CallLine)) → length (holding a xs) ≡ length xs
unfolding holding
holding-length a [] = refl
holding-length a (x ∷ xs) = ap suc (holding-length (announced (call_by a x.1)) xs)

pub calls_count : (ls : List Line) → length (calls_of ls) ≡ length (gathered as_call (tolds ls))
unfolding called_on
calls_count ls =
    length-map (called_on ls) (λ (c : ℕ × Call). c.1)
    ∙ (holding-length (opened (opening_of ls)) (said_on as_call ls)
    ∙ (sym (length-map (said_on as_call ls) (λ (c : ℕ × CallLine). c.1)) ∙ ap length (said-on as_call ls)))

-- with one line more
pub calls-more : (before : List Line) (l : Line) → length (calls_of (before ++ (l ∷ []))) ≡ length (calls_of before) + length (as_call (told_in l.text))
calls-more before l =
    calls_count (before ++ (l ∷ []))
    ∙ (ap length (said_more as_call before l)
    ∙ (length-append (gathered as_call (tolds before)) (as_call (told_in l.text)) ∙ ap (λ (n : ℕ). n + length (as_call (told_in l.text))) (sym (calls_count before))))

-- ---- what holds of each schedule line holds of its call, if it does so whatever held before

module _ (P : CallLine → Type 0) (Q : Call → Type 0) (by : (a : Announced) (l : CallLine) → P l → Q (call_by a l)) where
  holding-all : (a : Announced) (xs : List (ℕ × CallLine)) → All P (map (λ (c : ℕ × CallLine). c.1) xs) → All Q (map (λ (c : ℕ × Call). c.1) (holding a xs))
  unfolding holding
  holding-all a [] h = nil
  holding-all a (x ∷ xs) (cons p h) = cons (by a x.1 p) (holding-all (announced (call_by a x.1)) xs h)

  pub calls-all : (ls : List Line) → All P (gathered as_call (tolds ls)) → All Q (calls_of ls)
  unfolding called_on
  calls-all ls h = holding-all (opened (opening_of ls)) (said_on as_call ls) (rw (said-on as_call ls) h)
