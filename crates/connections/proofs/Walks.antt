-- "per part the walk's own refusals except 29, 47 not among the rows, 48 order or permission": where the walk of a part is refused, so is the part, by the same
-- number; where it does not run that day, by 47; where it lists rows, by 47 or 48 only. Assumes nothing.
use mathlib.Core.Path.{◌≡◌, refl, sym, ◌∙◌}
use mathlib.Core.List.{List}
use mathlib.Core.Bool.{Bool, true, false, cond, ◌&&◌}
use mathlib.Core.Option.{Option, none, some}
use mathlib.Core.Logic.{◌⊎◌, inl, inr}
use Prim.Native.Nat.{ℕ}
use lib.Dec.{ltb}
use Rattle.std.specs.Prelude.{Result, Ok, Err}
use Rattle.base.proofs.Laws.{apart}
use Rattle.timetable.specs.View.{View}
use Rattle.timetable.specs.Delivery.{Service}
use Rattle.timetable.specs.Run.{RunFound, no_run, at_rest, a_run, run_of}
use Rattle.timetable.specs.Questions.{date_of, Journey, refused, idle, rows, rows_along, dated_run, journey}
use Rattle.timetable.specs.declared.Call.{Call}
use Rattle.timetable.specs.declared.refusal.Refusal.{Refusal}
use Rattle.timetable.specs.declared.refusal.Refusal.TheVariants.{CallNotListed, NotBoardable}
use Rattle.connections.specs.declared.Part.{Part}
use Rattle.connections.specs.Connection.{Staged, row_call, boarding_allowed, alighting_allowed, stage_along, stage_between, stage_by, stage_dated, stage_of}

-- what a part answers, by what its walk gives
abbrev pub ByWalk : Journey → Staged → Type 0
ByWalk (refused refusal) x = x ≡ Err refusal
ByWalk idle x = x ≡ Err CallNotListed
ByWalk (rows ws) x = (refusal : Refusal) → x ≡ Err refusal → (refusal ≡ CallNotListed) ⊎ (refusal ≡ NotBoardable)

between-by : (s : Service) (late k : ℕ) (p : Part) (b a : Option Call) (refusal : Refusal) → stage_between s late k p b a ≡ Err refusal → (refusal ≡ CallNotListed) ⊎ (refusal ≡ NotBoardable)
between-by s late k p none a refusal e = inl (cc)
between-by s late k p (some b) none refusal e = inl (cc)
between-by s late k p (some b) (some a) refusal e = go (ltb p.board p.alight && (boarding_allowed b && alighting_allowed a)) e
  where
    go : (t : Bool) → cond t (Ok (stage_along s late k p b a)) (Err NotBoardable) ≡ Err refusal → (refusal ≡ CallNotListed) ⊎ (refusal ≡ NotBoardable)
    go true e = apart (cc)
    go false e = inr (cc)

module _ (v : View) (p : Part) where
  by-run : (k : ℕ) (x : RunFound) → ByWalk (rows_along v x) (stage_by k p x)
  by-run k (no_run refusal) = refl
  by-run k at_rest = refl
  by-run k (a_run x) = λ refusal e. between-by x.service x.late k p (row_call x p.board) (row_call x p.alight) refusal e

  by-date : (t : Result ℕ Refusal) → ByWalk (rows_along v (dated_run v p.service p.repeat t)) (stage_dated v p t)
  by-date (Err refusal) = refl
  by-date (Ok k) = by-run k (run_of v p.service p.repeat k)

  pub part-by-walk : ByWalk (journey v p.service p.repeat p.day p.month p.year) (stage_of v p)
  unfolding journey stage_of
  part-by-walk = by-date (date_of v p.day p.month p.year)
