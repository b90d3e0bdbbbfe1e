-- A day of a period lies in it (`day-in`). Assumes nothing.
use mathlib.Core.Path.{◌≡◌, refl, ap, ◌∙◌, sym}
use mathlib.Core.Bool.{Bool, true, false, cond, ◌&&◌}
use Prim.Native.Nat.{ℕ, ◌+◌, ◌-◌, ◌≤◌, ◌<◌}
use native.Mathlib.Omega.{arith}
use lib.Dec.{ltb, leb}
use borrow.Author.Tests.{le-leb, lt-leb, lt-ltb, le-ltb, leb-true, ltb-true}
use Rattle.std.specs.Prelude.{Result, Ok, Err}
use Rattle.base.proofs.Laws.{tests, apart}
use Rattle.std.specs.Prelude.{Option, Some, None}
use Rattle.timetable.specs.Delivery.{Period}
use Rattle.timetable.specs.Questions.{dated_by}
use Rattle.timetable.specs.declared.refusal.Refusal.{Refusal}
use Rattle.timetable.specs.declared.refusal.Refusal.TheVariants.{NoSuchDate, OutsidePeriod}

-- a day of a period lies in it
pub day-in : (p : Period) (date : Option ℕ) (k : ℕ) → dated_by p date ≡ Ok k → k < p.n
day-in p None k e = apart (cc)
day-in p (Some j) k e = go (leb p.start j) (ltb j (p.start + p.n)) refl refl e
  where
    day_of : Result ℕ Refusal → ℕ
    day_of (Err refusal) = 0
    day_of (Ok k) = k

    go : (a b : Bool) → leb p.start j ≡ a → ltb j (p.start + p.n) ≡ b → ◌≡◌ {A = Result ℕ Refusal} (cond (a && b) (Ok (j - p.start)) (Err OutsidePeriod)) (Ok k) → k < p.n
    go false b x y f = apart (cc)
    go true false x y f = apart (cc)
    go true true x y f =
        let h = leb-true p.start j x in
        let l = ltb-true j (p.start + p.n) y in
        let d : j - p.start ≡ k = ap day_of f in
        omega (arith, d)
