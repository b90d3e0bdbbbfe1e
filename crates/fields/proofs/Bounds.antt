-- How large a time gets: five digits behind the sign are at most 999 hours and 59 minutes. Assumes nothing.
use mathlib.Core.Path.{◌≡◌, ap}
use mathlib.Core.List.{List, [], ◌∷◌}
use mathlib.Core.Bool.{Bool, true, false, cond}
use Prim.Native.Nat.{ℕ, suc, ◌+◌, ◌*◌, ◌/◌, ◌%◌, ◌^◌, ◌≤◌, ◌<◌}
use native.Mathlib.Omega.{arith}
use lib.ListN.{length, get_or, drop}
use lib.Dec.{eqb}
use Rattle.base.proofs.Laws.{by-leb}
use Rattle.columns.specs.Columns.{pad_to, is_blank, blank, digits, number}
use Rattle.columns.proofs.Laws.{length-pad, number_lt}
use Rattle.fields.specs.Fields.{clock, time_in, time}
use Rattle.fields.specs.declared.Time.{Time}
use Rattle.fields.specs.declared.Time.TheVariants.{Absent, Stated, NoTime}

-- the minutes of a time, 0 for none
abbrev minutes : Time → ℕ
minutes Absent = 0
minutes (Stated m barred) = m
minutes NoTime = 0

abbrev Small : Time → Type 0
Small t = minutes t ≤ 999 * 60 + 59

small-either : (t : Bool) (x y : Time) → Small x → Small y → Small (cond t x y)
small-either true x y p q = p
small-either false x y p q = q

clock-small : (barred : Bool) (p : List ℕ) → length p ≡ 5 → Small (clock barred p)
clock-small barred p e =
    let n : number p < (0 + 1) * 10 ^ 5 = rw e at (number_lt 0 p) in
    small-either (digits p) _ NoTime
    (by-leb (λ t. Small (cond t (Stated (number p / 100 * 60 + number p % 100) barred) NoTime)) (number p % 100) 59 (λ h. omega (arith, n)) (λ h. omega arith))
    (omega arith)

drop-one : (p : List ℕ) (n : ℕ) → length p ≡ suc n → length (drop 1 p) ≡ n
drop-one [] n e = absurd (omega arith)
drop-one (b ∷ p) n e = omega arith

time-small : (p : List ℕ) → Small (time p)
unfolding time_in
time-small p =
    let q = pad_to 6 p in
    let e = drop-one q 5 (length-pad 6 p) in
    small-either (blank q) Absent _ (omega arith)
    (small-either (is_blank (get_or q 0 32)) (clock false (drop 1 q)) _ (clock-small false (drop 1 q) e)
    (small-either (eqb (get_or q 0 32) 45) (clock true (drop 1 q)) NoTime (clock-small true (drop 1 q) e) (omega arith)))

pub stated-le : (p : List ℕ) (m : ℕ) (barred : Bool) → time p ≡ Stated m barred → m ≤ 999 * 60 + 59
stated-le p m barred e =
    let q : minutes (time p) ≡ m = ap minutes e in
    rw q at (time-small p)
