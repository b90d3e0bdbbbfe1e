use mathlib.Core.Path.{◌≡◌, refl}
use mathlib.Core.Bool.{Bool, true, false, cond, not, beq}
use mathlib.Core.List.{map}
use Prim.Native.Nat.{ℕ, ◌+◌, ◌-◌, ◌<◌}
use Rattle.base.specs.Lists.{upto}
use Rattle.course.specs.Inner.Run.{gap}
use Rattle.course.proofs.legs.Legs.{gap-again, gap-out, legs}
use Rattle.course.proofs.legs.next_leg.Goals as goal

-- a leg is as it is looked for (on) exactly where `gap` stops
as-looked : (y on : Bool) → beq y on ≡ cond on y (not y)
as-looked true true = refl
as-looked true false = refl
as-looked false true = refl
as-looked false false = refl

module _ (f : ℕ → Bool) (on : Bool) (n i r : ℕ) (h : i < n) (y : Bool) (e : y ≡ f i) (v : i + gap on (map f (upto (n - i) i)) ≡ r) where
  next-again : beq y on ≡ false → i + 1 + gap on (map f (upto (n - (i + 1)) (i + 1))) ≡ r
  next-again = gap-again f on n i r h y (beq y on) e (as-looked y on) v

  next-out : beq y on ≡ true → i ≡ r
  next-out = gap-out f on n i r h y (beq y on) e (as-looked y on) v

pub loop-leg-init : goal.loop-leg-init
loop-leg-init c = search legs

pub leg_runs-requires : goal.leg_runs-requires
leg_runs-requires c = search legs

pub returns-then-leg_runs-on : goal.returns-then-leg_runs-on
returns-then-leg_runs-on c = search (legs, next-out)

pub overflow_add-leg : goal.overflow_add-leg
overflow_add-leg c = search legs

pub loop-leg-smaller : goal.loop-leg-smaller
loop-leg-smaller c = search legs

pub loop-leg-preserved : goal.loop-leg-preserved
loop-leg-preserved c = search (legs, next-again)

pub returns : goal.returns
returns c = search legs
