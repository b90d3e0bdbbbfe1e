use native.Mathlib.Omega.{arith}
use Rattle.calls_check.proofs.Needs.{totals}
use Rattle.calls_check.proofs.total.Goals as goal

pub bounds-w-4 : goal.bounds-w-4
bounds-w-4 c = search totals

pub loop-b-init : goal.loop-b-init
loop-b-init c = (omega arith, omega arith, search totals)

pub loop-b-preserved : goal.loop-b-preserved
loop-b-preserved c = (omega arith, search totals, search totals)

pub returns : goal.returns
returns c = search totals
