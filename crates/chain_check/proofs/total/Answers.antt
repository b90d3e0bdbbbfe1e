use native.Mathlib.Omega.{arith}
use Rattle.chain_check.proofs.Needs.{totals}
use Rattle.chain_check.proofs.total.Goals as goal

pub loop-b-init : goal.loop-b-init
loop-b-init c = (omega arith, search totals, omega arith)

pub chain_count-sum-requires : goal.chain_count-sum-requires
chain_count-sum-requires c = search totals

pub overflow_add-sum : goal.overflow_add-sum
overflow_add-sum c = search totals

pub loop-b-preserved : goal.loop-b-preserved
loop-b-preserved c = (omega arith, search totals, search totals)

pub returns : goal.returns
returns c = search totals
