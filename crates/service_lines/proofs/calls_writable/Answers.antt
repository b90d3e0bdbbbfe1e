use native.Mathlib.Nat.{sub-zero}
use native.Mathlib.Omega.{arith}
use Rattle.service_lines.proofs.Calls.{calls}
use Rattle.service_lines.proofs.calls_writable.Goals as goal

pub bounds-s-6 : goal.bounds-s-6
bounds-s-6 c = search calls

pub loop-init : goal.loop-init
loop-init c = rw sub-zero (search calls)

pub call_writable-requires : goal.call_writable-requires
call_writable-requires c = search calls

pub returns-then-not-call_writable : goal.returns-then-not-call_writable
returns-then-not-call_writable c = search calls

pub overflow_add-p : goal.overflow_add-p
overflow_add-p c = search calls

pub loop-preserved : goal.loop-preserved
loop-preserved c = (omega arith, search calls, search calls)

pub returns : goal.returns
returns c = search calls

pub call_shown-requires-clause-s_value : goal.call_shown-requires-clause-s_value
call_shown-requires-clause-s_value c = search calls
