use native.Mathlib.Nat.{sub-zero}
use native.Mathlib.Omega.{arith}
use Prim.Native.Nat.{◌+◌, ◌-◌}
use Rattle.plan_writing.proofs.Lines.{calls}
use Rattle.plan_writing.specs.Inner.Record.{calls_text}
use Rattle.words.specs.Words.{write}
use Rattle.timetable.specs.Table.{calls#, table_of}
use Rattle.plan_writing.proofs.Lines.{calls-again}
use Rattle.plan_writing.proofs.put_calls.Goals as goal

pub bounds-s-6 : goal.bounds-s-6
bounds-s-6 c = search calls

pub loop-init : goal.loop-init
loop-init c = rw sub-zero (search calls)

pub put_call-requires : goal.put_call-requires
put_call-requires c = search calls

pub overflow_add-p : goal.overflow_add-p
overflow_add-p c = search calls

pub overflow_add-q : goal.overflow_add-q
overflow_add-q c = search calls

pub shape_of-text : goal.shape_of-text
shape_of-text c = search calls

pub call_shown-requires-clause-s_value : goal.call_shown-requires-clause-s_value
call_shown-requires-clause-s_value c = search calls

pub returns-clause-bytes : goal.returns-clause-bytes
returns-clause-bytes c = search calls

pub loop-preserved : goal.loop-preserved
loop-preserved c = (
  omega arith,
  search calls,
  search calls,
  search calls,
  calls-again c.loop.text c.args.text.now c.loop.q (calls# c.args.s.now - c.loop.counter) c.args.at (calls# c.args.s.now) (omega arith) c.loop.invariant.1 c.requires.s_in_bounds c.loop.invariant.2
      (table_of c.args.w.now).stops c.args.s.now c.put_call.new.t (write c.args.text.now c.args.at (calls_text (table_of c.args.w.now).stops c.args.s.now)) c.loop.p (calls# c.args.s.now - (c.loop.counter + 1)) c.call_shown.result (omega arith) c.call_shown.ensures c.put_call.ensures c.loop.invariant.4,
)
