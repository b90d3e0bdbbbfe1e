use native.Mathlib.Omega.{arith}
use Rattle.plan_writing.proofs.Services.{service, record-length, record-written}
use Rattle.plan_writing.proofs.put_service.Goals as goal

pub overflow_add-q : goal.overflow_add-q
overflow_add-q c = search service

pub shape_of-text : goal.shape_of-text
shape_of-text c = search service

pub put_ranges-calls-requires-clause-s_value : goal.put_ranges-calls-requires-clause-s_value
put_ranges-calls-requires-clause-s_value c = search service

pub put_ranges-days-requires-clause-s_value : goal.put_ranges-days-requires-clause-s_value
put_ranges-days-requires-clause-s_value c = search service

pub put_ranges-extras-requires-clause-s_value : goal.put_ranges-extras-requires-clause-s_value
put_ranges-extras-requires-clause-s_value c = search service

pub put_first-requires-clause-service_head_in_bounds : goal.put_first-requires-clause-service_head_in_bounds
put_first-requires-clause-service_head_in_bounds c = search service

pub put_first-requires-clause-q_in_bounds : goal.put_first-requires-clause-q_in_bounds
put_first-requires-clause-q_in_bounds c = omega (arith, record-length c.args.w.now c.args.s.now)

pub put_ranges-days-requires-clause-s_in_bounds : goal.put_ranges-days-requires-clause-s_in_bounds
put_ranges-days-requires-clause-s_in_bounds c = omega (arith, record-length c.args.w.now c.args.s.now, c.put_first.auto.text)

pub put_ranges-extras-requires-clause-s_in_bounds : goal.put_ranges-extras-requires-clause-s_in_bounds
put_ranges-extras-requires-clause-s_in_bounds c = omega (arith, record-length c.args.w.now c.args.s.now, c.put_first.auto.text, c.put_ranges-days.auto.text, c.put_ranges-days.ensures.end)

pub put_ranges-calls-requires-clause-s_in_bounds : goal.put_ranges-calls-requires-clause-s_in_bounds
put_ranges-calls-requires-clause-s_in_bounds c =
    omega (arith, record-length c.args.w.now c.args.s.now, c.put_first.auto.text, c.put_ranges-days.auto.text, c.put_ranges-days.ensures.end, c.put_ranges-extras.auto.text, c.put_ranges-extras.ensures.end)

pub put_calls-requires-clause-s_in_bounds : goal.put_calls-requires-clause-s_in_bounds
put_calls-requires-clause-s_in_bounds c =
    omega (arith, record-length c.args.w.now c.args.s.now, c.put_first.auto.text, c.put_ranges-days.auto.text, c.put_ranges-days.ensures.end, c.put_ranges-extras.auto.text, c.put_ranges-extras.ensures.end, c.put_ranges-calls.auto.text, c.put_ranges-calls.ensures.end)

pub returns-clause-end : goal.returns-clause-end
returns-clause-end c =
    omega (arith, record-length c.args.w.now c.args.s.now, c.put_ranges-days.ensures.end, c.put_ranges-extras.ensures.end, c.put_ranges-calls.ensures.end, c.put_calls.ensures.end)

pub returns-clause-bytes : goal.returns-clause-bytes
returns-clause-bytes c =
    record-written c.args.w.now c.args.s.now c.args.text.now c.put_first.new.text c.put_ranges-days.new.text c.put_ranges-extras.new.text c.put_ranges-calls.new.text c.put_calls.new.text c.args.q c.put_ranges-days.result c.put_ranges-extras.result c.put_ranges-calls.result c.requires.s_in_bounds
    c.put_first.ensures c.put_ranges-days.ensures.end c.put_ranges-days.ensures.bytes c.put_ranges-extras.ensures.end c.put_ranges-extras.ensures.bytes c.put_ranges-calls.ensures.end c.put_ranges-calls.ensures.bytes c.put_calls.ensures.bytes
