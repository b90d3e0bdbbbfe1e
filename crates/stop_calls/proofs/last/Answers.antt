use Rattle.stop_calls.proofs.Needs.{ends}
use Rattle.stop_calls.proofs.last.Goals as goal

pub overflow_sub-n : goal.overflow_sub-n
overflow_sub-n c = search ends

pub wide-requires : goal.wide-requires
wide-requires c = search ends

pub offset_bounds-y-wide : goal.offset_bounds-y-wide
offset_bounds-y-wide c = search ends

pub bounds-y-wide : goal.bounds-y-wide
bounds-y-wide c = search ends

pub wide-requires-2 : goal.wide-requires-2
wide-requires-2 c = search ends

pub entries-requires : goal.entries-requires
entries-requires c = search ends

pub returns-then-wide-entries : goal.returns-then-wide-entries
returns-then-wide-entries c = search ends

pub returns : goal.returns
returns c = search ends
