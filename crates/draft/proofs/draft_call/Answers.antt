use Rattle.draft.proofs.Writing.{call-drafts}
use Rattle.draft.proofs.draft_call.Goals as goal

pub announced_last-before-requires : goal.announced_last-before-requires
announced_last-before-requires c = search call-drafts

pub overflow_cast-counts : goal.overflow_cast-counts
overflow_cast-counts c = search call-drafts

pub overflow_mul-counts : goal.overflow_mul-counts
overflow_mul-counts c = search call-drafts

pub call_by-requires : goal.call_by-requires
call_by-requires c = search call-drafts

pub put_call-requires : goal.put_call-requires
put_call-requires c = search call-drafts

pub overflow_add-k : goal.overflow_add-k
overflow_add-k c = search call-drafts

pub shape_of-calls : goal.shape_of-calls
shape_of-calls c = search call-drafts

pub returns-clause-calls_after : goal.returns-clause-calls_after
returns-clause-calls_after c = search call-drafts
