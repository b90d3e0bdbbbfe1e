use Rattle.board_runs.proofs.Quiet.{quiets}
use Rattle.board_runs.proofs.is_quiet.Goals as goal

pub wide-requires : goal.wide-requires
wide-requires c = search quiets

pub overflow_add-place : goal.overflow_add-place
overflow_add-place c = search quiets

pub returns-then-x-place : goal.returns-then-x-place
returns-then-x-place c = search quiets

pub offset_bounds-x-place : goal.offset_bounds-x-place
offset_bounds-x-place c = search quiets

pub bounds-x-place : goal.bounds-x-place
bounds-x-place c = search quiets

pub wide-at-requires : goal.wide-at-requires
wide-at-requires c = search quiets

pub call_end-end-requires : goal.call_end-end-requires
call_end-end-requires c = search quiets

pub returns-then-w-end : goal.returns-then-w-end
returns-then-w-end c = search quiets

pub overflow_sub-end : goal.overflow_sub-end
overflow_sub-end c = search quiets

pub offset_bounds-w-end : goal.offset_bounds-w-end
offset_bounds-w-end c = search quiets

pub bounds-w-end : goal.bounds-w-end
bounds-w-end c = search quiets

pub overflow_add-at : goal.overflow_add-at
overflow_add-at c = search quiets

pub offset_bounds-w-at : goal.offset_bounds-w-at
offset_bounds-w-at c = search quiets

pub bounds-w-at : goal.bounds-w-at
bounds-w-at c = search quiets

pub is_outside-requires : goal.is_outside-requires
is_outside-requires c = search quiets

pub returns : goal.returns
returns c = search quiets
