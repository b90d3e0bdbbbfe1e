use Rattle.board_runs.proofs.Goes.{services}
use Rattle.board_runs.proofs.runs_at.Goals as goal

pub wide-requires : goal.wide-requires
wide-requires c = search services

pub overflow_add-place : goal.overflow_add-place
overflow_add-place c = search services

pub no_runs-requires : goal.no_runs-requires
no_runs-requires c = search services

pub returns-then-x-place : goal.returns-then-x-place
returns-then-x-place c = search services

pub offset_bounds-x-place : goal.offset_bounds-x-place
offset_bounds-x-place c = search services

pub bounds-x-place : goal.bounds-x-place
bounds-x-place c = search services

pub wide-at-requires : goal.wide-at-requires
wide-at-requires c = search services

pub no_runs-requires-then-w-at : goal.no_runs-requires-then-w-at
no_runs-requires-then-w-at c = search services

pub returns-then-w-at : goal.returns-then-w-at
returns-then-w-at c = search services

pub words_from-requires : goal.words_from-requires
words_from-requires c = search services

pub record_runs-requires : goal.record_runs-requires
record_runs-requires c = search services

pub returns : goal.returns
returns c = search services
