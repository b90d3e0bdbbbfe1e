use Rattle.board_runs.proofs.Needs.{calls}
use Rattle.board_runs.proofs.call_runs.Goals as goal

pub bounds-s-6 : goal.bounds-s-6
bounds-s-6 c = search calls

pub no_runs-requires : goal.no_runs-requires
no_runs-requires c = search calls

pub returns-then-s-p : goal.returns-then-s-p
returns-then-s-p c = search calls

pub call_of-c-requires : goal.call_of-c-requires
call_of-c-requires c = search calls

pub boards_at-requires : goal.boards_at-requires
boards_at-requires c = search calls

pub no_runs-requires-then-not-boards_at : goal.no_runs-requires-then-not-boards_at
no_runs-requires-then-not-boards_at c = search calls

pub returns-then-not-boards_at : goal.returns-then-not-boards_at
returns-then-not-boards_at c = search calls

pub opening_at-requires : goal.opening_at-requires
opening_at-requires c = search calls

pub span_batch-requires : goal.span_batch-requires
span_batch-requires c = search calls

pub returns : goal.returns
returns c = search calls
