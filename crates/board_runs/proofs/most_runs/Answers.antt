use Rattle.board_runs.proofs.Quiet.{mosts}
use Rattle.board_runs.proofs.most_runs.Goals as goal

pub is_quiet-requires : goal.is_quiet-requires
is_quiet-requires c = search mosts

pub returns-then-is_quiet : goal.returns-then-is_quiet
returns-then-is_quiet c = search mosts

pub wide-requires : goal.wide-requires
wide-requires c = search mosts

pub overflow_add-places : goal.overflow_add-places
overflow_add-places c = search mosts

pub offset_bounds-x-places : goal.offset_bounds-x-places
offset_bounds-x-places c = search mosts

pub bounds-x-places : goal.bounds-x-places
bounds-x-places c = search mosts

pub wide-at-requires : goal.wide-at-requires
wide-at-requires c = search mosts

pub words_from-requires : goal.words_from-requires
words_from-requires c = search mosts

pub most_from-requires : goal.most_from-requires
most_from-requires c = search mosts

pub returns : goal.returns
returns c = search mosts
