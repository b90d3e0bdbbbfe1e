use Rattle.board_runs.proofs.Goes.{along}
use Rattle.board_runs.proofs.goes_along.Goals as goal

pub returns-then-p-start : goal.returns-then-p-start
returns-then-p-start c = search along

pub returns-then-end-p : goal.returns-then-end-p
returns-then-end-p c = search along

pub bounds-s-6 : goal.bounds-s-6
bounds-s-6 c = search along

pub overflow_sub-s : goal.overflow_sub-s
overflow_sub-s c = search along

pub returns-then-again-s : goal.returns-then-again-s
returns-then-again-s c = search along

pub ranges_follow-requires : goal.ranges_follow-requires
ranges_follow-requires c = search along

pub overflow_sub-end : goal.overflow_sub-end
overflow_sub-end c = search along

pub stands-requires : goal.stands-requires
stands-requires c = search along

pub returns-then-not-ranges_follow : goal.returns-then-not-ranges_follow
returns-then-not-ranges_follow c = search along

pub call_stands-requires : goal.call_stands-requires
call_stands-requires c = search along

pub returns-then-steady : goal.returns-then-steady
returns-then-steady c = search along

pub overflow_sub-end-2 : goal.overflow_sub-end-2
overflow_sub-end-2 c = search along

pub stands-requires-2 : goal.stands-requires-2
stands-requires-2 c = search along

pub returns : goal.returns
returns c = search along
