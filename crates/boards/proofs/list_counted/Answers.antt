use Rattle.boards.proofs.Needs.{counted}
use Rattle.boards.proofs.list_counted.Goals as goal

pub count_board-count-requires : goal.count_board-count-requires
count_board-count-requires c = search counted

pub overflow_mul-count : goal.overflow_mul-count
overflow_mul-count c = search counted

pub overflow_mul-result : goal.overflow_mul-result
overflow_mul-result c = search counted

pub returns-then-list-count : goal.returns-then-list-count
returns-then-list-count c = search counted

pub list_all-requires : goal.list_all-requires
list_all-requires c = search counted

pub shape_of-list : goal.shape_of-list
shape_of-list c = search counted

pub returns : goal.returns
returns c = search counted
