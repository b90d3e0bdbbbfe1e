use Rattle.course.proofs.rows.Written.{row}
use Rattle.course.proofs.rows.leaving.Goals as goal

pub returns-then-last : goal.returns-then-last
returns-then-last c = search row

pub category_on-requires : goal.category_on-requires
category_on-requires c = search row

pub returns : goal.returns
returns c = search row
