use Rattle.course.proofs.rows.Times.{later}
use Rattle.course.proofs.rows.in_order.Goals as goal

pub returns-then-arrival-before : goal.returns-then-arrival-before
returns-then-arrival-before c = search later

pub returns : goal.returns
returns c = search later
