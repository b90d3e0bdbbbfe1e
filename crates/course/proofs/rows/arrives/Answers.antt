use Rattle.course.proofs.rows.Times.{later}
use Rattle.course.proofs.rows.arrives.Goals as goal

pub has_arrival-requires : goal.has_arrival-requires
has_arrival-requires c = search later

pub time_fine-requires : goal.time_fine-requires
time_fine-requires c = search later

pub returns : goal.returns
returns c = search later
