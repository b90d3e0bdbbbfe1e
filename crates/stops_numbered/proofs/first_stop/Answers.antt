use Rattle.stops_numbered.proofs.Needs.{outer}
use Rattle.stops_numbered.proofs.first_stop.Goals as goal

pub stop_section-s-requires : goal.stop_section-s-requires
stop_section-s-requires c = search outer

pub first-requires : goal.first-requires
first-requires c = search outer

pub returns : goal.returns
returns c = search outer
