use Rattle.stops_numbered.proofs.Needs.{outer}
use Rattle.stops_numbered.proofs.next_stop.Goals as goal

pub stop_section-s-requires : goal.stop_section-s-requires
stop_section-s-requires c = search outer

pub next-requires : goal.next-requires
next-requires c = search outer

pub returns : goal.returns
returns c = search outer
