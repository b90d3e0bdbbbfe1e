use Rattle.calls_at.proofs.Needs.{heads}
use Rattle.calls_at.proofs.last_at.Goals as goal

pub size-requires : goal.size-requires
size-requires c = search heads

pub offset_bounds-x-size : goal.offset_bounds-x-size
offset_bounds-x-size c = search heads

pub bounds-x-size : goal.bounds-x-size
bounds-x-size c = search heads

pub returns : goal.returns
returns c = search heads
