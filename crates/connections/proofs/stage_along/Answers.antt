use Rattle.connections.proofs.Along.{alongs}
use Rattle.connections.proofs.stage_along.Goals as goal

pub both_in_rows-requires : goal.both_in_rows-requires
both_in_rows-requires c = search alongs

pub returns-then-not-both_in_rows : goal.returns-then-not-both_in_rows
returns-then-not-both_in_rows c = search alongs

pub stage_ridden-requires : goal.stage_ridden-requires
stage_ridden-requires c = search alongs

pub returns : goal.returns
returns c = search alongs
