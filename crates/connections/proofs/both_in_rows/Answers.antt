use Rattle.connections.proofs.Stages.{boths}
use Rattle.connections.proofs.both_in_rows.Goals as goal

pub in_rows-requires : goal.in_rows-requires
in_rows-requires c = search boths

pub returns-then-not-in_rows : goal.returns-then-not-in_rows
returns-then-not-in_rows c = search boths

pub in_rows-requires-2 : goal.in_rows-requires-2
in_rows-requires-2 c = search boths

pub returns : goal.returns
returns c = search boths
