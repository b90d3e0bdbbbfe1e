use Rattle.connections.proofs.Parts.{firsts}
use Rattle.connections.proofs.parts_hold.Goals as goal

pub part_at-requires : goal.part_at-requires
part_at-requires c = search firsts

pub parts_after-requires : goal.parts_after-requires
parts_after-requires c = search firsts

pub returns-in-Err : goal.returns-in-Err
returns-in-Err c = search firsts

pub returns-in-Ok : goal.returns-in-Ok
returns-in-Ok c = search firsts
