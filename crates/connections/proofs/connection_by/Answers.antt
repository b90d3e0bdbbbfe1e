use Rattle.connections.proofs.Parts.{connections}
use Rattle.connections.proofs.connection_by.Goals as goal

pub whole_parts-requires : goal.whole_parts-requires
whole_parts-requires c = search connections

pub returns-then-not-whole_parts : goal.returns-then-not-whole_parts
returns-then-not-whole_parts c = search connections

pub parts_hold-requires : goal.parts_hold-requires
parts_hold-requires c = search connections

pub returns : goal.returns
returns c = search connections
