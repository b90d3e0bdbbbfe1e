use Rattle.index.proofs.Records.{places}
use Rattle.index.proofs.record_place.Goals as goal

pub returns-then-x-eq0 : goal.returns-then-x-eq0
returns-then-x-eq0 c = search places

pub returns : goal.returns
returns c = search places
