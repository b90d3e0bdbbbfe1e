use Rattle.fields.proofs.Laws.{hashes}
use Rattle.fields.proofs.hash_of.Goals as goal

pub returns-then-b-eq35 : goal.returns-then-b-eq35
returns-then-b-eq35 c = search hashes

pub returns-then-b-ne32 : goal.returns-then-b-ne32
returns-then-b-ne32 c = search hashes

pub loop-i-preserved : goal.loop-i-preserved
loop-i-preserved c = search hashes

pub returns : goal.returns
returns c = search hashes
