use Rattle.index.proofs.Records.{records}
use Rattle.index.proofs.service_record.Goals as goal

pub bounds-w-6 : goal.bounds-w-6
bounds-w-6 c = search records

pub returns-then-w-i : goal.returns-then-w-i
returns-then-w-i c = search records

pub returns : goal.returns
returns c = search records
