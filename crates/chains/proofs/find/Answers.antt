use Rattle.chains.proofs.Follow.{starts}
use Rattle.chains.proofs.find.Goals as goal

pub returns-then-n-eq0 : goal.returns-then-n-eq0
returns-then-n-eq0 c = search starts

pub bucket-requires : goal.bucket-requires
bucket-requires c = search starts

pub overflow_mul-bucket : goal.overflow_mul-bucket
overflow_mul-bucket c = search starts

pub overflow_add-from : goal.overflow_add-from
overflow_add-from c = search starts

pub offset_bounds-x-from : goal.offset_bounds-x-from
offset_bounds-x-from c = search starts

pub bounds-x-from : goal.bounds-x-from
bounds-x-from c = search starts

pub along-requires : goal.along-requires
along-requires c = search starts

pub returns : goal.returns
returns c = search starts
