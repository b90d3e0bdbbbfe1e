use Rattle.chain_check.proofs.Needs.{ats}
use Rattle.chain_check.proofs.bucket_at.Goals as goal

pub wide-requires : goal.wide-requires
wide-requires c = search ats

pub overflow_mul-size : goal.overflow_mul-size
overflow_mul-size c = search ats

pub overflow_sub-end : goal.overflow_sub-end
overflow_sub-end c = search ats

pub offset_bounds-w-end : goal.offset_bounds-w-end
offset_bounds-w-end c = search ats

pub bounds-w-end : goal.bounds-w-end
bounds-w-end c = search ats

pub bucket-requires : goal.bucket-requires
bucket-requires c = search ats

pub returns : goal.returns
returns c = search ats
