use native.Mathlib.Omega.{arith}
use lib.ListN.{length-set}
use Rattle.chains.proofs.Fills.{puts}
use Rattle.chains.proofs.put.Goals as goal

pub wide-i-requires : goal.wide-i-requires
wide-i-requires c = search puts

pub overflow_add-i : goal.overflow_add-i
overflow_add-i c = search puts

pub overflow_mul-size : goal.overflow_mul-size
overflow_mul-size c = search puts

pub overflow_sub-end : goal.overflow_sub-end
overflow_sub-end c = search puts

pub offset_bounds-w-end : goal.offset_bounds-w-end
offset_bounds-w-end c = search puts

pub bounds-w-end : goal.bounds-w-end
bounds-w-end c = search puts

pub bucket-b-requires : goal.bucket-b-requires
bucket-b-requires c = search puts

pub overflow_mul-before : goal.overflow_mul-before
overflow_mul-before c = search puts

pub offset_bounds-m-b : goal.offset_bounds-m-b
offset_bounds-m-b c = search puts

pub bounds-m-b : goal.bounds-m-b
bounds-m-b c = search puts

pub overflow_mul-m : goal.overflow_mul-m
overflow_mul-m c = search puts

pub overflow_add-m : goal.overflow_add-m
overflow_add-m c = search puts

pub offset_bounds-m-i : goal.offset_bounds-m-i
offset_bounds-m-i c = search puts

pub bounds-m-i : goal.bounds-m-i
bounds-m-i c = search puts

pub overflow_add-m-2 : goal.overflow_add-m-2
overflow_add-m-2 c = search puts

pub overflow_mul-m-2 : goal.overflow_mul-m-2
overflow_mul-m-2 c = search puts

pub offset_bounds-m-b-2 : goal.offset_bounds-m-b-2
offset_bounds-m-b-2 c = search puts

pub bounds-m-b-2 : goal.bounds-m-b-2
bounds-m-b-2 c = simp length-set (omega arith)

pub shape_of-m : goal.shape_of-m
shape_of-m c = search puts

pub returns : goal.returns
returns c = search puts
