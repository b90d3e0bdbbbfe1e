use native.Mathlib.Omega.{arith}
use lib.ListN.{length-set}
use Rattle.calls_at.proofs.Needs.{pairs}
use Rattle.calls_at.proofs.put_pair.Goals as goal

pub offset_bounds-list-to : goal.offset_bounds-list-to
offset_bounds-list-to c = search pairs

pub bounds-list-to : goal.bounds-list-to
bounds-list-to c = search pairs

pub overflow_add-list : goal.overflow_add-list
overflow_add-list c = search pairs

pub offset_bounds-list-to-2 : goal.offset_bounds-list-to-2
offset_bounds-list-to-2 c = search pairs

pub bounds-list-to-2 : goal.bounds-list-to-2
bounds-list-to-2 c = simp length-set (omega arith)

pub shape_of-list : goal.shape_of-list
shape_of-list c = search pairs

pub returns : goal.returns
returns c = search pairs
