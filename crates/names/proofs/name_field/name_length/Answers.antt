-- `name_field::name_length` meets its contract: only blanks stand behind the loop's place. Assumes nothing.
use Rattle.names.proofs.name_field.Names.{names}
use Rattle.names.proofs.name_field.name_length.Goals as goal

pub part-name-requires : goal.part-name-requires
part-name-requires c = search names

pub loop-k-init : goal.loop-k-init
loop-k-init c = (search names, search names, search names)

pub overflow_sub-k : goal.overflow_sub-k
overflow_sub-k c = search names

pub bounds-name-k : goal.bounds-name-k
bounds-name-k c = search names

pub overflow_cast-result : goal.overflow_cast-result
overflow_cast-result c = search names

pub overflow_sub-k-in-loop-k : goal.overflow_sub-k-in-loop-k
overflow_sub-k-in-loop-k c = search names

pub loop-k-smaller : goal.loop-k-smaller
loop-k-smaller c = search names

pub returns : goal.returns
returns c = search names
