use Rattle.index_check.proofs.Whole.{wholes}
use Rattle.index_check.proofs.is_index.Goals as goal

pub index_size-n-requires : goal.index_size-n-requires
index_size-n-requires c = search wholes

pub returns-then-x-n : goal.returns-then-x-n
returns-then-x-n c = search wholes

pub slice_bounds-are_lookups-count : goal.slice_bounds-are_lookups-count
slice_bounds-are_lookups-count c = search wholes

pub slice_bounds-are_lookups-start : goal.slice_bounds-are_lookups-start
slice_bounds-are_lookups-start c = search wholes

pub slice_bounds-are_lookups-end : goal.slice_bounds-are_lookups-end
slice_bounds-are_lookups-end c = search wholes

pub are_lookups-requires : goal.are_lookups-requires
are_lookups-requires c = search wholes

pub returns-then-not-are_lookups : goal.returns-then-not-are_lookups
returns-then-not-are_lookups c = search wholes

pub offset_bounds-x-n : goal.offset_bounds-x-n
offset_bounds-x-n c = search wholes

pub slice_bounds-are_marked-count : goal.slice_bounds-are_marked-count
slice_bounds-are_marked-count c = search wholes

pub slice_bounds-are_marked-start : goal.slice_bounds-are_marked-start
slice_bounds-are_marked-start c = search wholes

pub slice_bounds-are_marked-end : goal.slice_bounds-are_marked-end
slice_bounds-are_marked-end c = search wholes

pub are_marked-requires : goal.are_marked-requires
are_marked-requires c = search wholes

pub returns : goal.returns
returns c = search wholes
