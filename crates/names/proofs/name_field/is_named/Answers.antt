use Rattle.names.proofs.name_field.Fields.{fields}
use Rattle.names.proofs.name_field.is_named.Goals as goal

pub part-name-requires : goal.part-name-requires
part-name-requires c = search fields

pub name_length-size-requires : goal.name_length-size-requires
name_length-size-requires c = search fields

pub overflow_cast-size : goal.overflow_cast-size
overflow_cast-size c = search fields

pub slice_bounds-is_name_list-count : goal.slice_bounds-is_name_list-count
slice_bounds-is_name_list-count c = search fields

pub slice_bounds-is_name_list-start : goal.slice_bounds-is_name_list-start
slice_bounds-is_name_list-start c = search fields

pub slice_bounds-is_name_list-end : goal.slice_bounds-is_name_list-end
slice_bounds-is_name_list-end c = search fields

pub is_name_list-requires : goal.is_name_list-requires
is_name_list-requires c = search fields

pub returns : goal.returns
returns c = search fields
