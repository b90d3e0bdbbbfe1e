use Rattle.base.proofs.Laws.{tests}
use Rattle.load.proofs.Helper.{needed-counted}
use Rattle.load.proofs.helper_needed.Goals as goal

pub lines_in-fields-requires : goal.lines_in-fields-requires
lines_in-fields-requires c = search tests

pub overflow_cast-fields : goal.overflow_cast-fields
overflow_cast-fields c = search tests

pub lines_in-stops-requires : goal.lines_in-stops-requires
lines_in-stops-requires c = search tests

pub overflow_cast-stops : goal.overflow_cast-stops
overflow_cast-stops c = search tests

pub lines_in-interchanges-requires : goal.lines_in-interchanges-requires
lines_in-interchanges-requires c = search tests

pub overflow_cast-interchanges : goal.overflow_cast-interchanges
overflow_cast-interchanges c = search tests

pub overflow_mul-result : goal.overflow_mul-result
overflow_mul-result c = search tests

pub overflow_mul-result-2 : goal.overflow_mul-result-2
overflow_mul-result-2 c = search tests

pub overflow_add-result : goal.overflow_add-result
overflow_add-result c = search tests

pub overflow_add-result-2 : goal.overflow_add-result-2
overflow_add-result-2 c = search tests

pub overflow_mul-result-3 : goal.overflow_mul-result-3
overflow_mul-result-3 c = search tests

pub overflow_add-result-3 : goal.overflow_add-result-3
overflow_add-result-3 c = search tests

pub returns : goal.returns
returns c = search needed-counted
