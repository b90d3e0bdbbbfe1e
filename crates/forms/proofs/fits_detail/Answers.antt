use Rattle.forms.proofs.Rules.{rules}
use Rattle.forms.proofs.fits_detail.Goals as goal

pub overflow_add-c : goal.overflow_add-c
overflow_add-c c = search rules

pub overflow_cast-c-2 : goal.overflow_cast-c-2
overflow_cast-c-2 c = search rules

pub range_end_in-requires : goal.range_end_in-requires
range_end_in-requires c = search rules

pub is_stop-requires : goal.is_stop-requires
is_stop-requires c = search rules

pub detail_in-requires : goal.detail_in-requires
detail_in-requires c = search rules

pub is_detail-requires : goal.is_detail-requires
is_detail-requires c = search rules

pub returns-then-is_stop : goal.returns-then-is_stop
returns-then-is_stop c = search rules

pub returns : goal.returns
returns c = search rules
