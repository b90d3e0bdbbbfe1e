use Rattle.told.specs.Inner.Marked.{details_fit}
use Rattle.told.proofs.Form.{chains}
use Rattle.told.proofs.details_fit.Goals as goal

pub blank_at-requires : goal.blank_at-requires
blank_at-requires c = search chains

pub detail_fits-requires : goal.detail_fits-requires
detail_fits-requires c = search chains

pub overflow_add-c : goal.overflow_add-c
overflow_add-c c = search chains

pub blank_at-requires-then-detail_fits : goal.blank_at-requires-then-detail_fits
blank_at-requires-then-detail_fits c = search chains

pub detail_fits-requires-then-blank_at-2 : goal.detail_fits-requires-then-blank_at-2
detail_fits-requires-then-blank_at-2 c = search chains

pub overflow_add-c-then-detail_fits-2 : goal.overflow_add-c-then-detail_fits-2
overflow_add-c-then-detail_fits-2 c = search chains

pub blank_to_end-requires : goal.blank_to_end-requires
blank_to_end-requires c = search chains

pub returns-then-detail_fits-2 : goal.returns-then-detail_fits-2
unfolding details_fit
returns-then-detail_fits-2 c = search chains depth 7

pub returns-else-detail_fits-2 : goal.returns-else-detail_fits-2
unfolding details_fit
returns-else-detail_fits-2 c = search chains depth 7

pub returns-else-blank_at-2 : goal.returns-else-blank_at-2
unfolding details_fit
returns-else-blank_at-2 c = search chains depth 7

pub returns-else-detail_fits : goal.returns-else-detail_fits
unfolding details_fit
returns-else-detail_fits c = search chains depth 7

pub returns-else-blank_at : goal.returns-else-blank_at
unfolding details_fit
returns-else-blank_at c = search chains depth 7
