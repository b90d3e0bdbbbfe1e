use Rattle.told.specs.Inner.Marked.{detail_fits}
use Rattle.told.proofs.Marked.{details}
use Rattle.told.proofs.detail_fits.Goals as goal

pub is_stop-requires : goal.is_stop-requires
is_stop-requires c = search details

pub is_detail-requires : goal.is_detail-requires
is_detail-requires c = search details

pub returns-then-is_stop : goal.returns-then-is_stop
unfolding detail_fits
returns-then-is_stop c = search details

pub returns : goal.returns
unfolding detail_fits
returns c = search details
