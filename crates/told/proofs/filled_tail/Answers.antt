use Rattle.told.proofs.Form.{chains}
use Rattle.told.specs.Inner.Calls.{tail_fits}
use Rattle.told.proofs.filled_tail.Goals as goal

pub blank_at-requires : goal.blank_at-requires
blank_at-requires c = search chains

pub number_fits-requires : goal.number_fits-requires
number_fits-requires c = search chains

pub blank_at-requires-then-number_fits : goal.blank_at-requires-then-number_fits
blank_at-requires-then-number_fits c = search chains

pub administration_fits-requires : goal.administration_fits-requires
administration_fits-requires c = search chains

pub end_fits-requires : goal.end_fits-requires
end_fits-requires c = search chains

pub returns-then-administration_fits : goal.returns-then-administration_fits
unfolding tail_fits
returns-then-administration_fits c = search chains depth 7

pub returns-else-administration_fits : goal.returns-else-administration_fits
unfolding tail_fits
returns-else-administration_fits c = search chains depth 7

pub returns-else-blank_at-2 : goal.returns-else-blank_at-2
unfolding tail_fits
returns-else-blank_at-2 c = search chains depth 7

pub returns-else-number_fits : goal.returns-else-number_fits
unfolding tail_fits
returns-else-number_fits c = search chains depth 7

pub returns-else-blank_at : goal.returns-else-blank_at
unfolding tail_fits
returns-else-blank_at c = search chains depth 7
