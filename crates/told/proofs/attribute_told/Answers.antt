use Rattle.told.proofs.Marked.{ranged}
use Rattle.told.proofs.attribute_told.Goals as goal

pub attribute_in-range-requires : goal.attribute_in-range-requires
attribute_in-range-requires c = search ranged

pub attribute_fits-requires : goal.attribute_fits-requires
attribute_fits-requires c = search ranged

pub returns-then-attribute_fits : goal.returns-then-attribute_fits
returns-then-attribute_fits c = search ranged

pub broken_column-requires : goal.broken_column-requires
broken_column-requires c = search ranged

pub returns : goal.returns
returns c = search ranged
