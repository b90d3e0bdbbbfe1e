use Rattle.told.proofs.Marked.{ranged}
use Rattle.told.proofs.category_told.Goals as goal

pub category_in-range-requires : goal.category_in-range-requires
category_in-range-requires c = search ranged

pub category_fits-requires : goal.category_fits-requires
category_fits-requires c = search ranged

pub returns-then-category_fits : goal.returns-then-category_fits
returns-then-category_fits c = search ranged

pub broken_column-requires : goal.broken_column-requires
broken_column-requires c = search ranged

pub returns : goal.returns
returns c = search ranged
