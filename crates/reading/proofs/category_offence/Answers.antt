use Rattle.reading.proofs.Own.{own}
use Rattle.reading.proofs.category_offence.Goals as goal

pub category_listed-requires : goal.category_listed-requires
category_listed-requires c = search own

pub returns-then-category_listed : goal.returns-then-category_listed
returns-then-category_listed c = search own

pub offends-requires : goal.offends-requires
offends-requires c = search own

pub returns : goal.returns
returns c = search own
