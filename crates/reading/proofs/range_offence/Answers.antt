use Rattle.reading.proofs.Own.{own}
use Rattle.reading.proofs.range_offence.Goals as goal

pub full-requires : goal.full-requires
full-requires c = search own

pub offends-requires : goal.offends-requires
offends-requires c = search own

pub returns-then-full : goal.returns-then-full
returns-then-full c = search own

pub field_known-requires : goal.field_known-requires
field_known-requires c = search own

pub category_offence-requires : goal.category_offence-requires
category_offence-requires c = search own

pub returns-then-field_known : goal.returns-then-field_known
returns-then-field_known c = search own

pub offends-requires-2 : goal.offends-requires-2
offends-requires-2 c = search own

pub returns : goal.returns
returns c = search own
