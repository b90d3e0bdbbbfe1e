use Rattle.day_sets.proofs.Asked.{alone}
use Rattle.day_sets.proofs.count.Goals as goal

pub field_in-requires : goal.field_in-requires
field_in-requires c = search alone

pub day_count-requires : goal.day_count-requires
day_count-requires c = search alone

pub returns-then-not-is_field : goal.returns-then-not-is_field
returns-then-not-is_field c = search alone

pub returns : goal.returns
returns c = search alone
