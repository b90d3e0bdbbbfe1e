use Rattle.day_sets.proofs.Asked.{alone}
use Rattle.day_sets.proofs.complement.Goals as goal

pub field_in-requires : goal.field_in-requires
field_in-requires c = search alone

pub other_days-requires : goal.other_days-requires
other_days-requires c = search alone

pub returns-then-not-is_field : goal.returns-then-not-is_field
returns-then-not-is_field c = search alone

pub returns-then-res-ne-BIT_WORDS : goal.returns-then-res-ne-BIT_WORDS
returns-then-res-ne-BIT_WORDS c = search alone

pub returns : goal.returns
returns c = search alone
