use Rattle.day_sets.proofs.Asked.{answers}
use Rattle.day_sets.proofs.combine.Goals as goal

pub field_in-requires : goal.field_in-requires
field_in-requires c = search answers

pub field_in-requires-2 : goal.field_in-requires-2
field_in-requires-2 c = search answers

pub combined-requires : goal.combined-requires
combined-requires c = search answers

pub returns-then-not-is_field : goal.returns-then-not-is_field
returns-then-not-is_field c = search answers

pub returns-then-not-is_field-2 : goal.returns-then-not-is_field-2
returns-then-not-is_field-2 c = search answers

pub returns-then-res-ne-BIT_WORDS : goal.returns-then-res-ne-BIT_WORDS
returns-then-res-ne-BIT_WORDS c = search answers

pub returns : goal.returns
returns c = search answers
