use Rattle.reading.proofs.Again.{again-said, again-passed}
use Rattle.reading.proofs.draft_again.Goals as goal

pub enum_told-1 : goal.enum_told-1
enum_told-1 c = search again-said

pub call_in-requires : goal.call_in-requires
call_in-requires c = search again-said

pub shape_of-calls-in-Schedule : goal.shape_of-calls-in-Schedule
shape_of-calls-in-Schedule c = search again-said

pub enum_told-in-Category : goal.enum_told-in-Category
enum_told-in-Category c = search again-said

pub category_in-requires : goal.category_in-requires
category_in-requires c = search again-said

pub shape_of-ranges-in-Category : goal.shape_of-ranges-in-Category
shape_of-ranges-in-Category c = search again-said

pub enum_told-in-Attribute : goal.enum_told-in-Attribute
enum_told-in-Attribute c = search again-said

pub attribute_in-requires : goal.attribute_in-requires
attribute_in-requires c = search again-said

pub shape_of-ranges : goal.shape_of-ranges
shape_of-ranges c = search again-said

pub returns-in-Schedule-clause-value : goal.returns-in-Schedule-clause-value
returns-in-Schedule-clause-value c = search again-said

pub returns-in-Schedule-clause-calls_after : goal.returns-in-Schedule-clause-calls_after
returns-in-Schedule-clause-calls_after c = search again-said

pub draft_range-requires : goal.draft_range-requires
draft_range-requires c = search again-said

pub draft_call-requires-clause-within : goal.draft_call-requires-clause-within
draft_call-requires-clause-within c = search again-said

pub draft_range-requires-2 : goal.draft_range-requires-2
draft_range-requires-2 c = search again-said

pub returns : goal.returns
returns c = search again-said

pub returns-in-Schedule-clause-ranges_after : goal.returns-in-Schedule-clause-ranges_after
returns-in-Schedule-clause-ranges_after c = search again-said

pub returns-in-Category : goal.returns-in-Category
returns-in-Category c = search again-said

pub returns-in_default-kind-2-clause-value : goal.returns-in_default-kind-2-clause-value
returns-in_default-kind-2-clause-value c = search again-passed

pub returns-in_default-kind-2-clause-calls_after : goal.returns-in_default-kind-2-clause-calls_after
returns-in_default-kind-2-clause-calls_after c = search again-passed

pub returns-in_default-kind-2-clause-ranges_after : goal.returns-in_default-kind-2-clause-ranges_after
returns-in_default-kind-2-clause-ranges_after c = search again-passed
