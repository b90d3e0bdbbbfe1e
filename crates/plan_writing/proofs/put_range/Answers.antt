use Rattle.plan_writing.proofs.Lines.{range}
use Rattle.plan_writing.proofs.put_range.Goals as goal

pub enum_told-1 : goal.enum_told-1
enum_told-1 c = search range

pub category_at-r-requires : goal.category_at-r-requires
category_at-r-requires c = search range

pub put_category-requires : goal.put_category-requires
put_category-requires c = search range

pub enum_told-in-Days : goal.enum_told-in-Days
enum_told-in-Days c = search range

pub day_at-r-requires : goal.day_at-r-requires
day_at-r-requires c = search range

pub put_attribute-requires : goal.put_attribute-requires
put_attribute-requires c = search range

pub enum_told-in-Extra : goal.enum_told-in-Extra
enum_told-in-Extra c = search range

pub extra_at-r-requires : goal.extra_at-r-requires
extra_at-r-requires c = search range

pub put_attribute-requires-in-Extra : goal.put_attribute-requires-in-Extra
put_attribute-requires-in-Extra c = search range

pub shape_of-text-in-Category : goal.shape_of-text-in-Category
shape_of-text-in-Category c = search range

pub returns-in-Category : goal.returns-in-Category
returns-in-Category c = search range

pub shape_of-text-in-Days : goal.shape_of-text-in-Days
shape_of-text-in-Days c = search range

pub returns-in-Days : goal.returns-in-Days
returns-in-Days c = search range

pub shape_of-text-in-Extra : goal.shape_of-text-in-Extra
shape_of-text-in-Extra c = search range

pub returns-in-Extra : goal.returns-in-Extra
returns-in-Extra c = search range
