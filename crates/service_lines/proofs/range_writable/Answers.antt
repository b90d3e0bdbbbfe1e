use Rattle.service_lines.proofs.Parts.{range}
use Rattle.service_lines.proofs.range_writable.Goals as goal

pub enum_told-1 : goal.enum_told-1
enum_told-1 c = search range

pub category_at-range-requires : goal.category_at-range-requires
category_at-range-requires c = search range

pub name_writable-requires : goal.name_writable-requires
name_writable-requires c = search range

pub enum_told-in-Days : goal.enum_told-in-Days
enum_told-in-Days c = search range

pub day_at-range-requires : goal.day_at-range-requires
day_at-range-requires c = search range

pub field_writable-requires : goal.field_writable-requires
field_writable-requires c = search range

pub enum_told-in-Extra : goal.enum_told-in-Extra
enum_told-in-Extra c = search range

pub extra_at-range-requires : goal.extra_at-range-requires
extra_at-range-requires c = search range

pub extra_writable-requires : goal.extra_writable-requires
extra_writable-requires c = search range

pub returns-in-Category : goal.returns-in-Category
returns-in-Category c = search range

pub returns-in-Days : goal.returns-in-Days
returns-in-Days c = search range

pub returns-in-Extra : goal.returns-in-Extra
returns-in-Extra c = search range
