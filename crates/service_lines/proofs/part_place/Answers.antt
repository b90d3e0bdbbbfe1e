use Rattle.service_lines.proofs.Parts.{parts}
use Rattle.service_lines.proofs.part_place.Goals as goal

pub enum_told-1 : goal.enum_told-1
enum_told-1 c = search parts

pub category_place-requires : goal.category_place-requires
category_place-requires c = search parts

pub enum_told-in-Days : goal.enum_told-in-Days
enum_told-in-Days c = search parts

pub day_place-requires : goal.day_place-requires
day_place-requires c = search parts

pub enum_told-in-Extra : goal.enum_told-in-Extra
enum_told-in-Extra c = search parts

pub extra_place-requires : goal.extra_place-requires
extra_place-requires c = search parts

pub returns-in-Category : goal.returns-in-Category
returns-in-Category c = search parts

pub returns-in-Days : goal.returns-in-Days
returns-in-Days c = search parts

pub returns-in-Extra : goal.returns-in-Extra
returns-in-Extra c = search parts
