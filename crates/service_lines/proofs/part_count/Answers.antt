use Rattle.service_lines.proofs.Parts.{parts}
use Rattle.service_lines.proofs.part_count.Goals as goal

pub enum_told-1 : goal.enum_told-1
enum_told-1 c = search parts

pub bounds-s-7 : goal.bounds-s-7
bounds-s-7 c = search parts

pub enum_told-in-Days : goal.enum_told-in-Days
enum_told-in-Days c = search parts

pub bounds-s-8 : goal.bounds-s-8
bounds-s-8 c = search parts

pub enum_told-in-Extra : goal.enum_told-in-Extra
enum_told-in-Extra c = search parts

pub bounds-s-9 : goal.bounds-s-9
bounds-s-9 c = search parts

pub returns-in-Category : goal.returns-in-Category
returns-in-Category c = search parts

pub returns-in-Days : goal.returns-in-Days
returns-in-Days c = search parts

pub returns-in-Extra : goal.returns-in-Extra
returns-in-Extra c = search parts
