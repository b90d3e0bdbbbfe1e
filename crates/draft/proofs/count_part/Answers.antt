use Rattle.draft.proofs.Writing.{parts}
use Rattle.draft.proofs.count_part.Goals as goal

pub enum_told-1 : goal.enum_told-1
enum_told-1 c = search parts

pub overflow_add-k : goal.overflow_add-k
overflow_add-k c = search parts

pub enum_told-in-Days : goal.enum_told-in-Days
enum_told-in-Days c = search parts

pub overflow_add-k-in-Days : goal.overflow_add-k-in-Days
overflow_add-k-in-Days c = search parts

pub enum_told-in-Extra : goal.enum_told-in-Extra
enum_told-in-Extra c = search parts

pub overflow_add-k-in-Extra : goal.overflow_add-k-in-Extra
overflow_add-k-in-Extra c = search parts

pub returns-in-Category : goal.returns-in-Category
returns-in-Category c = search parts

pub returns-in-Days : goal.returns-in-Days
returns-in-Days c = search parts

pub returns-in-Extra : goal.returns-in-Extra
returns-in-Extra c = search parts
