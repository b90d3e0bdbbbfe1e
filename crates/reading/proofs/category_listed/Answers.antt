use Rattle.reading.proofs.Own.{class-index, lookups}
use Rattle.reading.proofs.category_listed.Goals as goal

pub enum_told-1 : goal.enum_told-1
enum_told-1 c = search lookups

pub known_class-requires : goal.known_class-requires
known_class-requires c = search class-index

pub enum_told-in-Days : goal.enum_told-in-Days
enum_told-in-Days c = search lookups

pub enum_told-in-Extra : goal.enum_told-in-Extra
enum_told-in-Extra c = search lookups

pub returns-in-Category : goal.returns-in-Category
returns-in-Category c = search lookups

pub returns-in-Days : goal.returns-in-Days
returns-in-Days c = search lookups

pub returns-in-Extra : goal.returns-in-Extra
returns-in-Extra c = search lookups
