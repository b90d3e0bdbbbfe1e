use Rattle.names.proofs.Laws.{loops}
use Rattle.names.proofs.is_of.Goals as goal

pub enum_told-1 : goal.enum_told-1
enum_told-1 c = search loops

pub is_plain-requires : goal.is_plain-requires
is_plain-requires c = search loops

pub enum_told-in-Letter : goal.enum_told-in-Letter
enum_told-in-Letter c = search loops

pub is_language-requires : goal.is_language-requires
is_language-requires c = search loops

pub enum_told-in-Digit : goal.enum_told-in-Digit
enum_told-in-Digit c = search loops

pub is_type-requires : goal.is_type-requires
is_type-requires c = search loops

pub returns-in-Plain : goal.returns-in-Plain
returns-in-Plain c = search loops

pub returns-in-Letter : goal.returns-in-Letter
returns-in-Letter c = search loops

pub returns-in-Digit : goal.returns-in-Digit
returns-in-Digit c = search loops
