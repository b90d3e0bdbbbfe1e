use Rattle.table_words.proofs.section_words.Puts.{line-puts}
use Rattle.table_words.proofs.section_words.put_line.Goals as goal

pub skips-requires : goal.skips-requires
skips-requires c = search line-puts

pub returns-then-skips : goal.returns-then-skips
returns-then-skips c = search line-puts

pub key_on-number-requires : goal.key_on-number-requires
key_on-number-requires c = search line-puts

pub enum_told-1 : goal.enum_told-1
enum_told-1 c = search line-puts

pub hex_words-requires : goal.hex_words-requires
hex_words-requires c = search line-puts

pub put_bit_field-requires : goal.put_bit_field-requires
put_bit_field-requires c = search line-puts

pub enum_told-in-Stops : goal.enum_told-in-Stops
enum_told-in-Stops c = search line-puts

pub put_stop-requires : goal.put_stop-requires
put_stop-requires c = search line-puts

pub enum_told-in-Interchanges : goal.enum_told-in-Interchanges
enum_told-in-Interchanges c = search line-puts

pub put_interchange-requires : goal.put_interchange-requires
put_interchange-requires c = search line-puts

pub enum_told-in-Classes : goal.enum_told-in-Classes
enum_told-in-Classes c = search line-puts

pub put_class-requires : goal.put_class-requires
put_class-requires c = search line-puts

pub shape_of-t-in-BitFields : goal.shape_of-t-in-BitFields
shape_of-t-in-BitFields c = search line-puts

pub returns-in-BitFields : goal.returns-in-BitFields
returns-in-BitFields c = search line-puts

pub shape_of-t-in-Stops : goal.shape_of-t-in-Stops
shape_of-t-in-Stops c = search line-puts

pub returns-in-Stops : goal.returns-in-Stops
returns-in-Stops c = search line-puts

pub shape_of-t-in-Interchanges : goal.shape_of-t-in-Interchanges
shape_of-t-in-Interchanges c = search line-puts

pub returns-in-Interchanges : goal.returns-in-Interchanges
returns-in-Interchanges c = search line-puts

pub shape_of-t-in-Classes : goal.shape_of-t-in-Classes
shape_of-t-in-Classes c = search line-puts

pub returns-in-Classes : goal.returns-in-Classes
returns-in-Classes c = search line-puts
