use Rattle.classes.proofs.Lines.{number-reads}
use Rattle.classes.proofs.count_with.Goals as goal

pub enum_told-1 : goal.enum_told-1
enum_told-1 c = search number-reads

pub enum_known-n : goal.enum_known-n
enum_known-n c = search number-reads

pub enum_known-n-in-Number-1 : goal.enum_known-n-in-Number-1
enum_known-n-in-Number-1 c = search number-reads

pub overflow_add-result : goal.overflow_add-result
overflow_add-result c = search number-reads

pub returns-in-Skipped : goal.returns-in-Skipped
returns-in-Skipped c = search number-reads

pub returns-in-Broken : goal.returns-in-Broken
returns-in-Broken c = search number-reads

pub returns-in-Number : goal.returns-in-Number
returns-in-Number c = search number-reads
