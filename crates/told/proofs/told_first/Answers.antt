use Rattle.told.proofs.Laws.{firsts}
use Rattle.told.proofs.told_first.Goals as goal

pub kind_of-kind-requires : goal.kind_of-kind-requires
kind_of-kind-requires c = search firsts

pub enum_told-1 : goal.enum_told-1
enum_told-1 c = search firsts

pub opening_told-requires : goal.opening_told-requires
opening_told-requires c = search firsts

pub returns-in_default : goal.returns-in_default
returns-in_default c = search firsts

pub frequency_told-requires : goal.frequency_told-requires
frequency_told-requires c = search firsts

pub returns : goal.returns
returns c = search firsts
