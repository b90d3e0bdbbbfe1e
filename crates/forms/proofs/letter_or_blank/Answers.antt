use Rattle.forms.proofs.Rules.{letters}
use Rattle.forms.proofs.letter_or_blank.Goals as goal

pub every_in-requires : goal.every_in-requires
every_in-requires c = search letters

pub returns-then-every_in : goal.returns-then-every_in
returns-then-every_in c = search letters

pub first_byte-x-requires : goal.first_byte-x-requires
first_byte-x-requires c = search letters

pub returns-then-x-lt65 : goal.returns-then-x-lt65
returns-then-x-lt65 c = search letters

pub overflow_cast-result : goal.overflow_cast-result
overflow_cast-result c = search letters

pub returns : goal.returns
returns c = search letters
