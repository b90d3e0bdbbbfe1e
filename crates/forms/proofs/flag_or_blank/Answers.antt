use Rattle.forms.proofs.Rules.{letters}
use Rattle.forms.proofs.flag_or_blank.Goals as goal

pub every_in-requires : goal.every_in-requires
every_in-requires c = search letters

pub returns-then-every_in : goal.returns-then-every_in
returns-then-every_in c = search letters

pub first_byte-requires : goal.first_byte-requires
first_byte-requires c = search letters

pub is_flag-requires : goal.is_flag-requires
is_flag-requires c = search letters

pub returns : goal.returns
returns c = search letters
