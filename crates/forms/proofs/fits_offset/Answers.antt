use Rattle.forms.proofs.Rules.{rules}
use Rattle.forms.proofs.fits_offset.Goals as goal

pub overflow_add-to : goal.overflow_add-to
overflow_add-to c = search rules

pub overflow_cast-to : goal.overflow_cast-to
overflow_cast-to c = search rules

pub every_in-requires : goal.every_in-requires
every_in-requires c = search rules

pub every_in-requires-then-every_in : goal.every_in-requires-then-every_in
every_in-requires-then-every_in c = search rules

pub returns-then-every_in : goal.returns-then-every_in
returns-then-every_in c = search rules

pub every_in-requires-2 : goal.every_in-requires-2
every_in-requires-2 c = search rules

pub every_in-requires-then-every_in-2 : goal.every_in-requires-then-every_in-2
every_in-requires-then-every_in-2 c = search rules

pub returns-then-every_in-3 : goal.returns-then-every_in-3
returns-then-every_in-3 c = search rules

pub every_in-requires-then-every_in-2-2 : goal.every_in-requires-then-every_in-2-2
every_in-requires-then-every_in-2-2 c = search rules

pub returns-then-every_in-2 : goal.returns-then-every_in-2
returns-then-every_in-2 c = search rules

pub returns : goal.returns
returns c = search rules
