use Rattle.forms.proofs.Rules.{rules}
use Rattle.forms.proofs.fits_from_one.Goals as goal

pub every_in-requires : goal.every_in-requires
every_in-requires c = search rules

pub every_in-requires-then-every_in : goal.every_in-requires-then-every_in
every_in-requires-then-every_in c = search rules

pub returns-then-every_in : goal.returns-then-every_in
returns-then-every_in c = search rules

pub returns : goal.returns
returns c = search rules
