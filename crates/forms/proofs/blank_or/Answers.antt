use Rattle.forms.proofs.Rules.{rules}
use Rattle.forms.proofs.blank_or.Goals as goal

pub every_in-requires : goal.every_in-requires
every_in-requires c = search rules

pub returns-then-every_in : goal.returns-then-every_in
returns-then-every_in c = search rules

pub every_in-requires-2 : goal.every_in-requires-2
every_in-requires-2 c = search rules

pub returns : goal.returns
returns c = search rules
