use Rattle.forms.proofs.Rules.{rules}
use Rattle.forms.proofs.first_filled.Goals as goal

pub first_byte-requires : goal.first_byte-requires
first_byte-requires c = search rules

pub returns : goal.returns
returns c = search rules
