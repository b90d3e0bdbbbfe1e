use Rattle.forms.proofs.Rules.{rules}
use Rattle.forms.proofs.first_byte.Goals as goal

pub part-requires : goal.part-requires
part-requires c = search rules

pub byte_at-requires : goal.byte_at-requires
byte_at-requires c = search rules

pub returns : goal.returns
returns c = search rules
