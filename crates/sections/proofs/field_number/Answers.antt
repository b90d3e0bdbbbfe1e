use Rattle.sections.proofs.Lookups.{numbering}
use Rattle.sections.proofs.field_number.Goals as goal

pub returns-then-six_digits : goal.returns-then-six_digits
returns-then-six_digits c = search numbering
