use Rattle.sections.proofs.Lookups.{numbering}
use Rattle.sections.proofs.stop_number.Goals as goal

pub returns-then-seven_digits : goal.returns-then-seven_digits
returns-then-seven_digits c = search numbering
