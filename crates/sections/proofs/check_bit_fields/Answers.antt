use Rattle.sections.proofs.Files.{files}
use Rattle.sections.proofs.check_bit_fields.Goals as goal

pub returns-clause-value : goal.returns-clause-value
returns-clause-value c = search files
