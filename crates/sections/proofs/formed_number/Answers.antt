use Rattle.sections.proofs.Lookups.{numbering}
use Rattle.sections.proofs.formed_number.Goals as goal

pub returns-in-Ok : goal.returns-in-Ok
returns-in-Ok c = search numbering

pub returns-in-Err : goal.returns-in-Err
returns-in-Err c = search numbering
