use Rattle.told.proofs.Form.{tabled}
use Rattle.told.proofs.broken_column.Goals as goal

pub returns-in-Ok : goal.returns-in-Ok
returns-in-Ok c = search tabled

pub returns-in-Err : goal.returns-in-Err
returns-in-Err c = search tabled
