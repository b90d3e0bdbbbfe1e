use Rattle.base.proofs.Laws.{tests}
use Rattle.load.proofs.Helper.{fields-after}
use Rattle.load.proofs.fields_in.Goals as goal

pub returns-clause-fields_after : goal.returns-clause-fields_after
returns-clause-fields_after c = search fields-after
