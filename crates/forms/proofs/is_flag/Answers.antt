use Rattle.base.proofs.Laws.{tests}
use Rattle.forms.proofs.is_flag.Goals as goal

pub returns-then-x-eq78 : goal.returns-then-x-eq78
returns-then-x-eq78 c = search tests

pub returns-then-x-eq66 : goal.returns-then-x-eq66
returns-then-x-eq66 c = search tests

pub returns : goal.returns
returns c = search tests
