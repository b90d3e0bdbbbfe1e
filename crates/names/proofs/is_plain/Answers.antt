use Rattle.names.proofs.Laws.{loops}
use Rattle.names.proofs.is_plain.Goals as goal

pub returns-then-b-eq36 : goal.returns-then-b-eq36
returns-then-b-eq36 c = search loops

pub returns-then-b-eq60 : goal.returns-then-b-eq60
returns-then-b-eq60 c = search loops

pub returns : goal.returns
returns c = search loops
