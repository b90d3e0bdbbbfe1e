use Rattle.names.proofs.Laws.{asking}
use Rattle.names.proofs.asked_for.Goals as goal

pub returns-then-language-gt255 : goal.returns-then-language-gt255
returns-then-language-gt255 c = search asking
