use Rattle.questions.proofs.Laws.{interchanges}
use Rattle.questions.proofs.classes_known.Goals as goal

pub returns-then-a-gt-MOST_CLASS : goal.returns-then-a-gt-MOST_CLASS
returns-then-a-gt-MOST_CLASS c = search interchanges

pub returns : goal.returns
returns c = search interchanges
