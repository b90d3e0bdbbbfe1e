use Rattle.questions.proofs.Laws.{interchanges}
use Rattle.questions.proofs.minutes.Goals as goal

pub returns-then-a-gt-FIRST_TIME_CLASS : goal.returns-then-a-gt-FIRST_TIME_CLASS
returns-then-a-gt-FIRST_TIME_CLASS c = search interchanges

pub returns-then-b-gt-FIRST_TIME_CLASS : goal.returns-then-b-gt-FIRST_TIME_CLASS
returns-then-b-gt-FIRST_TIME_CLASS c = search interchanges

pub returns : goal.returns
returns c = search interchanges
