use Rattle.questions.proofs.Laws.{interchanges}
use Rattle.questions.proofs.interchange_by.Goals as goal

pub classes_known-requires : goal.classes_known-requires
classes_known-requires c = search interchanges

pub returns-then-not-classes_known : goal.returns-then-not-classes_known
returns-then-not-classes_known c = search interchanges

pub stop_known-requires : goal.stop_known-requires
stop_known-requires c = search interchanges

pub returns-then-not-stop_known : goal.returns-then-not-stop_known
returns-then-not-stop_known c = search interchanges

pub interchange_at-requires : goal.interchange_at-requires
interchange_at-requires c = search interchanges

pub minutes-requires : goal.minutes-requires
minutes-requires c = search interchanges

pub returns : goal.returns
returns c = search interchanges
