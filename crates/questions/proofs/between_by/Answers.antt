use Rattle.questions.proofs.Laws.{categories}
use Rattle.questions.proofs.between_by.Goals as goal

pub stop_known-requires : goal.stop_known-requires
stop_known-requires c = search categories

pub both_listed-requires : goal.both_listed-requires
both_listed-requires c = search categories

pub minutes_between-requires : goal.minutes_between-requires
minutes_between-requires c = search categories

pub returns-then-both_listed : goal.returns-then-both_listed
returns-then-both_listed c = search categories

pub returns-then-stop_known : goal.returns-then-stop_known
returns-then-stop_known c = search categories

pub returns : goal.returns
returns c = search categories
