use Rattle.sections.proofs.Files.{files}
use Rattle.sections.proofs.check_interchanges.Goals as goal

pub returns-in_err-count-clause-value : goal.returns-in_err-count-clause-value
returns-in_err-count-clause-value c = search files

pub returns-then-count-lt1-clause-value : goal.returns-then-count-lt1-clause-value
returns-then-count-lt1-clause-value c = search (files, c.in_ok-count.was)

pub returns-clause-value : goal.returns-clause-value
returns-clause-value c = search (files, c.in_ok-count.was)
