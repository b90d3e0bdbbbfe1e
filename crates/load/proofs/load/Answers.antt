use Rattle.base.proofs.Laws.{tests}
use Rattle.load.proofs.Answers.{refusing, words-fit}
use Rattle.load.proofs.Files.{all_short, short-fields, short-stops, short-interchanges}
use Rattle.load.proofs.load.Goals as goal

pub returns-then-long-ne0-clause-value : goal.returns-then-long-ne0-clause-value
returns-then-long-ne0-clause-value c = search refusing

pub returns-then-long-ne0-clause-table_after : goal.returns-then-long-ne0-clause-table_after
returns-then-long-ne0-clause-table_after c = search refusing

pub returns-then-long-ne0-clause-helper_after : goal.returns-then-long-ne0-clause-helper_after
returns-then-long-ne0-clause-helper_after c = search refusing

pub overflow_cast-result : goal.overflow_cast-result
overflow_cast-result c = search words-fit

pub returns-then-helper-needed-clause-value : goal.returns-then-helper-needed-clause-value
returns-then-helper-needed-clause-value c = search refusing

pub returns-then-helper-needed-clause-table_after : goal.returns-then-helper-needed-clause-table_after
returns-then-helper-needed-clause-table_after c = search refusing

pub returns-then-helper-needed-clause-helper_after : goal.returns-then-helper-needed-clause-helper_after
returns-then-helper-needed-clause-helper_after c = search refusing

pub returns-clause-value : goal.returns-clause-value
returns-clause-value c = search refusing

pub returns-clause-table_after : goal.returns-clause-table_after
returns-clause-table_after c = search refusing

pub returns-clause-helper_after : goal.returns-clause-helper_after
returns-clause-helper_after c = search refusing
