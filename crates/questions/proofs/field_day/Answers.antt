use Rattle.questions.proofs.Laws.{days}
use Rattle.questions.proofs.field_day.Goals as goal

pub field_words-f-requires : goal.field_words-f-requires
field_words-f-requires c = search days

pub returns-then-not-f : goal.returns-then-not-f
returns-then-not-f c = search days

pub field_runs-requires : goal.field_runs-requires
field_runs-requires c = search days

pub returns : goal.returns
returns c = search days
