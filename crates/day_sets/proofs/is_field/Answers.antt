use Rattle.day_sets.proofs.Asked.{lent}
use Rattle.day_sets.proofs.is_field.Goals as goal

pub returns-then-n-lt1 : goal.returns-then-n-lt1
returns-then-n-lt1 c = search lent

pub returns-then-n-gt-MOST_PERIOD_DAYS : goal.returns-then-n-gt-MOST_PERIOD_DAYS
returns-then-n-gt-MOST_PERIOD_DAYS c = search lent

pub returns-then-words-ne-BIT_WORDS : goal.returns-then-words-ne-BIT_WORDS
returns-then-words-ne-BIT_WORDS c = search lent

pub returns : goal.returns
returns c = search lent
