use Rattle.index.proofs.Shows.{shows-fields}
use Rattle.index.proofs.field_words.Goals as goal

pub returns-then-number-eq0-clause-known : goal.returns-then-number-eq0-clause-known
returns-then-number-eq0-clause-known c = search shows-fields

pub returns-then-number-eq0-clause-days : goal.returns-then-number-eq0-clause-days
returns-then-number-eq0-clause-days c = search shows-fields

pub find-requires-clause-fits : goal.find-requires-clause-fits
find-requires-clause-fits c = search shows-fields

pub returns-in_default-clause-known : goal.returns-in_default-clause-known
returns-in_default-clause-known c = search shows-fields

pub returns-in_default-clause-days : goal.returns-in_default-clause-days
returns-in_default-clause-days c = search shows-fields

pub overflow_add-p : goal.overflow_add-p
overflow_add-p c = search shows-fields

pub words_at-words-requires : goal.words_at-words-requires
words_at-words-requires c = search shows-fields

pub returns-clause-known : goal.returns-clause-known
returns-clause-known c = search shows-fields

pub returns-clause-days : goal.returns-clause-days
returns-clause-days c = search shows-fields
