use Rattle.day_sets.proofs.Loops.{lent-words}
use Rattle.day_sets.proofs.field_in.Goals as goal

pub words_at-requires : goal.words_at-requires
words_at-requires c = search lent-words

pub returns : goal.returns
returns c = search lent-words
