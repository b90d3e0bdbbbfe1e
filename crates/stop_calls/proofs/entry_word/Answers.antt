use Rattle.stop_calls.proofs.Needs.{words}
use Rattle.stop_calls.proofs.entry_word.Goals as goal

pub bounds-y-wide : goal.bounds-y-wide
bounds-y-wide c = search words

pub returns : goal.returns
returns c = search words
