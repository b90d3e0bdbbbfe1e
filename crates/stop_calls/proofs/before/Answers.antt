use Rattle.stop_calls.proofs.Needs.{ends}
use Rattle.stop_calls.proofs.before.Goals as goal

pub entry_word-h-requires : goal.entry_word-h-requires
entry_word-h-requires c = search ends

pub returns-then-h-e : goal.returns-then-h-e
returns-then-h-e c = search ends

pub returns : goal.returns
returns c = search ends
