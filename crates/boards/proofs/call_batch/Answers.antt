use Rattle.boards.proofs.Needs.{one}
use Rattle.boards.proofs.call_batch.Goals as goal

pub entry_word-i-requires : goal.entry_word-i-requires
entry_word-i-requires c = search one

pub entry_word-p-requires : goal.entry_word-p-requires
entry_word-p-requires c = search one

pub steady_in-requires : goal.steady_in-requires
steady_in-requires c = search one

pub runs_at-requires : goal.runs_at-requires
runs_at-requires c = search one

pub returns : goal.returns
returns c = search one
