use Rattle.boards.proofs.Needs.{looks}
use Rattle.boards.proofs.gives_none.Goals as goal

pub entry_word-i-requires : goal.entry_word-i-requires
entry_word-i-requires c = search looks

pub entry_word-p-requires : goal.entry_word-p-requires
entry_word-p-requires c = search looks

pub is_quiet-requires : goal.is_quiet-requires
is_quiet-requires c = search looks

pub returns : goal.returns
returns c = search looks
