use Rattle.calls_check.proofs.Needs.{whole}
use Rattle.calls_check.proofs.is_call_index.Goals as goal

pub call_index_size-requires : goal.call_index_size-requires
call_index_size-requires c = search whole

pub returns-then-x-call_index_size : goal.returns-then-x-call_index_size
returns-then-x-call_index_size c = search whole

pub entries_right-requires : goal.entries_right-requires
entries_right-requires c = search whole

pub returns-then-not-entries_right : goal.returns-then-not-entries_right
returns-then-not-entries_right c = search whole

pub chains_full-requires : goal.chains_full-requires
chains_full-requires c = search whole

pub returns : goal.returns
returns c = search whole
