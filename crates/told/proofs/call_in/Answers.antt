use Rattle.told.proofs.Calls.{reading}
use Rattle.told.proofs.call_in.Goals as goal

pub word_at-requires : goal.word_at-requires
word_at-requires c = search reading

pub word_at-requires-2 : goal.word_at-requires-2
word_at-requires-2 c = search reading

pub word_at-requires-3 : goal.word_at-requires-3
word_at-requires-3 c = search reading

pub blank_tail-requires : goal.blank_tail-requires
blank_tail-requires c = search reading

pub returns-then-blank_tail : goal.returns-then-blank_tail
returns-then-blank_tail c = search reading

pub returns : goal.returns
returns c = search reading

pub blank_call-said-requires-clause-stop_value : goal.blank_call-said-requires-clause-stop_value
blank_call-said-requires-clause-stop_value c = search reading

pub filled_call-requires-clause-text_value : goal.filled_call-requires-clause-text_value
filled_call-requires-clause-text_value c = search reading

pub filled_call-requires-clause-mark_column_in_bounds : goal.filled_call-requires-clause-mark_column_in_bounds
filled_call-requires-clause-mark_column_in_bounds c = search reading

pub blank_call-said-requires-clause-arrival_value : goal.blank_call-said-requires-clause-arrival_value
blank_call-said-requires-clause-arrival_value c = search reading
