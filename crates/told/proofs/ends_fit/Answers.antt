use Rattle.told.specs.Inner.Marked.{ends_fit}
use Rattle.told.proofs.Form.{chains}
use Rattle.told.proofs.ends_fit.Goals as goal

pub first_filled-requires : goal.first_filled-requires
first_filled-requires c = search chains

pub overflow_add-c : goal.overflow_add-c
overflow_add-c c = search chains

pub blank_at-requires : goal.blank_at-requires
blank_at-requires c = search chains

pub is_end-requires : goal.is_end-requires
is_end-requires c = search chains

pub overflow_add-c-then-is_end : goal.overflow_add-c-then-is_end
overflow_add-c-then-is_end c = search chains

pub blank_at-requires-then-is_end : goal.blank_at-requires-then-is_end
blank_at-requires-then-is_end c = search chains

pub is_end-requires-then-blank_at-2 : goal.is_end-requires-then-blank_at-2
is_end-requires-then-blank_at-2 c = search chains

pub returns-then-is_end-2 : goal.returns-then-is_end-2
unfolding ends_fit
returns-then-is_end-2 c = search chains depth 7

pub returns-else-is_end-2 : goal.returns-else-is_end-2
unfolding ends_fit
returns-else-is_end-2 c = search chains depth 7

pub returns-else-blank_at-2 : goal.returns-else-blank_at-2
unfolding ends_fit
returns-else-blank_at-2 c = search chains depth 7

pub returns-else-is_end : goal.returns-else-is_end
unfolding ends_fit
returns-else-is_end c = search chains depth 7

pub returns-else-blank_at : goal.returns-else-blank_at
unfolding ends_fit
returns-else-blank_at c = search chains depth 7

pub returns-else-first_filled : goal.returns-else-first_filled
unfolding ends_fit
returns-else-first_filled c = search chains depth 7
