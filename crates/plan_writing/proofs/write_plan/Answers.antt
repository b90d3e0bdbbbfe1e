use Rattle.plan_writing.proofs.Answers.{asked}
use Rattle.plan_writing.proofs.write_plan.Goals as goal

pub is_table-requires : goal.is_table-requires
is_table-requires c = search asked

pub returns-then-not-is_table : goal.returns-then-not-is_table
returns-then-not-is_table c = search asked

pub used_words-requires : goal.used_words-requires
used_words-requires c = search asked

pub write_table-requires : goal.write_table-requires
write_table-requires c = search asked

pub shape_of-text : goal.shape_of-text
shape_of-text c = search asked

pub returns : goal.returns
returns c = search asked
