use Rattle.plan_writing.proofs.Answers.{answers}
use Rattle.plan_writing.proofs.write_table.Goals as goal

pub services_writable-requires : goal.services_writable-requires
services_writable-requires c = search answers

pub returns-then-not-services_writable : goal.returns-then-not-services_writable
returns-then-not-services_writable c = search answers

pub count_lines-needed-requires : goal.count_lines-needed-requires
count_lines-needed-requires c = search answers

pub overflow_mul-needed : goal.overflow_mul-needed
overflow_mul-needed c = search answers

pub returns-then-text-needed : goal.returns-then-text-needed
returns-then-text-needed c = search answers

pub put_services-requires : goal.put_services-requires
put_services-requires c = search answers

pub shape_of-text : goal.shape_of-text
shape_of-text c = search answers

pub returns : goal.returns
returns c = search answers
