use Rattle.fields.proofs.Laws.{hashes}
use Rattle.fields.proofs.hash_digits.Goals as goal

pub loop-i-init : goal.loop-i-init
loop-i-init c = search hashes

pub overflow_mul-n : goal.overflow_mul-n
overflow_mul-n c = search hashes

pub overflow_add-n : goal.overflow_add-n
overflow_add-n c = search hashes

pub loop-i-preserved : goal.loop-i-preserved
loop-i-preserved c = search hashes

pub returns-then-every_from : goal.returns-then-every_from
returns-then-every_from c = search hashes

pub returns : goal.returns
returns c = search hashes

pub returns-then-not-is_digit : goal.returns-then-not-is_digit
returns-then-not-is_digit c = search hashes
