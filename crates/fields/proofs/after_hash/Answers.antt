use Rattle.fields.proofs.Laws.{hashes}
use Rattle.fields.proofs.after_hash.Goals as goal

pub returns-then-is_digit : goal.returns-then-is_digit
returns-then-is_digit c = search hashes

pub returns-else-is_digit : goal.returns-else-is_digit
returns-else-is_digit c = search hashes

pub returns-else-from-w : goal.returns-else-from-w
returns-else-from-w c = search hashes
