use Rattle.names.proofs.PatternAt.{behind}
use Rattle.names.proofs.behind_opening.Goals as goal

pub returns-then-close-letters : goal.returns-then-close-letters
returns-then-close-letters c = search behind

pub returns-then-byte_at-ne62 : goal.returns-then-byte_at-ne62
returns-then-byte_at-ne62 c = search behind

pub returns : goal.returns
returns c = search behind
