use Rattle.names.proofs.PatternAt.{opening}
use Rattle.names.proofs.pattern_at.Goals as goal

pub returns-then-byte_at-ne60 : goal.returns-then-byte_at-ne60
returns-then-byte_at-ne60 c = search opening

pub returns : goal.returns
returns c = search opening
