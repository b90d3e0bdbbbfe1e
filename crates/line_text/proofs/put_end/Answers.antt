use Rattle.line_text.proofs.Writes.{writes}
use Rattle.line_text.proofs.put_end.Goals as goal

pub returns : goal.returns
returns c = search writes
