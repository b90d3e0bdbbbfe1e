use Rattle.line_text.proofs.Writes.{writes}
use Rattle.line_text.proofs.put_clock.Goals as goal

pub returns-then-stated : goal.returns-then-stated
returns-then-stated c = search writes

pub returns : goal.returns
returns c = search writes
