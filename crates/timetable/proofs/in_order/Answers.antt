use mathlib.Core.Path.{refl}
use Rattle.timetable.proofs.in_order.Goals as goal

pub returns-then-loose : goal.returns-then-loose
returns-then-loose c = rw c.if-loose.true refl

pub returns : goal.returns
returns c = rw c.if-loose.false refl
