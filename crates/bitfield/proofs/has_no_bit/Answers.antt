use Rattle.bitfield.proofs.Frame.{frames}
use Rattle.bitfield.proofs.has_no_bit.Goals as goal

pub returns-then-b-i-ne0 : goal.returns-then-b-i-ne0
returns-then-b-i-ne0 c = search frames

pub loop-i-preserved : goal.loop-i-preserved
loop-i-preserved c = search frames

pub returns : goal.returns
returns c = search frames
