use Rattle.bitfield.proofs.Frame.{clears}
use Rattle.bitfield.proofs.is_clear.Goals as goal

pub returns-then-word-rest_values-ne0 : goal.returns-then-word-rest_values-ne0
returns-then-word-rest_values-ne0 c = search clears

pub loop-k-preserved : goal.loop-k-preserved
loop-k-preserved c = search clears

pub returns : goal.returns
returns c = search clears
