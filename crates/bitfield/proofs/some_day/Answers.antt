use Rattle.bitfield.proofs.Frame.{frames}
use Rattle.bitfield.proofs.some_day.Goals as goal

pub returns-then-has_no_bit : goal.returns-then-has_no_bit
returns-then-has_no_bit c = search frames
