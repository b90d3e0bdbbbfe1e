use Rattle.bitfield.proofs.Hex.{hexes}
use Rattle.bitfield.proofs.hex_word.Goals as goal

pub loop-i-preserved : goal.loop-i-preserved
loop-i-preserved c = search hexes

pub returns : goal.returns
returns c = search hexes

pub overflow_add-n : goal.overflow_add-n
overflow_add-n c = search hexes
