use Rattle.byte_words.proofs.Hex.{hexes}
use Rattle.byte_words.proofs.hexadecimal_of.Goals as goal

pub overflow_mul-pairs : goal.overflow_mul-pairs
overflow_mul-pairs c = search hexes

pub overflow_add-pairs : goal.overflow_add-pairs
overflow_add-pairs c = search hexes

pub returns : goal.returns
returns c = search hexes
