use Rattle.byte_words.proofs.Hex.{hexes}
use Rattle.byte_words.proofs.hex_values.Goals as goal

pub overflow_mul-result : goal.overflow_mul-result
overflow_mul-result c = search hexes

pub overflow_add-result : goal.overflow_add-result
overflow_add-result c = search hexes

pub returns : goal.returns
returns c = search hexes
