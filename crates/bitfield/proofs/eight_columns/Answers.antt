use Rattle.bitfield.proofs.Hex.{words}
use Rattle.bitfield.proofs.eight_columns.Goals as goal

pub returns : goal.returns
returns c = search words
