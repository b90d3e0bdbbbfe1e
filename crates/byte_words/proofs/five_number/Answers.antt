use Rattle.byte_words.proofs.Times.{timing}
use Rattle.byte_words.proofs.five_number.Goals as goal

pub decimal_of-requires : goal.decimal_of-requires
decimal_of-requires c = search timing

pub returns : goal.returns
returns c = search timing
