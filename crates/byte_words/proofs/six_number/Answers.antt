use Rattle.byte_words.proofs.Numbers.{flips}
use Rattle.byte_words.proofs.six_number.Goals as goal

pub decimal_of-requires : goal.decimal_of-requires
decimal_of-requires c = search flips

pub returns : goal.returns
returns c = search flips
