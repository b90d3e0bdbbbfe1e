use Rattle.byte_words.proofs.Times.{timing}
use Rattle.byte_words.proofs.last_minutes.Goals as goal

pub pairs_of-pairs-requires : goal.pairs_of-pairs-requires
pairs_of-pairs-requires c = search timing

pub returns : goal.returns
returns c = search timing
