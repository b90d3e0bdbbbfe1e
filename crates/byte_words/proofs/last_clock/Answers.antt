use Rattle.byte_words.proofs.Times.{timing}
use Rattle.byte_words.proofs.last_clock.Goals as goal

pub returns : goal.returns
returns c = search timing
