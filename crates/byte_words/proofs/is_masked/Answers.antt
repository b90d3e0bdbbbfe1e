use Rattle.byte_words.proofs.Masks.{masking}
use Rattle.byte_words.proofs.is_masked.Goals as goal

pub returns-then-x-mask-eq0 : goal.returns-then-x-mask-eq0
returns-then-x-mask-eq0 c = search masking
