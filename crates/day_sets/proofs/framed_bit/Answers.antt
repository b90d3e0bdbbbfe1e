use Rattle.day_sets.specs.DaySets.{bit_in}
use Rattle.base.proofs.Laws.{tests}
use Rattle.day_sets.proofs.framed_bit.Goals as goal

pub returns-then-k-lt2 : goal.returns-then-k-lt2
unfolding bit_in
returns-then-k-lt2 c = search tests

pub returns-then-k-n : goal.returns-then-k-n
unfolding bit_in
returns-then-k-n c = search tests

pub returns-then-k-n-2 : goal.returns-then-k-n-2
unfolding bit_in
returns-then-k-n-2 c = search tests

pub returns : goal.returns
unfolding bit_in
returns c = search tests
