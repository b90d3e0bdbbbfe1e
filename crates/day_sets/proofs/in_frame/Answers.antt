use Rattle.day_sets.proofs.Loops.{words}
use Rattle.day_sets.proofs.in_frame.Goals as goal

pub loop-i-init : goal.loop-i-init
loop-i-init c = search words

pub framed_word-requires : goal.framed_word-requires
framed_word-requires c = search words

pub bounds-r-i : goal.bounds-r-i
bounds-r-i c = search words

pub loop-i-preserved : goal.loop-i-preserved
loop-i-preserved c = search words

pub returns : goal.returns
returns c = search words
