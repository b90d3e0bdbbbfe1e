use Rattle.reading.proofs.Reaching.{cuts-again}
use Rattle.reading.proofs.cut_again.Goals as goal

pub bounds-fplan-at : goal.bounds-fplan-at
bounds-fplan-at c = search cuts-again

pub is_digit-requires : goal.is_digit-requires
is_digit-requires c = search cuts-again

pub line_beyond-requires : goal.line_beyond-requires
line_beyond-requires c = search cuts-again

pub returns-then-is_digit : goal.returns-then-is_digit
returns-then-is_digit c = search cuts-again

pub line_from-requires : goal.line_from-requires
line_from-requires c = search cuts-again

pub returns : goal.returns
returns c = search cuts-again
