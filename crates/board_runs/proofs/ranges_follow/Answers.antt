use Rattle.board_runs.proofs.Plain.{look}
use Rattle.board_runs.proofs.ranges_follow.Goals as goal

pub category_words-g-requires : goal.category_words-g-requires
category_words-g-requires c = search look

pub bounds-s-7 : goal.bounds-s-7
bounds-s-7 c = search look

pub bounds-s-6 : goal.bounds-s-6
bounds-s-6 c = search look

pub overflow_sub-s : goal.overflow_sub-s
overflow_sub-s c = search look

pub in_turn-requires : goal.in_turn-requires
in_turn-requires c = search look

pub returns-then-not-in_turn : goal.returns-then-not-in_turn
returns-then-not-in_turn c = search look

pub extras_sound-requires : goal.extras_sound-requires
extras_sound-requires c = search look

pub returns : goal.returns
returns c = search look
