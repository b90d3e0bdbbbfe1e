use Rattle.board_runs.proofs.Goes.{from-days}
use Rattle.board_runs.proofs.goes_from.Goals as goal

pub day_words-v-requires : goal.day_words-v-requires
day_words-v-requires c = search from-days

pub bounds-s-8 : goal.bounds-s-8
bounds-s-8 c = search from-days

pub bounds-s-6 : goal.bounds-s-6
bounds-s-6 c = search from-days

pub overflow_sub-s : goal.overflow_sub-s
overflow_sub-s c = search from-days

pub in_turn-requires : goal.in_turn-requires
in_turn-requires c = search from-days

pub goes_slowly-requires : goal.goes_slowly-requires
goes_slowly-requires c = search from-days

pub returns-then-not-in_turn : goal.returns-then-not-in_turn
returns-then-not-in_turn c = search from-days

pub day_legs-requires : goal.day_legs-requires
day_legs-requires c = search from-days

pub bounds-w-4 : goal.bounds-w-4
bounds-w-4 c = search from-days

pub goes_along-requires : goal.goes_along-requires
goes_along-requires c = record { days_in_turn = search from-days; start_le_end = search from-days }

pub returns-in-Ok : goal.returns-in-Ok
returns-in-Ok c = search from-days

pub returns-in-Err : goal.returns-in-Err
returns-in-Err c = search from-days
