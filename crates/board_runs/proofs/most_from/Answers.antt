use Rattle.board_runs.proofs.Quiet.{mostly}
use Rattle.board_runs.proofs.most_from.Goals as goal

pub opening_at-opening-requires : goal.opening_at-opening-requires
opening_at-opening-requires c = search mostly

pub returns-then-opening-eq0 : goal.returns-then-opening-eq0
returns-then-opening-eq0 c = search mostly

pub opening_sound-requires : goal.opening_sound-requires
opening_sound-requires c = search mostly

pub returns-then-not-opening_sound : goal.returns-then-not-opening_sound
returns-then-not-opening_sound c = search mostly

pub call_of-c-requires : goal.call_of-c-requires
call_of-c-requires c = search mostly

pub runs_between-span-requires : goal.runs_between-span-requires
runs_between-span-requires c = search mostly

pub span_size-requires : goal.span_size-requires
span_size-requires c = search mostly

pub returns : goal.returns
returns c = search mostly
