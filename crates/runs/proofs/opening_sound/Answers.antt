use Rattle.base.proofs.Laws.{tests}
use Rattle.timetable.specs.Runs.{opening_sound}
use Rattle.runs.proofs.Laws.{runs}
use Rattle.runs.proofs.opening_sound.Goals as goal

pub frequency_sound-requires : goal.frequency_sound-requires
frequency_sound-requires c = search runs

pub returns-then-opening-eq-KIND_T : goal.returns-then-opening-eq-KIND_T
returns-then-opening-eq-KIND_T c = search runs

pub returns-then-opening-ne-KIND_Z : goal.returns-then-opening-ne-KIND_Z
unfolding opening_sound
returns-then-opening-ne-KIND_Z c = search tests

pub returns-then-opening-gt-MOST_REPEATS : goal.returns-then-opening-gt-MOST_REPEATS
unfolding opening_sound
returns-then-opening-gt-MOST_REPEATS c = search tests

pub returns : goal.returns
unfolding opening_sound
returns c = search tests
