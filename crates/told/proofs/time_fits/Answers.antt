use Rattle.told.proofs.Times.{timed}
use Rattle.told.proofs.time_fits.Goals as goal

pub six_blank-requires : goal.six_blank-requires
six_blank-requires c = search timed

pub returns-then-six_blank : goal.returns-then-six_blank
returns-then-six_blank c = search timed

pub is_sign-requires : goal.is_sign-requires
is_sign-requires c = search timed

pub last_clock-requires : goal.last_clock-requires
last_clock-requires c = search timed

pub returns-then-is_sign : goal.returns-then-is_sign
returns-then-is_sign c = search timed

pub returns : goal.returns
returns c = search timed
