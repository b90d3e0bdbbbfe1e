use Rattle.course.proofs.legs.Legs.{leg}
use Rattle.course.proofs.legs.leg_runs.Goals as goal

pub day_words-requires : goal.day_words-requires
day_words-requires c = search leg

pub bounds-s-8 : goal.bounds-s-8
bounds-s-8 c = search leg

pub ranges_run-requires : goal.ranges_run-requires
ranges_run-requires c = search leg

pub returns : goal.returns
returns c = search leg
