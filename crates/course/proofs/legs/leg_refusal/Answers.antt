use Rattle.course.proofs.legs.Legs.{leg}
use Rattle.course.proofs.legs.leg_refusal.Goals as goal

pub day_words-v-requires : goal.day_words-v-requires
day_words-v-requires c = search leg

pub bounds-s-8 : goal.bounds-s-8
bounds-s-8 c = search leg

pub covered_once-requires : goal.covered_once-requires
covered_once-requires c = search leg

pub returns-then-not-covered_once : goal.returns-then-not-covered_once
returns-then-not-covered_once c = search leg

pub ranges_known-requires : goal.ranges_known-requires
ranges_known-requires c = search leg

pub returns-then-not-ranges_known : goal.returns-then-not-ranges_known
returns-then-not-ranges_known c = search leg

pub returns : goal.returns
returns c = search leg
