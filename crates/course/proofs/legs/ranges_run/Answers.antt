use Rattle.course.proofs.legs.Ranges.{loops}
use Rattle.course.proofs.legs.ranges_run.Goals as goal

pub loop-i-init : goal.loop-i-init
loop-i-init c = search loops

pub day_at-requires : goal.day_at-requires
day_at-requires c = search loops

pub range_runs-requires : goal.range_runs-requires
range_runs-requires c = search loops

pub returns-then-range_runs : goal.returns-then-range_runs
returns-then-range_runs c = search loops

pub overflow_add-p : goal.overflow_add-p
overflow_add-p c = search loops

pub loop-i-preserved : goal.loop-i-preserved
loop-i-preserved c = (search loops, search loops)

pub returns : goal.returns
returns c = search loops
