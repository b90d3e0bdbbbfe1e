use Rattle.service.proofs.schedule.Ends.{ended}
use Rattle.service.proofs.schedule.find_ends.Goals as goal

pub loop-i-init : goal.loop-i-init
loop-i-init c = (search ended, search ended, search ended, search ended, search ended)

pub loop-i-preserved : goal.loop-i-preserved
loop-i-preserved c = (search ended, search ended, search ended, search ended, search ended)

pub returns : goal.returns
returns c = search ended

pub returns-in_default-clause-value : goal.returns-in_default-clause-value
returns-in_default-clause-value c = search ended

pub range_into-requires-clause-ranges_in_bounds : goal.range_into-requires-clause-ranges_in_bounds
range_into-requires-clause-ranges_in_bounds c = search ended

pub range_into-requires-clause-ranges_in_bounds_2 : goal.range_into-requires-clause-ranges_in_bounds_2
range_into-requires-clause-ranges_in_bounds_2 c = search ended
