use Rattle.service.proofs.Legs.{parting}
use Rattle.service.proofs.ranges_wrong.Goals as goal

pub range_count-n-requires : goal.range_count-n-requires
range_count-n-requires c = search parting

pub slice_bounds-find_ends-end : goal.slice_bounds-find_ends-end
slice_bounds-find_ends-end c = search parting

pub slice_bounds-find_ends-end-2 : goal.slice_bounds-find_ends-end-2
slice_bounds-find_ends-end-2 c = search parting

pub slice_bounds-legs_wrong-end : goal.slice_bounds-legs_wrong-end
slice_bounds-legs_wrong-end c = search parting

pub slice_bounds-legs_wrong-end-2 : goal.slice_bounds-legs_wrong-end-2
slice_bounds-legs_wrong-end-2 c = search parting

pub returns : goal.returns
returns c = search (parting, c.in_ok-find_ends.was)

pub find_ends-requires-clause-ranges_in_bounds : goal.find_ends-requires-clause-ranges_in_bounds
find_ends-requires-clause-ranges_in_bounds c = search parting

pub find_ends-requires-clause-ranges_in_bounds_2 : goal.find_ends-requires-clause-ranges_in_bounds_2
find_ends-requires-clause-ranges_in_bounds_2 c = search parting

pub returns-in_err-find_ends : goal.returns-in_err-find_ends
returns-in_err-find_ends c = search parting
