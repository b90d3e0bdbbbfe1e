use Rattle.service_lines.proofs.Calls.{shown}
use Rattle.service_lines.proofs.stop_number.Goals as goal

pub slice_bounds-stop_number-count : goal.slice_bounds-stop_number-count
slice_bounds-stop_number-count c = search shown

pub slice_bounds-stop_number-start : goal.slice_bounds-stop_number-start
slice_bounds-stop_number-start c = search shown

pub slice_bounds-stop_number-end : goal.slice_bounds-stop_number-end
slice_bounds-stop_number-end c = search shown

pub stop_number-requires : goal.stop_number-requires
stop_number-requires c = search shown

pub returns : goal.returns
returns c = search shown
