use Rattle.sections.proofs.Bits.{cuts}
use Rattle.sections.proofs.text_at.Goals as goal

pub returns-then-f-at : goal.returns-then-f-at
returns-then-f-at c = search cuts

pub slice_bounds-result-count-2 : goal.slice_bounds-result-count-2
slice_bounds-result-count-2 c = search cuts

pub slice_bounds-result-start-2 : goal.slice_bounds-result-start-2
slice_bounds-result-start-2 c = search cuts

pub slice_bounds-result-end-2 : goal.slice_bounds-result-end-2
slice_bounds-result-end-2 c = search cuts

pub returns : goal.returns
returns c = search cuts
