use Rattle.table.proofs.Records.{front}
use Rattle.table.proofs.used_words.Goals as goal

pub bounds-w-0 : goal.bounds-w-0
bounds-w-0 c = search front

pub slice_bounds-result-end : goal.slice_bounds-result-end
slice_bounds-result-end c = search front
