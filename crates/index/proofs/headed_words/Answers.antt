use Rattle.index.proofs.Sections.{heads}
use Rattle.index.proofs.headed_words.Goals as goal

pub slice_bounds-result-end : goal.slice_bounds-result-end
slice_bounds-result-end c = search heads
