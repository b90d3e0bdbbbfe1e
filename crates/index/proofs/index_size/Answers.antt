use Rattle.index.proofs.Sections.{sections}
use Rattle.index.proofs.index_size.Goals as goal

pub bounds-w-6 : goal.bounds-w-6
bounds-w-6 c = search sections
