use Rattle.index.proofs.Sections.{sections}
use Rattle.index.proofs.stop_section.Goals as goal

pub bounds-w-3 : goal.bounds-w-3
bounds-w-3 c = search sections

pub bounds-w-4 : goal.bounds-w-4
bounds-w-4 c = search sections
