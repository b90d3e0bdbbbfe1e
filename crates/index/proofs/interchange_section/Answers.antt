use Rattle.index.proofs.Sections.{sections}
use Rattle.index.proofs.interchange_section.Goals as goal

pub bounds-w-4 : goal.bounds-w-4
bounds-w-4 c = search sections

pub bounds-w-5 : goal.bounds-w-5
bounds-w-5 c = search sections
