use Rattle.index.proofs.Sections.{sections}
use Rattle.index.proofs.field_section.Goals as goal

pub bounds-w-3 : goal.bounds-w-3
bounds-w-3 c = search sections
