use Rattle.index.proofs.Sections.{sections}
use Rattle.index.proofs.class_section.Goals as goal

pub bounds-w-5 : goal.bounds-w-5
bounds-w-5 c = search sections

pub bounds-w-8 : goal.bounds-w-8
bounds-w-8 c = search sections
