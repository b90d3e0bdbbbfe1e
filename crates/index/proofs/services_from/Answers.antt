use Rattle.index.proofs.Sections.{sections}
use Rattle.index.proofs.services_from.Goals as goal

pub bounds-w-8 : goal.bounds-w-8
bounds-w-8 c = search sections
