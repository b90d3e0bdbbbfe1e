use Rattle.index.proofs.Shows.{shows-dates}
use Rattle.index.proofs.dated.Goals as goal

pub bounds-w-1 : goal.bounds-w-1
bounds-w-1 c = search shows-dates

pub bounds-w-2 : goal.bounds-w-2
bounds-w-2 c = search shows-dates

pub returns : goal.returns
returns c = search shows-dates
