use Rattle.sections.proofs.Places.{places}
use Rattle.sections.proofs.stop_place.Goals as goal

pub overflow_cast-result : goal.overflow_cast-result
overflow_cast-result c = search places

pub returns-in-Some : goal.returns-in-Some
returns-in-Some c = search places

pub returns-in-None : goal.returns-in-None
returns-in-None c = search places
