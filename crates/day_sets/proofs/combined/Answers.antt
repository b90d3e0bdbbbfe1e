use Rattle.day_sets.proofs.Asked.{fields}
use Rattle.day_sets.proofs.combined.Goals as goal

pub returns-in-Union : goal.returns-in-Union
returns-in-Union c = search fields

pub returns-in-Intersection : goal.returns-in-Intersection
returns-in-Intersection c = search fields

pub returns-in-Difference : goal.returns-in-Difference
returns-in-Difference c = search fields
