use Rattle.plan_words.proofs.Putting.{beginning}
use Rattle.plan_words.proofs.put_plan.Goals as goal

pub put_services-requires-clause-first_in_bounds : goal.put_services-requires-clause-first_in_bounds
put_services-requires-clause-first_in_bounds c = search beginning
