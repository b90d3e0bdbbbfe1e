use Rattle.sections.proofs.Offences.{interchange-checks}
use Rattle.sections.proofs.interchange_verdict.Goals as goal

pub returns-then-number-eq-ALL_STOPS : goal.returns-then-number-eq-ALL_STOPS
returns-then-number-eq-ALL_STOPS c = search interchange-checks

pub returns-then-count-eq0 : goal.returns-then-count-eq0
returns-then-count-eq0 c = search interchange-checks

pub returns-then-has_number : goal.returns-then-has_number
returns-then-has_number c = search interchange-checks

pub returns-then-known_stop : goal.returns-then-known_stop
returns-then-known_stop c = search interchange-checks

pub returns : goal.returns
returns c = search interchange-checks
