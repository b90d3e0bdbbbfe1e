use Rattle.sections.proofs.Offences.{stop-checks}
use Rattle.sections.proofs.stop_verdict.Goals as goal

pub returns-then-is_barred : goal.returns-then-is_barred
returns-then-is_barred c = search stop-checks

pub returns-then-has_number : goal.returns-then-has_number
returns-then-has_number c = search stop-checks

pub returns : goal.returns
returns c = search stop-checks
