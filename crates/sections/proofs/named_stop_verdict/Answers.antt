use Rattle.sections.proofs.Offences.{named-checks}
use Rattle.sections.proofs.named_stop_verdict.Goals as goal

pub returns-then-is_named : goal.returns-then-is_named
returns-then-is_named c = search named-checks

pub returns : goal.returns
returns c = search named-checks
