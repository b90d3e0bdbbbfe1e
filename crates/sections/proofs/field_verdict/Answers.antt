use Rattle.sections.proofs.Offences.{field-checks}
use Rattle.sections.proofs.field_verdict.Goals as goal

pub returns-then-number-eq0 : goal.returns-then-number-eq0
returns-then-number-eq0 c = search field-checks

pub returns-then-has_number : goal.returns-then-has_number
returns-then-has_number c = search field-checks

pub returns-then-is_framed : goal.returns-then-is_framed
returns-then-is_framed c = search field-checks

pub returns : goal.returns
returns c = search field-checks
