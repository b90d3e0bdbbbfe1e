use Rattle.sections.proofs.Offences.{line-checks}
use Rattle.sections.proofs.line_verdict.Goals as goal

pub field_verdict-requires-clause-text_value : goal.field_verdict-requires-clause-text_value
field_verdict-requires-clause-text_value c = search line-checks

pub returns-in-BitFields : goal.returns-in-BitFields
returns-in-BitFields c = search line-checks

pub returns-in-Stops : goal.returns-in-Stops
returns-in-Stops c = search line-checks

pub returns-in-Interchanges : goal.returns-in-Interchanges
returns-in-Interchanges c = search line-checks
