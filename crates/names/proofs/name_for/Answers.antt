use Rattle.names.proofs.Fields.{answering}
use Rattle.names.proofs.name_for.Goals as goal

pub returns-then-field-gt-MOST_NAME_BYTES : goal.returns-then-field-gt-MOST_NAME_BYTES
returns-then-field-gt-MOST_NAME_BYTES c = search answering

pub returns-in_err-found : goal.returns-in_err-found
returns-in_err-found c = search answering

pub returns-in-Some : goal.returns-in-Some
returns-in-Some c = search answering

pub returns-in-None : goal.returns-in-None
returns-in-None c = search answering
