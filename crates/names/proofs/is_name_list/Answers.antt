use Rattle.names.proofs.Fields.{answering}
use Rattle.names.proofs.is_name_list.Goals as goal

pub returns-then-field-gt-MOST_NAME_BYTES : goal.returns-then-field-gt-MOST_NAME_BYTES
returns-then-field-gt-MOST_NAME_BYTES c = search answering

pub returns : goal.returns
returns c = search answering
