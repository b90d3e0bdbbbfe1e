use Rattle.forms.proofs.Straight.{chained}
use Rattle.forms.proofs.blank_at.Goals as goal

pub column_at-requires : goal.column_at-requires
column_at-requires c = search chained

pub returns : goal.returns
returns c = search chained
