use Rattle.forms.proofs.Rules.{kinds}
use Rattle.forms.proofs.kind_of.Goals as goal

pub column_at-a-requires : goal.column_at-a-requires
column_at-a-requires c = search kinds

pub column_at-requires : goal.column_at-requires
column_at-requires c = search kinds

pub column_at-requires-in-42 : goal.column_at-requires-in-42
column_at-requires-in-42 c = search kinds

pub starred_kind-requires : goal.starred_kind-requires
starred_kind-requires c = search kinds

pub returns-in-42 : goal.returns-in-42
returns-in-42 c = search kinds

pub returns-in-48-to-57 : goal.returns-in-48-to-57
returns-in-48-to-57 c = search kinds

pub returns-in_default : goal.returns-in_default
returns-in_default c = search kinds

pub returns-in_default-2 : goal.returns-in_default-2
returns-in_default-2 c = search kinds
