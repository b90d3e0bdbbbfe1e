use Rattle.forms.proofs.Rules.{dates}
use Rattle.forms.proofs.is_date.Goals as goal

pub every_in-requires : goal.every_in-requires
every_in-requires c = search dates

pub column_at-requires : goal.column_at-requires
column_at-requires c = search dates

pub every_in-requires-then-column_at-eq46 : goal.every_in-requires-then-column_at-eq46
every_in-requires-then-column_at-eq46 c = search dates

pub column_at-requires-then-every_in-2 : goal.column_at-requires-then-every_in-2
column_at-requires-then-every_in-2 c = search dates

pub every_in-requires-then-column_at-eq46-2 : goal.every_in-requires-then-column_at-eq46-2
every_in-requires-then-column_at-eq46-2 c = search dates

pub returns-then-column_at-eq46-2 : goal.returns-then-column_at-eq46-2
returns-then-column_at-eq46-2 c = search dates

pub returns-else-column_at-eq46-2 : goal.returns-else-column_at-eq46-2
returns-else-column_at-eq46-2 c = search dates

pub returns-else-every_in-2 : goal.returns-else-every_in-2
returns-else-every_in-2 c = search dates

pub returns-else-column_at-eq46 : goal.returns-else-column_at-eq46
returns-else-column_at-eq46 c = search dates

pub returns-else-every_in : goal.returns-else-every_in
returns-else-every_in c = search dates
