use Rattle.classes.proofs.Lines.{line_reads_lem}
use Rattle.classes.proofs.group_on.Goals as goal

pub skips-requires : goal.skips-requires
skips-requires c = search line_reads_lem

pub returns-then-skips : goal.returns-then-skips
returns-then-skips c = search line_reads_lem

pub column_at-requires : goal.column_at-requires
column_at-requires c = search line_reads_lem

pub returns-then-column_at-eq32 : goal.returns-then-column_at-eq32
returns-then-column_at-eq32 c = search line_reads_lem

pub returns-else-column_at-eq32 : goal.returns-else-column_at-eq32
returns-else-column_at-eq32 c = search line_reads_lem
