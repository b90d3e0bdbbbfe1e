use Rattle.classes.proofs.Lines.{line_reads_lem}
use Rattle.classes.proofs.line_code.Goals as goal

pub skips-requires : goal.skips-requires
skips-requires c = search line_reads_lem

pub returns-then-skips : goal.returns-then-skips
returns-then-skips c = search line_reads_lem

pub code_on-requires : goal.code_on-requires
code_on-requires c = search line_reads_lem

pub returns : goal.returns
returns c = search line_reads_lem
