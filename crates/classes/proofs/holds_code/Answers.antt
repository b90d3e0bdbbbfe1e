use Rattle.classes.proofs.Lines.{line_reads_lem}
use Rattle.classes.proofs.holds_code.Goals as goal

pub code_on-requires : goal.code_on-requires
code_on-requires c = search line_reads_lem

pub skips-requires : goal.skips-requires
skips-requires c = search line_reads_lem

pub returns-then-code_on-code : goal.returns-then-code_on-code
returns-then-code_on-code c = search line_reads_lem

pub returns : goal.returns
returns c = search line_reads_lem
