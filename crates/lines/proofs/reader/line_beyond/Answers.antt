use Rattle.lines.proofs.reader.Skipping.{passing}
use Rattle.lines.proofs.reader.line_beyond.Goals as goal

pub cut_to-requires : goal.cut_to-requires
cut_to-requires c = search passing

pub overflow_add-end : goal.overflow_add-end
overflow_add-end c = search passing
