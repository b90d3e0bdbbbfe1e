-- `reader::lines_in` meets its contract: the lines that end before the loop's place, and those of the text from there on, are all. Assumes nothing.
use Rattle.lines.proofs.reader.Count.{counting}
use Rattle.lines.proofs.reader.lines_in.Goals as goal

pub overflow_add-result : goal.overflow_add-result
overflow_add-result c = search counting
