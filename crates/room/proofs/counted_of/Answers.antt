use Rattle.room.proofs.Laws.{counting}
use Rattle.room.proofs.counted_of.Goals as goal

pub returns-then-bytes-gt-MOST_FILE_BYTES : goal.returns-then-bytes-gt-MOST_FILE_BYTES
returns-then-bytes-gt-MOST_FILE_BYTES c = search counting

pub returns : goal.returns
returns c = search counting
