use Rattle.forms.proofs.Straight.{usual}
use Rattle.forms.proofs.usual_stop.Goals as goal

pub returns-then-line-lt-NAMES : goal.returns-then-line-lt-NAMES
returns-then-line-lt-NAMES c = search usual

pub stop_fits-requires : goal.stop_fits-requires
stop_fits-requires c = search usual

pub returns-then-line-le-MOST_FILE_BYTES : goal.returns-then-line-le-MOST_FILE_BYTES
returns-then-line-le-MOST_FILE_BYTES c = search usual

pub returns : goal.returns
returns c = search usual
