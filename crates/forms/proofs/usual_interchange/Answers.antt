use Rattle.forms.proofs.Straight.{usual}
use Rattle.forms.proofs.usual_interchange.Goals as goal

pub returns-then-line-lt-SECOND_END : goal.returns-then-line-lt-SECOND_END
returns-then-line-lt-SECOND_END c = search usual

pub interchange_fits-requires : goal.interchange_fits-requires
interchange_fits-requires c = search usual

pub returns-then-line-le-MOST_FILE_BYTES : goal.returns-then-line-le-MOST_FILE_BYTES
returns-then-line-le-MOST_FILE_BYTES c = search usual

pub returns : goal.returns
returns c = search usual
