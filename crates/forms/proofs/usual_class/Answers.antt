use Rattle.forms.proofs.Straight.{usual}
use Rattle.forms.proofs.usual_class.Goals as goal

pub returns-then-line-lt-SUPPLEMENT : goal.returns-then-line-lt-SUPPLEMENT
returns-then-line-lt-SUPPLEMENT c = search usual

pub class_fits-requires : goal.class_fits-requires
class_fits-requires c = search usual

pub returns-then-line-le-MOST_FILE_BYTES : goal.returns-then-line-le-MOST_FILE_BYTES
returns-then-line-le-MOST_FILE_BYTES c = search usual

pub returns : goal.returns
returns c = search usual
