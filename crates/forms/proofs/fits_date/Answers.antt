use Rattle.forms.proofs.Rules.{rules}
use Rattle.forms.proofs.fits_date.Goals as goal

pub part-requires : goal.part-requires
part-requires c = search rules

pub is_date-requires : goal.is_date-requires
is_date-requires c = search rules

pub returns : goal.returns
returns c = search rules
