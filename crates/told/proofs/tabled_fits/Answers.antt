use Rattle.told.proofs.Form.{tabled}
use Rattle.told.proofs.tabled_fits.Goals as goal

pub returns : goal.returns
returns c = search tabled
