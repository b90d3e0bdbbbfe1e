use Rattle.forms.proofs.Straight.{chained}
use Rattle.forms.proofs.is_filled.Goals as goal

pub every_in-requires : goal.every_in-requires
every_in-requires c = search chained
