use Rattle.day_sets.proofs.Asked.{complement-is, fields}
use Rattle.day_sets.proofs.other_days.Goals as goal

pub returns : goal.returns
returns c = complement-is _ _ _ c.in_frame.ensures c.requires _ _ c.all_bits.ensures c.without.ensures
