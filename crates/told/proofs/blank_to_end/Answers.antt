use Rattle.told.specs.Inner.Marked.{blank_to_end}
use Rattle.told.proofs.Form.{chains}
use Rattle.told.proofs.blank_to_end.Goals as goal

pub all_in-requires : goal.all_in-requires
all_in-requires c = search chains

pub every_in-requires : goal.every_in-requires
every_in-requires c = search chains

pub returns-then-all_in : goal.returns-then-all_in
unfolding blank_to_end
returns-then-all_in c = search chains

pub returns : goal.returns
unfolding blank_to_end
returns c = search chains
