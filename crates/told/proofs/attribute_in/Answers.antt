use Rattle.told.proofs.attribute_in.Goals as goal

pub returns : goal.returns
returns c = cc
