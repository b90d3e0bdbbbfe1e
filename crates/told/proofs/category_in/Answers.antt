use Rattle.told.proofs.category_in.Goals as goal

pub returns : goal.returns
returns c = cc
