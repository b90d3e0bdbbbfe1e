use Rattle.draft.proofs.Writing.{written}
use Rattle.draft.proofs.put_end.Goals as goal

pub place_code-p-requires : goal.place_code-p-requires
place_code-p-requires c = search written

pub detail_code-d-requires : goal.detail_code-d-requires
detail_code-d-requires c = search written

pub shape_of-ranges : goal.shape_of-ranges
shape_of-ranges c = search written

pub returns : goal.returns
returns c = search written
