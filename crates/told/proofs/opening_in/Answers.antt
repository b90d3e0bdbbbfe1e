use Rattle.base.proofs.Laws.{tests}
use Rattle.told.proofs.opening_in.Goals as goal

pub number_at-requires : goal.number_at-requires
number_at-requires c = search tests

pub three_bytes-requires : goal.three_bytes-requires
three_bytes-requires c = search tests

pub three_bytes-requires-2 : goal.three_bytes-requires-2
three_bytes-requires-2 c = search tests

pub number_in-requires : goal.number_in-requires
number_in-requires c = search tests

pub number_in-requires-2 : goal.number_in-requires-2
number_in-requires-2 c = search tests

pub returns : goal.returns
returns c = cc
