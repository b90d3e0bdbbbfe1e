use native.Mathlib.Omega.{arith}
use Rattle.draft.specs.Inner.Draft.{calls_in, ranges_in}
use Rattle.service_words.proofs.Record.{ranging, range-count}
use Rattle.service_words.proofs.ranges_into.Goals as goal

pub part_into-categories-requires : goal.part_into-categories-requires
part_into-categories-requires c = search ranging

pub part_into-day_ranges-requires : goal.part_into-day_ranges-requires
part_into-day_ranges-requires c = search ranging

pub shape_of-table : goal.shape_of-table
shape_of-table c = search ranging

pub returns : goal.returns
returns c = search ranging
