use Rattle.cover.proofs.Turn.{turns}
use Rattle.cover.proofs.end_at.Goals as goal

pub overflow_sub-width : goal.overflow_sub-width
overflow_sub-width c = search turns

pub legs_at-legs-requires : goal.legs_at-legs-requires
legs_at-legs-requires c = search turns

pub returns : goal.returns
returns c = search turns
