use Rattle.cover.proofs.Turn.{turns}
use Rattle.cover.proofs.in_turn.Goals as goal

pub loop-left-init : goal.loop-left-init
loop-left-init c = search turns

pub begins_at-requires : goal.begins_at-requires
begins_at-requires c = search turns

pub returns-then-not-begins_at : goal.returns-then-not-begins_at
returns-then-not-begins_at c = search turns

pub end_at-leg-requires : goal.end_at-leg-requires
end_at-leg-requires c = search turns

pub overflow_add-at : goal.overflow_add-at
overflow_add-at c = search turns

pub overflow_sub-left : goal.overflow_sub-left
overflow_sub-left c = search turns

pub loop-left-smaller : goal.loop-left-smaller
loop-left-smaller c = search turns

pub loop-left-preserved : goal.loop-left-preserved
loop-left-preserved c = search turns

pub returns : goal.returns
returns c = search turns
