use Rattle.draft.proofs.Writing.{line-drafts, other-drafts}
use Rattle.draft.proofs.draft_line.Goals as goal

pub enum_known-said : goal.enum_known-said
enum_known-said c = search line-drafts

pub draft_call-requires : goal.draft_call-requires
draft_call-requires c = search line-drafts

pub shape_of-calls-in-Calls : goal.shape_of-calls-in-Calls
shape_of-calls-in-Calls c = search line-drafts

pub enum_known-said-in-Ranges-1 : goal.enum_known-said-in-Ranges-1
enum_known-said-in-Ranges-1 c = search line-drafts

pub draft_range-requires : goal.draft_range-requires
draft_range-requires c = search line-drafts

pub shape_of-ranges : goal.shape_of-ranges
shape_of-ranges c = search line-drafts

pub returns-in-Calls-clause-ranges_after : goal.returns-in-Calls-clause-ranges_after
returns-in-Calls-clause-ranges_after c = search line-drafts

pub returns-in_default-said : goal.returns-in_default-said
returns-in_default-said c =
    record { value = search other-drafts; calls_after = search other-drafts; ranges_after = search other-drafts }

pub returns : goal.returns
returns c = record { value = search line-drafts; calls_after = search line-drafts; ranges_after = search line-drafts }
