use Rattle.service.proofs.Drafts.{read-counted}
use Rattle.service.proofs.check_service.Goals as goal

pub draft_checks-requires-clause-counted : goal.draft_checks-requires-clause-counted
draft_checks-requires-clause-counted c = read-counted _ _ _ _ _ _ _ _ _ c.read_checked.ensures _ c.in_ok-d.was
