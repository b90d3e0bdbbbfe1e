use Rattle.index.proofs.Quick.{refusals}
use Rattle.index.proofs.quick_refusal.Goals as goal

pub is_long-requires : goal.is_long-requires
is_long-requires c = search refusals
