use Rattle.names.proofs.Laws.{asking}
use Rattle.names.proofs.known_language.Goals as goal

pub returns-then-letter-eq-ANY : goal.returns-then-letter-eq-ANY
returns-then-letter-eq-ANY c = search asking

pub is_language-requires : goal.is_language-requires
is_language-requires c = search asking

pub returns : goal.returns
returns c = search asking
