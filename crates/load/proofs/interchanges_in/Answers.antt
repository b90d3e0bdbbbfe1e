use Rattle.base.proofs.Laws.{tests}
use Rattle.load.proofs.Helper.{split-stops, split-lent, front-stays}
use Rattle.load.proofs.interchanges_in.Goals as goal

pub check_interchanges-requires-clause-map_of : goal.check_interchanges-requires-clause-map_of
check_interchanges-requires-clause-map_of c = search split-stops

pub check_interchanges-requires-clause-lent : goal.check_interchanges-requires-clause-lent
check_interchanges-requires-clause-lent c = search split-lent

pub returns-clause-m_unchanged : goal.returns-clause-m_unchanged
returns-clause-m_unchanged c = search front-stays
