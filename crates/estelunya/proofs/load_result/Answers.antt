use mathlib.Core.Path.{ap, sym}
use Rattle.estelunya.specs.Answers.{load_result}
use Rattle.base.proofs.Laws.{tests}
use Rattle.estelunya.proofs.load_result.Goals as goal

pub enum_known-a : goal.enum_known-a
enum_known-a c = search tests

pub enum_known-a-in-Refused-1 : goal.enum_known-a-in-Refused-1
enum_known-a-in-Refused-1 c = search tests

pub returns-in-Accepted : goal.returns-in-Accepted
returns-in-Accepted c = cc

pub returns-in-Refused : goal.returns-in-Refused
returns-in-Refused c = sym (ap load_result c.in-Refused.is)
