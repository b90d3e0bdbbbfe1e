use Rattle.base.proofs.Laws.{tests}
use Rattle.probe.proofs.probe_form.Goals as goal

pub kind_by-requires : goal.kind_by-requires
kind_by-requires c = search tests

pub line_form-requires : goal.line_form-requires
line_form-requires c = search tests

pub flat_form-requires : goal.flat_form-requires
flat_form-requires c = search tests

pub returns : goal.returns
returns c = cc
